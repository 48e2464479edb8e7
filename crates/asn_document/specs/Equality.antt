-- When two JSON values are the same tree.
use Rattle.std.specs.Prelude.{Bool, true, false, ◌&&◌, nat_eq}
use Rattle.std.specs.Ordering.{int_eq}
use Rattle.std.specs.Str.{bytes_eq}
use Rattle.std.specs.Bool.{beq}
use Rattle.serde_json.specs.Data.{Num, unsigned, negative, Data, null, boolean, number, string, array, object, Items, no_items, item, Members, no_members, member}

-- The numbers are the same whole number. A float, which no document holds, is the same as none.
abbrev pub same_number : Num → Num → Bool
same_number (unsigned m) (unsigned n) = nat_eq m n
same_number (negative y) (negative z) = int_eq y z
same_number m n = false

abbrev mutual
  -- The values have the same kind and the same parts.
  pub same_tree : Data → Data → Bool
  same_tree null null = true
  same_tree (boolean b) (boolean c) = beq b c
  same_tree (number m) (number n) = same_number m n
  same_tree (string s) (string t) = bytes_eq s t
  same_tree (array ds) (array es) = same_items ds es
  same_tree (object ms) (object ns) = same_members ms ns
  same_tree d e = false

  -- The elements are the same, one by one.
  pub same_items : Items → Items → Bool
  same_items no_items no_items = true
  same_items (item d ds) (item e es) = same_tree d e && same_items ds es
  same_items ds es = false

  -- The members are the same, key by key.
  pub same_members : Members → Members → Bool
  same_members no_members no_members = true
  same_members (member k d ms) (member l e ns) = bytes_eq k l && (same_tree d e && same_members ms ns)
  same_members ms ns = false
