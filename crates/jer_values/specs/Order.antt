-- JSON values whose members are in order.
use Rattle.std.specs.Prelude.{◌≡◌, ℕ, List}
use Rattle.std.specs.Cmp.Lexicographic.{slice_cmp}
use Rattle.std.specs.Ordering.{nat_cmp}
use Rattle.std.specs.declared.cmp.Ordering.TheVariants.{Less}
use Rattle.serde_json.specs.Data.{Data, Items, Members}

-- The name is before those of the members, in byte order.
abbrev pub IsBefore : List ℕ → Members → Type 0
IsBefore k Members.no_members = Unit {0}
IsBefore k (Members.member l d ms) = (slice_cmp nat_cmp k l ≡ Less) × IsBefore k ms

abbrev mutual
  -- Every object in the value has each name once, in byte order.
  pub IsOrdered : Data → Type 0
  IsOrdered (Data.array ds) = AreOrdered ds
  IsOrdered (Data.object ms) = HasOrdered ms
  IsOrdered _ = Unit {0}

  -- So has every object in these elements.
  pub AreOrdered : Items → Type 0
  AreOrdered Items.no_items = Unit {0}
  AreOrdered (Items.item d ds) = IsOrdered d × AreOrdered ds

  -- So have these members, and every object in them.
  pub HasOrdered : Members → Type 0
  HasOrdered Members.no_members = Unit {0}
  HasOrdered (Members.member k d ms) = IsBefore k ms × IsOrdered d × HasOrdered ms
