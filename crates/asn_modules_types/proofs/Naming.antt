-- Words that name numbers and items.
use Rattle.std.proofs.Common.{◌≡◌, ℕ, ◌+◌, ◌≤◌, ◌<◌, List, [], map, Bool, true, false, if◌then◌else◌, Option, Some, None, String, string_bytes, ap, sym, ◌∙◌, get_or, drop, length}
use Rattle.std.proofs.lemmas.List.{drop_all, drop_more}
use Rattle.std.specs.Global.{Global, Vec}
use Rattle.std.specs.Option.{option_map}
use Rattle.std.specs.Str.{bytes_eq}
use Rattle.asn_modules_errors.specs.Slices.{text_of}
use Rattle.asn_modules_grammar.specs.notation.View.{items_view}
use Rattle.asn_modules_grammar.specs.declared.notation.number.Item.{Item}
use Rattle.asn_modules_grammar.specs.declared.notation.number.NamedNumber.{NamedNumber}
use Rattle.asn_modules_types.specs.Leaves.{item_names}
use Rattle.asn_modules_types.specs.Lists.{added_of, implied}
use Rattle.asn_modules_types.specs.Numbers.{constant_in, named_number}
use Rattle.asn_modules_types.specs.Scopes.{Scope}
use Rattle.asn_modules_types.proofs.Separated.{items_added, items_closed}

pub named_here : (s : Scope) (ns : List NamedNumber) (i : ℕ) (word : List ℕ) (d : NamedNumber) → i < length ns → bytes_eq (text_of s.text (get_or ns i d).name) word ≡ true → named_number s (drop i ns) word ≡ Some (constant_in s (get_or ns i d).number)
named_here s ns i word d h e =
    ap (λ l. named_number s l word) (drop_more ns i d h) ∙ ap (λ b. if b then Some (constant_in s (get_or ns i d).number) else named_number s (drop (i + 1) ns) word) e

pub named_past : (s : Scope) (ns : List NamedNumber) (i : ℕ) (word : List ℕ) (d : NamedNumber) → i < length ns → bytes_eq (text_of s.text (get_or ns i d).name) word ≡ false → named_number s (drop i ns) word ≡ named_number s (drop (i + 1) ns) word
named_past s ns i word d h e =
    ap (λ l. named_number s l word) (drop_more ns i d h) ∙ ap (λ b. if b then Some (constant_in s (get_or ns i d).number) else named_number s (drop (i + 1) ns) word) e

pub named_none : (s : Scope) (ns : List NamedNumber) (i : ℕ) (word : List ℕ) → length ns ≤ i → named_number s (drop i ns) word ≡ None
named_none s ns i word h = ap (λ l. named_number s l word) (drop_all i ns h)

-- The items after the extension marker of an ENUMERATED.
module _ (text : List ℕ) (extensible : Bool) (items : Vec Item) (o : Option (Vec Item)) (made : Option (Vec (String Global))) where
  abbrev texts : Option (Vec (String Global)) → Option (List (List ℕ))
  texts x = option_map (λ v. map string_bytes v.items) x

  abbrev pub added_items : Option (List (List ℕ))
  added_items = option_map (item_names text) (implied extensible (added_of (items_view items o)))

  behind_is : (x : Option (Vec Item)) (a : Option (List Item)) → o ≡ x → added_of (items_view items x) ≡ a → option_map (item_names text) (implied extensible a) ≡ added_items
  behind_is x a is e = sym (ap (λ y. option_map (item_names text) (implied extensible (added_of (items_view items y)))) is ∙ ap (λ y. option_map (item_names text) (implied extensible y)) e)

  pub items_extended : (added : Vec Item) (names : Vec (String Global)) → o ≡ Some added → made ≡ Some names → map string_bytes names.items ≡ item_names text added.items → option_map (λ v. map string_bytes v.items) made ≡ added_items
  items_extended added names is m e = ap texts m ∙ ap Some e ∙ behind_is (Some added) (Some added.items) is (items_added items added)

  pub items_implied : (names : Vec (String Global)) → o ≡ None → made ≡ Some names → names.items ≡ [] → extensible ≡ true → option_map (λ v. map string_bytes v.items) made ≡ added_items
  items_implied names is m e x =
      ap texts m ∙ ap (λ l. Some (map string_bytes l)) e ∙ sym (ap (λ b. option_map (item_names text) (if b then Some [] else None)) x) ∙ behind_is None None is (items_closed items)

  pub items_ended : o ≡ None → made ≡ None → extensible ≡ false → option_map (λ v. map string_bytes v.items) made ≡ added_items
  items_ended is m x = ap texts m ∙ sym (ap (λ b. option_map (item_names text) (if b then Some [] else None)) x) ∙ behind_is None None is (items_closed items)
