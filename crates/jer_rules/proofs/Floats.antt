-- What JER writes holds no float.
use Rattle.std.proofs.Common.{◌≡◌, refl, ap, sym, ◌∙◌, subst, ℕ, ℤ, pos, negsuc, List, false, Option, Some, None}
use Rattle.std.proofs.lemmas.Bool.{or_from}
use Rattle.std.specs.List.{AllByRecursion}
use Rattle.std.specs.Prelude.{option_map, IfSome, ◌≤◌}
use Rattle.serde_json.specs.Data.{Data, depth}
use Rattle.serde_json.specs.Read.{read, max_depth}
use Rattle.serde_json.specs.Find.{is_float, of_integer}
use Rattle.serde_json.specs.Written.{compact_text, has_float, items_have_float, members_have_float}
use Rattle.asn_traits.specs.Canonical.{jer_data, jer_items, jer_members, canonical_text}
use Rattle.asn_traits.specs.Notation.{Notation}
use Rattle.asn_traits.specs.Sorting.{by_text}
use Rattle.asn_traits.specs.Value.{Value, Values, Slots, elements}
use Rattle.asn_model.proofs.Bags.{each-ordered, jer_items-sorted}
use Rattle.json_floats.proofs.Putting.{put-false}
use Rattle.jer_values.specs.Order.{IsOrdered}
use Rattle.jer_rules.specs.Text.{ReadsBack}
use Rattle.jer_rules.proofs.Ordered.{ordered}

integer-false : (n : ℤ) → is_float (of_integer n) ≡ false
integer-false (pos n) = refl
integer-false (negsuc n) = refl

-- The JSON value that is written for the value holds no float.
abbrev IsWithoutFloat : Value → Type 0
IsWithoutFloat v = has_float (jer_data v) ≡ false

items-of_each : (vs : Values) → AllByRecursion IsWithoutFloat (elements vs) → items_have_float (jer_items vs) ≡ false
items-of_each Values.no_values h = refl
items-of_each (Values.value v vs) h = or_from (has_float (jer_data v)) (items_have_float (jer_items vs)) h.0 (items-of_each vs h.1)

mutual
  -- The JSON value that is written holds no float.
  pub written-false : (v : Value) → has_float (jer_data v) ≡ false
  written-false (Value.int n) = integer-false n
  written-false (Value.bits bits None) = refl
  written-false (Value.bits bits (Some size)) = refl
  written-false (Value.members ms) = members-false ms
  written-false (Value.list vs) = items-of_each vs (each-false vs)
  written-false (Value.bag vs) =
      subst (λ ds. items_have_float ds ≡ false) (sym (jer_items-sorted vs)) (items-of_each _ (each-ordered IsWithoutFloat (by_text (canonical_text Notation.jer)) vs (each-false vs)))
  written-false (Value.choice i v) = or_from (has_float (jer_data v)) false (written-false v) refl
  written-false v = refl

  each-false : (vs : Values) → AllByRecursion IsWithoutFloat (elements vs)
  each-false Values.no_values = tt
  each-false (Values.value v vs) = (written-false v, each-false vs)

  members-false : (ms : Slots) → members_have_float (jer_members ms) ≡ false
  members-false Slots.no_slots = refl
  members-false (Slots.absent n ms) = members-false ms
  members-false (Slots.present n v ms) = put-false n (jer_data v) (jer_members ms) (written-false v) (members-false ms)

-- The text of what is written is the canonical one.
pub text-held : (o : Option Value) (d : Data) (text : List ℕ) → option_map jer_data o ≡ Some d → text ≡ compact_text d → option_map (canonical_text Notation.jer) o ≡ Some text
text-held None d text e h = let x : ◌≡◌ {A = Option Data} None (Some d) = e in cc x
text-held (Some v) d text e h =
    let x : ◌≡◌ {A = Option Data} (Some (jer_data v)) (Some d) = e in
    let same : jer_data v ≡ d = cc x in
    ap Some (sym (h ∙ ap compact_text (sym same)))

-- The text of what was written for a value is read as its tree.
pub back-held : (o : Option Value) (d : Data) (text : List ℕ) → option_map jer_data o ≡ Some d → (IsOrdered d → depth d ≤ max_depth → read text ≡ Some d) → IfSome o (λ v. ReadsBack v text)
back-held None d text e h = tt
back-held (Some v) d text e h =
    let same : jer_data v ≡ d = cc e in
    let in_order = subst IsOrdered same (ordered v) in
    λ within. (subst (λ x. read text ≡ Some x) (sym same) (h in_order (subst (λ x. depth x ≤ max_depth) same within)), written-false v)

-- The tree of what was written for a value is its own.
pub json-held : (o : Option Value) (d e : Data) → option_map jer_data o ≡ Some d → (IsOrdered d → e ≡ d) → option_map jer_data o ≡ Some e
json-held None d e is h = let x : ◌≡◌ {A = Option Data} None (Some d) = is in cc x
json-held (Some v) d e is h =
    let same : jer_data v ≡ d = cc is in
    is ∙ ap Some (sym (h (subst IsOrdered same (ordered v))))
