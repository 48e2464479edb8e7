-- Values that are at hand.
use Rattle.std.proofs.Common.{◌≡◌, ap, refl, List, ◌∷◌, Option, Some, None, Ok, Bool, rules}
use Rattle.std.specs.Prelude.{IfSome}
use Rattle.asn_core.specs.Numbers.{signed}
use Rattle.asn_core.specs.declared.whole_number.WholeNumber.{WholeNumber}
use Rattle.asn_slots.specs.Trees.{trees_of}
use Rattle.asn_coding.proofs.LeafValues.{taken}
use Rattle.asn_coding.specs.Opening.{TakesLeaf}
use Rattle.asn_model.specs.declared.leaves.LeafKind.TheVariants.{Boolean, Number}
use Rattle.asn_model.specs.declared.leaves.OwnedLeaf.{OwnedLeaf}
use Rattle.asn_traits.specs.Notation.{Notation}
use Rattle.asn_traits.specs.Tree.{Slot}
use Rattle.asn_traits.specs.Value.{Value as AbstractValue}
use Rattle.serde_json.specs.Data.{Data}
use Rattle.serde_json.specs.View.{view, number_view}
use Rattle.serde_json.specs.declared.number.Number.{Number as JsonNumber}
use Rattle.serde_json.specs.declared.value.Value.{Value, the_lemmas}
use Rattle.serde_json.specs.declared.value.Value.TheVariants as json
use Rattle.jer_rules.specs.Numbers.{IsWhole}
use Rattle.jer_rules.specs.Pending.{tree_of}

-- The data of a number.
pub view-Number : (x : JsonNumber) → view (json.Number x) ≡ Data.number (number_view x)
view-Number x = search (rules, the_lemmas)

-- The data of a flag.
pub view-Bool : (b : Bool) → view (json.Bool b) ≡ Data.boolean b
view-Bool b = search (rules, the_lemmas)

-- The whole number that the first value is, if it is one.
pub number_there : (slots rest : List (Option Value)) (v : Value) (d : Data) (o : Option WholeNumber) → slots ≡ Some v ∷ rest → view v ≡ d → IsWhole d o
    → IfSome o (λ n. (later : List Slot) × TakesLeaf Notation.jer Number (trees_of tree_of slots) (Ok (OwnedLeaf.Number (Some n))) later)
number_there slots rest v d (Some n) was is whole =
    (trees_of tree_of rest, taken (tree_of v) (OwnedLeaf.Number (Some n)) _ _ (ap (trees_of tree_of) was) (rw is (record { value = AbstractValue.int (signed n.negative n.magnitude); reads = whole; is = refl; kind = refl })))
number_there slots rest v d None was is whole = tt

-- A flag that is the first value.
pub flag_there : (slots rest : List (Option Value)) (v : Value) (b : Bool) → slots ≡ Some v ∷ rest → view v ≡ Data.boolean b
    → (later : List Slot) × TakesLeaf Notation.jer Boolean (trees_of tree_of slots) (Ok (OwnedLeaf.Boolean b)) later
flag_there slots rest v b was is =
    (trees_of tree_of rest, taken (tree_of v) (OwnedLeaf.Boolean b) _ _ (ap (trees_of tree_of) was) (rw is (record { value = AbstractValue.boolean b; reads = refl; is = refl; kind = refl })))
