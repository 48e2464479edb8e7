-- JSON values that are none of a kind.
use Rattle.std.proofs.Common.{◌≡◌, refl, [], ◌∷◌, Some, Err}
use Rattle.asn_fault.specs.Failure.{Failure}
use Rattle.asn_coding.proofs.Refusing.{no_leaf}
use Rattle.asn_coding.specs.Answer.{Refuses, RefusesLeaf}
use Rattle.asn_model.specs.declared.leaves.LeafKind.{LeafKind}
use Rattle.asn_traits.specs.FailsWith.{FailsWith}
use Rattle.asn_traits.specs.Leaf.{LeafFailure, as_leaf, kind_of}
use Rattle.asn_traits.specs.Notation.{Notation}
use Rattle.asn_traits.specs.Shape.{Shape}
use Rattle.jer_rules.specs.Pending.{tree_of}
use Rattle.serde_json.specs.declared.value.Value.{Value}

-- A value that is none of a kind decodes to none of a type whose values are of it, for the reason that the failure tells.
pub tells_none : (k : LeafKind) (value : Value) (blame : LeafFailure) (e : Failure) → as_leaf Notation.jer k (tree_of value) ≡ Err blame → RefusesLeaf Notation.jer (tree_of value) blame e
    → (s : Shape) → kind_of s ≡ Some k → Refuses Notation.jer (FailsWith Notation.jer s (Some (tree_of value))) e
tells_none k value blame e says tells = no_leaf k (tree_of value) blame (Some (tree_of value) ∷ []) [] e refl says tells
