-- Why a JSON value is no value of a kind.
use Rattle.std.specs.Prelude.{◌≡◌, Err, Some, string_bytes}
use Rattle.asn_fault.specs.Failure.{Cause, Failure}
use Rattle.asn_coding.specs.Answer.{Refuses}
use Rattle.asn_traits.specs.BitLeaves.{another_length, no_bits}
use Rattle.asn_traits.specs.FailsWith.{FailsWith}
use Rattle.asn_traits.specs.Leaf.{LeafFailure, as_leaf, kind_of, needed, no_object}
use Rattle.asn_traits.specs.Notation.{Notation}
use Rattle.asn_traits.specs.Shape.{Shape}
use Rattle.asn_model.specs.declared.leaves.LeafKind.{LeafKind}
use Rattle.jer_rules.specs.Identifiers.{no_identifier}
use Rattle.jer_rules.specs.Pending.{tree_of}
use Rattle.jer_rules.specs.declared.jer.leaves.NoLeaf.{NoLeaf}
use Rattle.jer_rules.specs.declared.jer.leaves.NoLeaf.TheVariants as no
use Rattle.serde_json.specs.declared.value.Value.{Value}

-- The value is none of the kind for this reason, or memory ran out.
abbrev pub IsNoLeaf : LeafKind → Value → NoLeaf → Type 0
IsNoLeaf k value (no.Kind v) = (v ≡ value) × (as_leaf Notation.jer k (tree_of value) ≡ Err (LeafFailure.mismatch (needed Notation.jer k)))
IsNoLeaf k value no.Octets = as_leaf Notation.jer k (tree_of value) ≡ Err (LeafFailure.because Cause.invalid_jer_octet_string)
IsNoLeaf k value no.Object = as_leaf Notation.jer k (tree_of value) ≡ Err no_object
IsNoLeaf k value no.Digits = as_leaf Notation.jer k (tree_of value) ≡ Err (LeafFailure.because no_bits)
IsNoLeaf k value (no.Count octets size) = as_leaf Notation.jer k (tree_of value) ≡ Err (LeafFailure.because (another_length octets size))
IsNoLeaf k value (no.Arcs text) = as_leaf Notation.jer k (tree_of value) ≡ Err (LeafFailure.because (no_identifier (string_bytes text)))
IsNoLeaf k value no.OutOfMemory = Unit {0}

-- The failure tells why a value that is none of the kind for this reason decodes to none of a type whose values are of the kind.
abbrev pub TellsNoLeaf : LeafKind → NoLeaf → Failure → Type 0
TellsNoLeaf k why e = (value : Value) → IsNoLeaf k value why → (s : Shape) → kind_of s ≡ Some k → Refuses Notation.jer (FailsWith Notation.jer s (Some (tree_of value))) e
