-- The whole numbers of JSON as sign and magnitude.
use Rattle.std.specs.Prelude.{◌≡◌, Option, Some, None, Ok, Err}
use Rattle.serde_json.specs.Data.{Data}
use Rattle.asn_core.specs.Numbers.{signed}
use Rattle.asn_traits.specs.Leaf.{LeafFailure, as_leaf, needed}
use Rattle.asn_traits.specs.Notation.{Notation}
use Rattle.asn_traits.specs.Tree.{Tree}
use Rattle.asn_traits.specs.Value.{Value}
use Rattle.asn_model.specs.declared.leaves.LeafKind.TheVariants.{Number}
use Rattle.asn_core.specs.declared.whole_number.WholeNumber.{WholeNumber}

-- The whole number that a JSON value is, and none exactly where it is none.
abbrev pub IsWhole : Data → Option WholeNumber → Type 0
IsWhole d (Some n) = as_leaf Notation.jer Number (Tree.json d) ≡ Ok (Value.int (signed n.negative n.magnitude))
IsWhole d None = as_leaf Notation.jer Number (Tree.json d) ≡ Err (LeafFailure.mismatch (needed Notation.jer Number))
