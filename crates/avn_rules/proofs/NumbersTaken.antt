-- The number of a text.
use Rattle.std.proofs.Common.{◌≡◌, refl, ap, ◌∙◌, ℕ, List, Option, Some, None}
use Rattle.asn_core.specs.Numbers.{signed}
use Rattle.asn_core.specs.declared.whole_number.WholeNumber.{WholeNumber}
use Rattle.asn_fault.specs.Failure.{Cause}
use Rattle.asn_traits.specs.Leaf.{LeafFailure, number_or, as_leaf}
use Rattle.asn_traits.specs.Notation.{Notation}
use Rattle.asn_coding.specs.Opening.{IsTaken}
use Rattle.asn_traits.specs.Tree.{Tree}
use Rattle.asn_traits.specs.Value.{Value}
use Rattle.asn_model.specs.declared.leaves.LeafKind.TheVariants.{Number}
use Rattle.asn_model.specs.declared.leaves.OwnedLeaf.TheVariants as got
use Rattle.avn_grammar.specs.Tree.{Tree as AvnTree, integer}
use Rattle.avn_rules.specs.Numbers.{ReadsNumber}

pub number_taken : (x : List ℕ) (t : AvnTree) (o : Option WholeNumber) → t ≡ integer x → ReadsNumber x (Some o) → IsTaken Notation.avn Number (Tree.avn t) (got.Number o)
number_taken x t (Some n) is e = record {
  value = Value.int (signed n.negative n.magnitude);
  reads = ap (λ u. as_leaf Notation.avn Number (Tree.avn u)) is ∙ ap (number_or (LeafFailure.because (Cause.integer_parse_error x))) e;
  is = refl;
  kind = refl;
}
number_taken x t None is e = record {
  value = Value.int (signed e.0 e.1);
  reads = ap (λ u. as_leaf Notation.avn Number (Tree.avn u)) is ∙ ap (number_or (LeafFailure.because (Cause.integer_parse_error x))) e.2;
  is = (e.0, e.1, refl, e.3);
  kind = refl;
}
