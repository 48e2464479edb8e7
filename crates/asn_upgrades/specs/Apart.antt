-- A refusal for what sets the versions of a type apart.
use Rattle.std.specs.Prelude.{map}
use Rattle.asn_fault.specs.Failure.{Cause, Failure}
use Rattle.asn_growth.specs.ComesUpon.{ComesUpon, IsAsMuch}
use Rattle.asn_model.specs.Notation.{Notation}
use Rattle.asn_model.specs.Shape.{Shape}
use Rattle.asn_model.specs.Tree.{Tree}

-- The reader of the shape comes upon such a reason in the tree, and the failure states it, under the path that leads there.
pub record IsApart (n : Notation) (s : Shape) (t : Tree) (IsSuch : Cause → Type 0) (failure : Failure) : Type 0 where
  pub reason : Cause
  pub upon : ComesUpon n s t (map (λ level. level.name) failure.path) reason
  pub such : IsSuch reason
  pub told : IsAsMuch reason failure.cause
