-- A value that was read is the value that is made of it.
use Rattle.std.proofs.Common.{◌≡◌, subst, List, Ok}
use Rattle.asn_model.specs.DecodesTo.{DecodesTo}
use Rattle.asn_model.specs.Notation.{Notation}
use Rattle.asn_model.specs.Shape.{Shape}
use Rattle.asn_model.specs.Tree.{Slot}
use Rattle.asn_model.specs.Value.{Value}
use Rattle.asn_coding.specs.Answer.{Answer}

pub viewed : {A B : Type 0} {n : Notation} {s : Shape} {before after : List Slot} (f : A → Value) (g : B → Value) (x : A) (y : B) → f x ≡ g y → Answer n s f before (Ok x) after → Answer n s g before (Ok y) after
viewed {n = n} {s = s} f g x y same (slot, was, says) = (slot, was, subst (DecodesTo n s slot) same says)
