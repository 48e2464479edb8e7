-- What is added to a new frame, which is then closed, is a value.
use Rattle.std.proofs.Common.{List, [], ◌∷◌, ℕ, subst}
use Rattle.asn_model.specs.Notation.{Notation}
use Rattle.asn_model.specs.Shape.{Shape, Fields, SeqKind, FieldAdditions, all_fields}
use Rattle.asn_model.specs.Value.{Fits, Value}
use Rattle.asn_coding.specs.Writing.{Filled, Frame, Maps, Written, as_members, close, named}
use Rattle.asn_coding.proofs.Filling.{push_all-new}

-- The slots of the fields become the members of a SEQUENCE or SET.
pub framed_fields : {S : Type 0} {holds : S → List Frame → Type 0} {names : List (List ℕ)} {old start end new : S} (n : Notation) (kind : SeqKind) (root : Fields) (more : FieldAdditions) (slots : Frame)
    → Maps holds (λ fs. [] ∷ fs) old start → Filled holds n (all_fields root more) names slots start end → Maps holds (close (as_members names)) end new
    → Written holds n (Shape.seq kind root more) (Value.members (named slots names)) old new
framed_fields {holds = holds} {end = end} n kind root more slots opened f closed = record {
  added = λ fs h. closed _ (subst (holds end) (push_all-new slots [] fs) (f.added ([] ∷ fs) (opened fs h)));
  fit = Fits.fits_members f.fit;
  writable = f.writable;
}
