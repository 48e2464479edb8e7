-- Refusals of a decoder's calls, from what their errors tell.
use Rattle.std.proofs.Common.{◌≡◌, ap, sym, ◌∙◌, subst, refl, ◌⊎◌, inl, inr, ℕ, List, [], ◌∷◌, ◌++◌, Some, None, Err}
use Rattle.std.specs.Prelude.{option_map}
use Rattle.asn_core.specs.declared.codec.Codec.{Codec}
use Rattle.std.specs.List.{slice_get}
use Rattle.asn_fault.specs.Failure.{Failure, Cause, at_root, failure_of}
use Rattle.asn_fault.specs.declared.decode.DecodeError.{DecodeError}
use Rattle.asn_model.specs.Notation.{Notation, notation_of}
use Rattle.asn_model.specs.Shape.{Shape, Fields, Alternatives, AlternativeAdditions, SeqKind, FieldAdditions}
use Rattle.asn_model.specs.Tree.{Tree, Slot, head_slot, as_list, as_members, as_choice}
use Rattle.asn_model.specs.Leaf.{LeafFailure, IsFailureOf, codec_of, as_leaf, kind_of, refined, members_mismatch, list_mismatch, choice_mismatch}
use Rattle.asn_model.specs.FailsWith.{FailsWith, Path}
use Rattle.asn_model.specs.declared.leaves.LeafKind.{LeafKind}
use Rattle.asn_coding.specs.Answer.{Refuses, OfPlace, AtRoot, RefusesLeaf}
use Rattle.asn_names.specs.Rows.{NameRow}
use Rattle.asn_coding.specs.Opening.{IsFirstRepeated, RefusesMembers, RepeatsName}
use Rattle.asn_coding.specs.Tables.{ListsFields, name_rows}
use Rattle.asn_coding.specs.declared.field.Field.{Field}
use Rattle.asn_coding.proofs.NameRows.{row-field}
use Rattle.asn_coding.proofs.Repeated.{first_row}
use Rattle.asn_coding.proofs.Steps.{refuses_by}

-- Lack of memory.
pub out_of_memory : {n : Notation} {P : Path → Cause → Type 0} (c : Codec) (e : Failure) → e ≡ at_root Cause.out_of_memory c → notation_of c ≡ n → Refuses n P e
out_of_memory {n} {P} c e is of = subst (Refuses n P) (sym is) (Refuses.no_memory (refl, of))

-- An error at no field.
pub at_no_field : {n : Notation} {P : Path → Cause → Type 0} (cause : Cause) (c : Codec) (e : Failure) → e ≡ at_root cause c → OfPlace n cause c → P [] cause → Refuses n P e
at_no_field {n} {P} cause c e is of h = subst (Refuses n P) (sym is) (Refuses.stopped h tt of)

-- The slot is absent.
pub absent : {n : Notation} (s : Shape) (slot : Slot) (c : Codec) (e : Failure) → slot ≡ None → notation_of c ≡ n → e ≡ at_root (Cause.end_of_input c) c → Refuses n (FailsWith n s slot) e
absent {n} s slot c e was of is = at_no_field {P = FailsWith n s slot} (Cause.end_of_input c) c e is of (rw was (FailsWith.fails_absent s c of))

-- A tree that is first stops for the reason that the error tells.
first_fails : {n : Notation} (s : Shape) (t : Tree) (blame : LeafFailure) (before after : List Slot) (e : Failure) → before ≡ Some t ∷ after → RefusesLeaf n t blame e
    → ((cause : Cause) → IsFailureOf n t blame cause → FailsWith n s (Some t) [] cause) → Refuses n (FailsWith n s (head_slot before)) e
first_fails {n} s t blame before after e was tells stops =
    refuses_by {P = AtRoot (IsFailureOf n t blame)} {Q = FailsWith n s (head_slot before)} (λ p w h. rw (was, h.0) (stops w h.1)) e tells

-- A tree that is no value of this kind decodes to no value of a shape whose values have the kind.
pub no_leaf : {n : Notation} (k : LeafKind) (t : Tree) (blame : LeafFailure) (before after : List Slot) (e : Failure) → before ≡ Some t ∷ after → as_leaf n k t ≡ Err blame → RefusesLeaf n t blame e
    → (s : Shape) → kind_of s ≡ Some k → Refuses n (FailsWith n s (head_slot before)) e
no_leaf {n} k t blame before after e was says tells s is =
    first_fails s t blame before after e was tells
    (λ w h. FailsWith.fails_leaf s t blame w (ap (option_map (λ j. refined (codec_of n) s (as_leaf n j t))) is ∙ ap (λ r. Some (refined (codec_of n) s r)) says) h)

-- An error that states why.
pub refuses_because : {n : Notation} (cause : Cause) (c : Codec) (t : Tree) (e : Failure) → e ≡ at_root cause c → OfPlace n cause c → RefusesLeaf n t (LeafFailure.because cause) e
refuses_because {n} cause c t e is of = at_no_field {P = AtRoot (IsFailureOf n t (LeafFailure.because cause))} cause c e is of (refl, IsFailureOf.is_because cause)

-- An error that states why, or lack of memory.
pub refuses_because_or_memory : {n : Notation} (cause : Cause) (c : Codec) (t : Tree) (e : Failure) → (e ≡ at_root cause c) ⊎ (e ≡ at_root Cause.out_of_memory c) → OfPlace n cause c → notation_of c ≡ n → RefusesLeaf n t (LeafFailure.because cause) e
refuses_because_or_memory cause c t e (inl is) place of = refuses_because cause c t e is place
refuses_because_or_memory {n} cause c t e (inr is) place of = out_of_memory {P = AtRoot (IsFailureOf n t (LeafFailure.because cause))} c e is of

-- A tree that has no members.
pub no_members : {n : Notation} (kind : SeqKind) (fs : Fields) (added : FieldAdditions) (t : Tree) (before after : List Slot) (e : Failure) → before ≡ Some t ∷ after → as_members n t ≡ None → RefusesLeaf n t (members_mismatch n kind) e
    → Refuses n (FailsWith n (Shape.seq kind fs added) (head_slot before)) e
no_members kind fs added t before after e was is tells = first_fails (Shape.seq kind fs added) t _ before after e was tells (λ w h. FailsWith.fails_no_members kind fs added t w is h)

-- A tree that has members, in which a name of the rows is repeated.
pub repeated_name : {n : Notation} (kind : SeqKind) (fs : Fields) (added : FieldAdditions) (t : Tree) (look : List ℕ → Slot) {rows : List NameRow} (row : NameRow) (c : Codec) (before after : List Slot) (e : Failure) → before ≡ Some t ∷ after → as_members n t ≡ Some look → ListsFields rows fs added
    → IsFirstRepeated n t rows row → e ≡ at_root (Cause.duplicate_field row.name) c → notation_of c ≡ n → Refuses n (FailsWith n (Shape.seq kind fs added) (head_slot before)) e
repeated_name {n} kind fs added t look row c before after e was is listed first says of =
    at_no_field {P = FailsWith n (Shape.seq kind fs added) (head_slot before)} (Cause.duplicate_field row.name) c e says of (rw was (FailsWith.fails_repeated kind fs added t look row.name is (first_row listed first)))

-- A tree that is no list.
pub no_list : {n : Notation} (s : Shape) (t : Tree) (before after : List Slot) (e : Failure) → before ≡ Some t ∷ after → as_list n t ≡ None → RefusesLeaf n t (list_mismatch n) e
    → Refuses n (FailsWith n (Shape.list_of s) (head_slot before)) e
no_list s t before after e was is tells = first_fails (Shape.list_of s) t _ before after e was tells (λ w h. FailsWith.fails_no_list s t w is h)

-- A tree that is no choice.
pub no_choice : {n : Notation} (alts : Alternatives) (added : AlternativeAdditions) (t : Tree) (before after : List Slot) (e : Failure) → before ≡ Some t ∷ after → as_choice n t ≡ None → RefusesLeaf n t (choice_mismatch n t) e
    → Refuses n (FailsWith n (Shape.choice alts added) (head_slot before)) e
no_choice alts added t before after e was is tells = first_fails (Shape.choice alts added) t _ before after e was tells (λ w h. FailsWith.fails_no_choice alts added t w is h)

-- The same, where the row is that of a field of a table.
pub repeated_field : {n : Notation} (kind : SeqKind) (c : Codec) (root additions : List Field) {before : List Slot} (place : ℕ) (f : Field) (e : DecodeError) → RepeatsName n (name_rows (root ++ additions)) before place → slice_get (root ++ additions) place ≡ Some f
    → notation_of c ≡ n → failure_of e ≡ at_root (Cause.duplicate_field f.name.now) c → RefusesMembers n kind (name_rows (root ++ additions)) before e
repeated_field kind c root additions place f e r at of says = λ fs added listed.
    repeated_name kind fs added r.tree r.look r.row c _ r.rest (failure_of e) r.pending r.members listed r.first (says ∙ ap (λ (row : NameRow). at_root (Cause.duplicate_field row.name) c) (sym (row-field (root ++ additions) place f r.row at r.at))) of
