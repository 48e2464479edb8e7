-- How answers of parts make the answer of a whole.
use Rattle.std.specs.Prelude.{◌≡◌, ℕ, List, ◌∷◌, map, Some, None, Result, Ok, Err, Bool, true, false, ◌⊎◌, if◌then◌else◌}
use Rattle.std.proofs.Common.{sym, ◌∙◌, subst, inl, inr, refl}
use Rattle.asn_fault.specs.Failure.{Failure, Cause, failure_of, is_out_of_memory, wrapped, at_root}
use Rattle.asn_core.specs.declared.codec.Codec.{Codec}
use Rattle.asn_fault.specs.declared.decode.DecodeError.{DecodeError}
use Rattle.asn_model.specs.Components.{component_names, reading_order}
use Rattle.asn_model.specs.Notation.{Notation, notation_of}
use Rattle.asn_model.specs.Shape.{Shape, SeqKind, Fields, FieldAdditions, all_fields, field_names, unfold_loop}
use Rattle.asn_model.specs.Tree.{Slot, head_slot}
use Rattle.asn_model.specs.Value.{Value, Values, Slots}
use Rattle.asn_model.specs.DecodesTo.{DecodesTo, EachDecodesTo, FieldsDecodeTo}
use Rattle.asn_model.specs.FailsWith.{FailsWith, EachFailsWith, FieldsFailWith, Path}
use Rattle.asn_coding.specs.Answer.{Answer, Refuses}
use Rattle.asn_coding.specs.Opening.{IsList, HasMembers, list_shape, list_value}
use Rattle.asn_coding.proofs.ReadingOrder.{names-read}
use Rattle.asn_coding.proofs.Repeated.{none_repeated}

-- A refusal for a reason is one for another reason that follows from it.
pub refuses_by : {n : Notation} {P Q : Path → Cause → Type 0} → ((p : Path) (w : Cause) → P p w → Q p w) → (e : Failure) → Refuses n P e → Refuses n Q e
refuses_by f e (Refuses.no_memory h) = Refuses.no_memory h
refuses_by f e (Refuses.stopped h l c) = Refuses.stopped (f _ _ h) l c
refuses_by f e (Refuses.refuses_free h) = Refuses.refuses_free h

pub same_head : (x y : Slot) (xs ys : List Slot) → x ∷ xs ≡ y ∷ ys → x ≡ y
same_head x y xs ys e = cc e

pub same_tail : (x y : Slot) (xs ys : List Slot) → x ∷ xs ≡ y ∷ ys → xs ≡ ys
same_tail x y xs ys e = cc e

pub list_decodes : {n : Notation} {slot : Slot} {slots : List Slot} (kind : SeqKind) (s : Shape) (vs : Values) → IsList n slot slots → EachDecodesTo n s slots vs → DecodesTo n (list_shape kind s) slot (list_value kind vs)
list_decodes SeqKind.sequence s vs (IsList.is_list t slots e) h = DecodesTo.decodes_list s t slots vs e h
list_decodes SeqKind.set s vs (IsList.is_list t slots e) h = DecodesTo.decodes_set s t slots vs e h
list_decodes kind s vs (IsList.list_free slot slots e) h = DecodesTo.decodes_free _ slot _ e

pub list_fails : {n : Notation} {slot : Slot} {slots : List Slot} (kind : SeqKind) (s : Shape) (p : Path) (w : Cause) → IsList n slot slots → EachFailsWith n s slots p w → FailsWith n (list_shape kind s) slot p w
list_fails SeqKind.sequence s p w (IsList.is_list t slots e) h = FailsWith.fails_list s t slots p w e h
list_fails SeqKind.set s p w (IsList.is_list t slots e) h = FailsWith.fails_set s t slots p w e h
list_fails kind s p w (IsList.list_free slot slots e) h = FailsWith.fails_free _ slot p w e

pub members_decode : {n : Notation} {names : List (List ℕ)} {slot : Slot} {slots : List Slot} (kind : SeqKind) (fs : Fields) (added : FieldAdditions) (vs : Slots) → names ≡ field_names (all_fields fs added) → HasMembers n names slot slots → FieldsDecodeTo n (all_fields fs added) slots vs → DecodesTo n (Shape.seq kind fs added) slot (Value.members vs)
members_decode {n} kind fs added vs e (HasMembers.has_members names t look is once) h = DecodesTo.decodes_seq kind fs added t look vs is (none_repeated n t SeqKind.sequence fs added (e ∙ sym (names-read fs added)) once) (subst (λ l. FieldsDecodeTo n (all_fields fs added) (map look l) vs) e h)
members_decode kind fs added vs e (HasMembers.members_free names slot slots is) h = DecodesTo.decodes_free _ slot _ is

pub members_fail : {n : Notation} {names : List (List ℕ)} {slot : Slot} {slots : List Slot} (kind : SeqKind) (fs : Fields) (added : FieldAdditions) (p : Path) (w : Cause) → names ≡ component_names (reading_order kind fs added) → HasMembers n names slot slots → FieldsFailWith n (reading_order kind fs added) slots p w → FailsWith n (Shape.seq kind fs added) slot p w
members_fail {n} kind fs added p w e (HasMembers.has_members names t look is once) h = FailsWith.fails_seq kind fs added t look p w is (none_repeated n t kind fs added e once) (subst (λ l. FieldsFailWith n (reading_order kind fs added) (map look l) p w) e h)
members_fail kind fs added p w e (HasMembers.members_free names slot slots is) h = FailsWith.fails_free _ slot p w is

decodes_nothing : {n : Notation} {s : Shape} {v : Value} → DecodesTo n s None v → (r : Shape) → DecodesTo n r None v
decodes_nothing (DecodesTo.decodes_free s slot v e) r = DecodesTo.decodes_free r None v e

fails_alike : {n : Notation} {s : Shape} {p : Path} {w : Cause} → FailsWith n s None p w → (r : Shape) → FailsWith n r None p w
fails_alike (FailsWith.fails_absent s c e) r = FailsWith.fails_absent r c e
fails_alike (FailsWith.fails_free s slot p w e) r = FailsWith.fails_free r None p w e

-- What one turn of a loop says, the loop says.
pub loop_decodes : {n : Notation} {v : Value} (body : Shape) (slot : Slot) → DecodesTo n (unfold_loop body) slot v → DecodesTo n (Shape.loop body) slot v
loop_decodes body None h = decodes_nothing h (Shape.loop body)
loop_decodes body (Some t) h = DecodesTo.decodes_loop body t _ h

pub loop_fails : {n : Notation} (body : Shape) (slot : Slot) (p : Path) (w : Cause) → FailsWith n (unfold_loop body) slot p w → FailsWith n (Shape.loop body) slot p w
loop_fails body None p w h = fails_alike h (Shape.loop body)
loop_fails body (Some t) p w h = FailsWith.fails_loop body t p w h

pub loop_refuses : {n : Notation} (body : Shape) (slot : Slot) (e : Failure) → Refuses n (FailsWith n (unfold_loop body) slot) e → Refuses n (FailsWith n (Shape.loop body) slot) e
loop_refuses body slot e h = refuses_by (loop_fails body slot) e h

pub loop_answer : {A : Type 0} (n : Notation) (body : Shape) (value : A → Value) (before : List Slot) (r : Result A DecodeError) (after : List Slot) → Answer n (unfold_loop body) value before r after → Answer n (Shape.loop body) value before r after
loop_answer n body value before (Ok x) after (slot, shown, says) = (slot, shown, loop_decodes body slot says)
loop_answer n body value before (Err e) after h = loop_refuses body (head_slot before) (failure_of e) h

memory_at_root : (c : Codec) → is_out_of_memory (at_root Cause.out_of_memory c) ≡ true
memory_at_root c = refl

wrapped_refuses : {n : Notation} {P Q : Path → Cause → Type 0} (name : List ℕ) (c : Codec) → notation_of c ≡ n → ((p : Path) (w : Cause) → P p w → Q (name ∷ p) w)
    → (e : Failure) (b : Bool) → is_out_of_memory e ≡ b → Refuses n P e → Refuses n Q (if b then at_root Cause.out_of_memory c else record { path = record { name = name; codec = c } ∷ e.path; cause = e.cause; codec = e.codec })
wrapped_refuses name c of f e true is h = Refuses.no_memory (refl, of)
wrapped_refuses name c of f e false is (Refuses.no_memory m) = let d : true ≡ false = sym m.0 ∙ is in cc d
wrapped_refuses name c of f e false is (Refuses.stopped h l k) = Refuses.stopped (f _ _ h) (of, l) k
wrapped_refuses name c of f e false is (Refuses.refuses_free o) = Refuses.refuses_free o

-- A refusal within a field is one for what the field's refusal is for, under the field's name.
pub within_refuses : {n : Notation} {P Q : Path → Cause → Type 0} (name : List ℕ) (c : Codec) → notation_of c ≡ n → ((p : Path) (w : Cause) → P p w → Q (name ∷ p) w)
    → (e r : Failure) → (r ≡ wrapped name c e) ⊎ (r ≡ at_root Cause.out_of_memory c) → Refuses n P e → Refuses n Q r
within_refuses {n} {P} {Q} name c of f e r (inl is) h = subst (Refuses n Q) (sym is) (wrapped_refuses name c of f e (is_out_of_memory e) refl h)
within_refuses {n} {P} {Q} name c of f e r (inr is) h = subst (Refuses n Q) (sym is) (Refuses.no_memory (refl, of))
