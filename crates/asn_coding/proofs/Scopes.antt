-- A sequence is what its slots are.
use Rattle.std.proofs.Common.{◌≡◌, refl, sym, ◌∙◌, ap, subst, ℕ, suc, List, [], ◌∷◌, ◌++◌, append-nil, map, length, Option, Some, None, option_map, unwrap_or, Result, Ok, Err}
use Rattle.asn_fault.specs.Failure.{Failure}
use Rattle.asn_model.specs.Notation.{Notation}
use Rattle.asn_model.specs.Shape.{Shape, SeqKind, Fields, FieldAdditions, all_fields, field_names}
use Rattle.asn_model.specs.Tree.{Slot, head_slot}
use Rattle.asn_model.specs.Value.{Value}
use Rattle.asn_model.specs.DecodesTo.{DecodesTo}
use Rattle.asn_model.specs.FailsWith.{FailsWith}
use Rattle.asn_coding.specs.Answer.{AnswerBy}
use Rattle.asn_coding.specs.Opening.{HasMembers}
use Rattle.asn_coding.specs.Scopes.{ScopeAnswer}
use Rattle.asn_coding.specs.Tables.{Row, names_of, rows_of, field_rows, added_rows}
use Rattle.asn_coding.specs.declared.field.Field.{Field}
use Rattle.asn_model.proofs.Readables.{names-all}
use Rattle.asn_coding.proofs.ReadingOrder.{names-read}
use Rattle.asn_coding.proofs.Steps.{refuses_by, members_decode, members_fail}

names_of-rows : (fields : List Field) → map (λ (r : Row). r.name) (rows_of fields) ≡ names_of fields
names_of-rows [] = refl
names_of-rows (f ∷ fs) = ap (λ l. f.name.now ∷ l) (names_of-rows fs)

field_names-rows : (k : ℕ) (fs : Fields) → map (λ (r : Row). r.name) (field_rows k fs) ≡ field_names fs
field_names-rows k Fields.no_fields = refl
field_names-rows k (Fields.field n t p s fs) = ap (λ l. n ∷ l) (field_names-rows (suc k) fs)

pub table_names : (k : ℕ) (fields : List Field) (fs : Fields) → rows_of fields ≡ field_rows k fs → names_of fields ≡ field_names fs
table_names k fields fs e = sym (names_of-rows fields) ∙ ap (map (λ (r : Row). r.name)) e ∙ field_names-rows k fs

-- The names in the tables of a type's fields are those of the fields of its shape.
pub all_table_names : {T : Type 0} (items : T → List Field) (root additions : List Field) (table : Option T) (fs : Fields) (added : FieldAdditions) → rows_of root ≡ field_rows 0 fs → option_map (λ t. rows_of (items t)) table ≡ added_rows fs added
    → additions ≡ unwrap_or (option_map items table) [] → names_of root ++ names_of additions ≡ field_names (all_fields fs added)
all_table_names items root additions None fs FieldAdditions.closed_fields e f is =
    ap (λ l. names_of root ++ names_of l) is ∙ append-nil (names_of root) ∙ table_names 0 root fs e
all_table_names items root additions (Some t) fs (FieldAdditions.extended_fields more) e f is =
    let rows : Some (rows_of (items t)) ≡ Some (field_rows (length (field_names fs)) more) = f in
    ap (λ l. names_of root ++ names_of l) is ∙ ap (λ l. l ++ names_of (items t)) (table_names 0 root fs e)
    ∙ ap (λ l. field_names fs ++ l) (table_names (length (field_names fs)) (items t) more (cc rows)) ∙ sym (names-all fs (FieldAdditions.extended_fields more))
all_table_names items root additions (Some t) fs FieldAdditions.closed_fields e f is = let d : Some (rows_of (items t)) ≡ None = f in cc d
all_table_names items root additions None fs (FieldAdditions.extended_fields more) e f is = let d : None ≡ Some (field_rows (length (field_names fs)) more) = f in cc d

pub sequence_answer : {A E : Type 0} (failure : E → Failure) (n : Notation) (kind : SeqKind) (fs : Fields) (added : FieldAdditions) (value : A → Value) (before after rest slots : List Slot) (slot : Slot) (names : List (List ℕ)) (r : Result A E)
    → kind ≡ SeqKind.sequence → names ≡ field_names (all_fields fs added) → before ≡ slot ∷ rest → HasMembers n names slot slots → ScopeAnswer failure n fs added value slots rest r after → AnswerBy failure n (Shape.seq kind fs added) value before r after
sequence_answer failure n kind fs added value before after rest slots slot names (Ok x) ordered e was has (is, vs, says, v) =
    (slot, was ∙ ap (λ l. slot ∷ l) (sym is), subst (DecodesTo n (Shape.seq kind fs added) slot) (sym v) (members_decode kind fs added vs e has says))
sequence_answer failure n kind fs added value before after rest slots slot names (Err x) ordered e was has h =
    refuses_by
    (λ p w k. subst (λ l. FailsWith n (Shape.seq kind fs added) (head_slot l) p w) (sym was)
    (subst (λ m. FailsWith n (Shape.seq m fs added) slot p w) (sym ordered) (members_fail SeqKind.sequence fs added p w (e ∙ sym (names-read fs added)) has k)))
    (failure x) h
