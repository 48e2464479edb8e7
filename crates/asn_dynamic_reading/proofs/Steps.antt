-- What a part means, by the kind that it shows.
use Rattle.std.proofs.Common.{◌≡◌, refl, ap, sym, ◌∙◌, subst, arith, ℕ, zero, suc, ◌<◌, List, Option, Some, None, Result, Ok, Err, true}
use Rattle.std.specs.Global.{Global, Vec}
use Rattle.asn_coding.specs.Answer.{AnswerBy, Refuses}
use Rattle.asn_coding.specs.Opening.{list_shape, list_value}
use Rattle.asn_coding.proofs.Steps.{refuses_by}
use Rattle.asn_dynamic_faults.specs.DynFailure.{dyn_failure}
use Rattle.asn_dynamic_faults.specs.declared.errors.DynError.{DynError}
use Rattle.asn_dynamic_values.specs.DynView.{dyn_value}
use Rattle.asn_dynamic_values.specs.declared.value.DynValue.{DynValue}
use Rattle.asn_fault.specs.Failure.{Cause, Failure}
use Rattle.asn_model.specs.DecodesTo.{DecodesTo}
use Rattle.asn_model.specs.FailsWith.{FailsWith, Path}
use Rattle.asn_model.specs.Notation.{Notation}
use Rattle.asn_model.specs.Readable.{is_entry, is_readable}
use Rattle.asn_model.specs.Shape.{SeqKind, Shape}
use Rattle.asn_model.specs.Tree.{Slot, head_slot}
use Rattle.asn_model.specs.Value.{Value, Values, table_of, values}
use Rattle.asn_model.proofs.Readables.{and-right}
use Rattle.asn_parts.specs.Parts.{leaf_shape}
use Rattle.asn_parts.specs.declared.part.LeafPart.{LeafPart}
use Rattle.asn_parts.specs.declared.part.LeafPart.TheVariants.{Null, Bool, Int, Bits, Octets, Any, Oid, Str, Bmp, Utc, Gen, Day, Decimal}
use Rattle.asn_parts.specs.Bodies.{IsReadablePart, loops_of, meant}
use Rattle.asn_parts.specs.Closed.{IsPart, closed}
use Rattle.asn_parts.proofs.Costs.{cost, element-costs}

-- An element costs less than its list of either kind.
pub list-costs : (kind : SeqKind) (m n : ℕ) (s : Shape) → m < n → cost m s < cost n (list_shape kind s)
list-costs SeqKind.sequence m n s h = element-costs m n s h
list-costs SeqKind.set m zero s h = absurd (omega (arith, h))
list-costs SeqKind.set m (suc n) s h = element-costs m (suc n) s h

-- A table costs as much as the list of its entries.
pub table-costs : (n : ℕ) (s : Shape) → cost n (Shape.list_of s) ≡ cost n (Shape.table s)
table-costs zero s = refl
table-costs (suc n) s = refl

leaf-closed : (env : List Shape) (leaf : LeafPart) → closed env (leaf_shape leaf) ≡ leaf_shape leaf
leaf-closed env Null = refl
leaf-closed env Bool = refl
leaf-closed env (Int l g w) = refl
leaf-closed env (Bits n) = refl
leaf-closed env Octets = refl
leaf-closed env Any = refl
leaf-closed env Oid = refl
leaf-closed env (Str a) = refl
leaf-closed env Bmp = refl
leaf-closed env Utc = refl
leaf-closed env Gen = refl
leaf-closed env Day = refl
leaf-closed env Decimal = refl

list-closed : (env : List Shape) (kind : SeqKind) (s : Shape) → closed env (list_shape kind s) ≡ list_shape kind (closed env s)
list-closed env SeqKind.sequence s = refl
list-closed env SeqKind.set s = refl

list-readable : (kind : SeqKind) (s : Shape) → is_readable (list_shape kind s) ≡ is_readable s
list-readable SeqKind.sequence s = refl
list-readable SeqKind.set s = refl

-- An answer by a shape that is the same, and of a value that is the same.
pub same-value : {A E : Type 0} (failure : E → Failure) (n : Notation) {s t : Shape} (f : A → Value) (before : List Slot) (x : A) (y : DynValue) (after : List Slot) → s ≡ t → f x ≡ dyn_value y → AnswerBy {E = E} failure n s f before (Ok x) after → AnswerBy {E = E} failure n t dyn_value before (Ok y) after
same-value failure n f before x y after is same (slot, was, says) = (slot, was, subst (λ s. DecodesTo n s slot (dyn_value y)) is (subst (DecodesTo n _ slot) same says))

pub same-refusal : (n : Notation) {s t : Shape} (before : List Slot) (e : Failure) → s ≡ t → Refuses n (FailsWith n s (head_slot before)) e → Refuses n (FailsWith n t (head_slot before)) e
same-refusal n before e is h = subst (λ s. Refuses n (FailsWith n s (head_slot before)) e) is h

nothing-decodes : {n : Notation} {s : Shape} {v : Value} (r : Shape) (w : Value) → DecodesTo n s None v → DecodesTo n r None w
nothing-decodes r w (DecodesTo.decodes_free s slot v e) = DecodesTo.decodes_free r None w e

table-decodes : {n : Notation} (s : Shape) (vs : Values) (slot : Slot) → DecodesTo n (Shape.list_of s) slot (Value.list vs) → DecodesTo n (Shape.table s) slot (Value.list (table_of vs))
table-decodes s vs None h = nothing-decodes (Shape.table s) (Value.list (table_of vs)) h
table-decodes s vs (Some t) h = DecodesTo.decodes_table s t vs h

table-fails : {n : Notation} (s : Shape) (slot : Slot) (p : Path) (w : Cause) → FailsWith n (Shape.list_of s) slot p w → FailsWith n (Shape.table s) slot p w
table-fails s (Some t) p w h = FailsWith.fails_table s t p w h
table-fails s None p w (FailsWith.fails_absent r c e) = FailsWith.fails_absent (Shape.table s) c e
table-fails s None p w (FailsWith.fails_free r slot p2 w2 e) = FailsWith.fails_free (Shape.table s) None p w e

module _ {P : Type 0} (shape : List P → P → Shape) (bodies : List P) (part : P) where
  pub leaf-meant : (leaf : LeafPart) → shape bodies part ≡ leaf_shape leaf → leaf_shape leaf ≡ meant shape bodies part
  leaf-meant leaf is = sym (ap (closed (loops_of shape bodies)) is ∙ leaf-closed (loops_of shape bodies) leaf)

  pub item-meant : (items : List (List ℕ)) (added : Option (List (List ℕ))) → shape bodies part ≡ Shape.enum items added → Shape.enum items added ≡ meant shape bodies part
  item-meant items added is = sym (ap (closed (loops_of shape bodies)) is)

  -- The elements of a list.
  module _ (kind : SeqKind) (element : P) (is : shape bodies part ≡ list_shape kind (shape bodies element)) where
    pub element-meant : list_shape kind (meant shape bodies element) ≡ meant shape bodies part
    element-meant = sym (ap (closed (loops_of shape bodies)) is ∙ list-closed (loops_of shape bodies) kind (shape bodies element))

    pub element-part : IsReadablePart shape bodies part → IsReadablePart shape bodies element
    element-part p = (p.0, sym (list-readable kind (meant shape bodies element)) ∙ ap is_readable element-meant ∙ p.1)

    pub elements-read : (n : Notation) (before : List Slot) (items : Vec DynValue) (y : DynValue) (after : List Slot) → dyn_value y ≡ list_value kind (values dyn_value items.items)
        → AnswerBy dyn_failure n (list_shape kind (meant shape bodies element)) (λ (vs : Vec DynValue). list_value kind (values dyn_value vs.items)) before (Ok items) after → AnswerBy dyn_failure n (meant shape bodies part) dyn_value before (Ok y) after
    elements-read n before items y after same h = same-value dyn_failure n (λ (vs : Vec DynValue). list_value kind (values dyn_value vs.items)) before items y after element-meant (sym same) h

  -- The entries of a table.
  module _ (entry : P) (is : shape bodies part ≡ Shape.table (shape bodies entry)) where
    pub entry-meant : Shape.table (meant shape bodies entry) ≡ meant shape bodies part
    entry-meant = sym (ap (closed (loops_of shape bodies)) is)

    pub entry-part : IsReadablePart shape bodies part → IsReadablePart shape bodies entry
    entry-part p = (p.0, and-right (is_entry (meant shape bodies entry)) (is_readable (meant shape bodies entry)) (ap is_readable entry-meant ∙ p.1))

    pub table-read : (n : Notation) (before : List Slot) (entries : Vec DynValue) (y : DynValue) (after : List Slot) → dyn_value y ≡ Value.list (table_of (values dyn_value entries.items))
        → AnswerBy dyn_failure n (Shape.list_of (meant shape bodies entry)) (λ (vs : Vec DynValue). Value.list (values dyn_value vs.items)) before (Ok entries) after → AnswerBy dyn_failure n (meant shape bodies part) dyn_value before (Ok y) after
    table-read n before entries y after same (slot, was, says) =
        (slot, was, subst (λ s. DecodesTo n s slot (dyn_value y)) entry-meant (subst (DecodesTo n (Shape.table (meant shape bodies entry)) slot) (sym same) (table-decodes (meant shape bodies entry) (values dyn_value entries.items) slot says)))

    pub table-refused : (n : Notation) (before : List Slot) (e : Failure) → Refuses n (FailsWith n (Shape.list_of (meant shape bodies entry)) (head_slot before)) e → Refuses n (FailsWith n (meant shape bodies part) (head_slot before)) e
    table-refused n before e h =
        same-refusal n before e entry-meant
        (refuses_by {n = n} {P = FailsWith n (Shape.list_of (meant shape bodies entry)) (head_slot before)} {Q = FailsWith n (Shape.table (meant shape bodies entry)) (head_slot before)} (table-fails (meant shape bodies entry) (head_slot before)) e h)
