-- A tree is what its kids and its additions are.
use Rattle.std.proofs.Common.{◌≡◌, ℕ, suc, ◌<◌, List, [], ◌∷◌, ◌++◌, ◌&&◌, length, Some, Ok, ◌⊎◌, true, codes, sym, ◌∙◌, ap, refl, subst, arith}
use Rattle.std.proofs.lemmas.Bool.{and_parts}
use Rattle.std.proofs.lemmas.List.{length-map}
use Rattle.asn_core.specs.declared.codec.Codec.{Codec}
use Rattle.asn_fault.specs.Failure.{Cause, Failure, at_root, wrapped}
use Rattle.asn_fault.specs.declared.encode.EncodeError.{EncodeError}
use Rattle.asn_model.specs.Components.{Standing, components, component_names, reading_order}
use Rattle.asn_model.specs.FailsWith.{FailsWith}
use Rattle.asn_model.specs.Notation.{Notation, notation_of}
use Rattle.asn_model.specs.Readable.{is_readable, are_identifiers, are_fields_readable}
use Rattle.asn_model.specs.Shape.{Shape, SeqKind, Fields, FieldAdditions, all_fields, are_distinct, field_names, fill_fields, unfold_loop}
use Rattle.asn_model.specs.Tree.{Slot, slot_nodes, head_nodes, head_slot}
use Rattle.asn_model.specs.Value.{Value, Values, values, Fits}
use Rattle.asn_model.specs.DecodesTo.{DecodesTo}
use Rattle.asn_coding.proofs.Collecting.{values-map}
use Rattle.asn_coding.proofs.FieldSteps.{field_refused}
use Rattle.asn_coding.proofs.Filling.{push_all-new, refuse_members}
use Rattle.asn_coding.proofs.Members.{members_read, members_refused}
use Rattle.asn_coding.proofs.Passing.{adds_fields, refuses_adding}
use Rattle.asn_coding.proofs.ReadingOrder.{names-read}
use Rattle.asn_coding.proofs.NameRows.{names-tables}
use Rattle.asn_coding.proofs.Scopes.{table_names}
use Rattle.asn_coding.proofs.Steps.{loop_decodes, loop_refuses}
use Rattle.asn_coding.proofs.TagOrder.{tables_list}
use Rattle.asn_coding.specs.Answer.{Refuses}
use Rattle.asn_coding.specs.FieldAnswer.{AddsSlot, Ahead, TakesField, TakesSlot}
use Rattle.asn_coding.specs.Opening.{AllBelow, PutsMembers}
use Rattle.asn_names.specs.Rows.{NameRow, row_names}
use Rattle.asn_coding.specs.Passing.{AddsFields, RefusesAdding, RefusesFields, TakesFields}
use Rattle.asn_coding.specs.Tables.{ListsFields, name_rows, names_of, rows_of, field_rows}
use Rattle.asn_coding.specs.Writing.{Frame, push, close, as_members, Maps, Written, Filled, FailsToEncode, FailsToFill}
use Rattle.asn_coding.specs.declared.field.Field.{Field}
use Rattle.asn_sample_trees.specs.Tree.{tree_of, tree_step, tree_value}
use Rattle.asn_sample_trees.specs.TreeShape.{tree_body, tree_fields, tree_shape}
use Rattle.asn_sample_trees.specs.declared.tree.Tree.{Tree}
use Rattle.asn_sample_trees.specs.declared.tree.Tree.TheOpen.{Tree-F}
use Rattle.asn_sample_trees.specs.declared.tree.Tree.TheViews.{out-Tree, roll-Tree}
use Rattle.asn_sample_trees.specs.declared.tree.Tree.TheFolds.{fold_out-Tree, fold-roll-Tree}

value_out : {A : Type 0} (added : Fields) (slots : A → Frame) (t : Tree A) → tree_value added slots t ≡ tree_of added (values (tree_value added slots) (out-Tree A t).kids.items) (slots (out-Tree A t).added)
value_out {A} added slots t = fold_out-Tree A Value (tree_step added slots) t ∙ ap (λ vs. tree_of added vs (slots (out-Tree A t).added)) (values-map (λ v. v) (tree_value added slots) (out-Tree A t).kids.items)

value_roll : {A : Type 0} (added : Fields) (slots : A → Frame) (layer : Tree-F A (Tree A)) → tree_value added slots (roll-Tree A layer) ≡ tree_of added (values (tree_value added slots) layer.kids.items) (slots layer.added)
value_roll {A} added slots layer = fold-roll-Tree A Value (tree_step added slots) layer ∙ ap (λ vs. tree_of added vs (slots layer.added)) (values-map (λ v. v) (tree_value added slots) layer.kids.items)

abbrev tree_names : Fields → List (List ℕ)
tree_names added = codes "kids" ∷ field_names added

-- The names in the tables of a tree.
pub names_told : (added : Fields) (root additions : List Field) → rows_of root ≡ field_rows 0 (tree_fields Shape.null) → rows_of additions ≡ field_rows 1 added → names_of root ++ names_of additions ≡ codes "kids" ∷ field_names added
names_told added root additions e f =
    ap (λ l. l ++ names_of additions) (table_names 0 root (tree_fields Shape.null) e) ∙ ap (λ l. codes "kids" ∷ l) (table_names 1 additions added f)

-- So has the list of their rows.
pub rows_told : (added : Fields) (root additions : List Field) → rows_of root ≡ field_rows 0 (tree_fields Shape.null) → rows_of additions ≡ field_rows 1 added → row_names (name_rows (root ++ additions)) ≡ codes "kids" ∷ field_names added
rows_told added root additions e f = names-tables root additions ∙ names_told added root additions e f

-- The tables of a tree list its fields.
pub tables_told : (added : Fields) (root additions : List Field) → rows_of root ≡ field_rows 0 (tree_fields Shape.null) → rows_of additions ≡ field_rows 1 added → ListsFields (name_rows (root ++ additions)) (tree_fields (tree_shape added)) (FieldAdditions.extended_fields added)
tables_told added root additions e f = tables_list (λ (rows : List Field). rows) root additions (Some additions) (tree_fields (tree_shape added)) (FieldAdditions.extended_fields added) e (ap Some f) refl

-- The names are distinct.
pub names_distinct : (added : Fields) → is_readable (tree_shape added) ≡ true → are_distinct (codes "kids" ∷ field_names added) ≡ true
names_distinct added h =
    let names = and_parts (are_identifiers (tree_names added) && are_distinct (tree_names added)) (are_fields_readable 1 (tree_fields (Shape.back 0)) && are_fields_readable 1 added) h in
    let parts = and_parts (are_identifiers (tree_names added)) (are_distinct (tree_names added)) names.0 in
    parts.1

below_at : (slots rest mid : List Slot) (slot : Slot) (k : ℕ) → length slots ≡ suc k → AllBelow (slot_nodes slot) slots → mid ≡ slots ++ rest → head_nodes mid < slot_nodes slot
below_at [] rest mid slot k e below is = absurd (omega (arith, e))
below_at (u ∷ us) rest mid slot k e below is = rw is below.0

-- One turn of the loop that a tree is.
turn : (added : Fields) → ((r : Shape) → fill_fields added 0 r ≡ added) → unfold_loop (tree_body added (Shape.back 0)) ≡ tree_body added (tree_shape added)
turn added fixed = ap (λ fs. tree_body fs (tree_shape added)) (fixed (tree_shape added))

spelled : (added : Fields) → component_names (reading_order SeqKind.sequence (tree_fields (tree_shape added)) (FieldAdditions.extended_fields added)) ≡ tree_names added
spelled added = names-read (tree_fields (tree_shape added)) (FieldAdditions.extended_fields added)

-- Kids and additions between an open frame and its closing are a tree.
pub tree_written : {S A : Type 0} {holds : S → List Frame → Type 0} {n : Notation} {old start mid end new : S} (added : Fields) (slots : A → Frame) → ((r : Shape) → fill_fields added 0 r ≡ added) → (t : Tree A) (names : List (List ℕ)) → names ≡ codes "kids" ∷ field_names added
    → Maps holds (λ fs. [] ∷ fs) old start → Written holds n (Shape.list_of (tree_shape added)) (Value.list (values (tree_value added slots) (out-Tree A t).kids.items)) start mid → AddsFields holds n added (slots (out-Tree A t).added) mid end → Maps holds (close (as_members names)) end new
    → Written holds n (tree_shape added) (tree_value added slots t) old new
tree_written {S} {A} {holds} {n} {old} {start} {mid} {end} {new} added slots fixed t names e opened k a c =
    let kids = values (tree_value added slots) (out-Tree A t).kids.items in
    let all : Frame = Some (Value.list kids) ∷ slots (out-Tree A t).added in
    let f : Filled holds n (all_fields (tree_fields (tree_shape added)) (FieldAdditions.extended_fields added)) (tree_names added) all start end = adds_fields (AddsFields.adds_next (AddsSlot.adds_value (Value.list kids) k) a refl) in
    subst (λ v. Written holds n (tree_shape added) v old new) (sym (value_out added slots t)) (record {
      added = λ fs h. subst (λ ns. holds new (push (as_members ns all) fs)) e (c (all ∷ fs) (subst (holds end) (push_all-new all [] fs) (f.added ([] ∷ fs) (opened fs h))));
      fit = Fits.fits_loop (subst (λ s. Fits s (tree_of added kids (slots (out-Tree A t).added))) (sym (turn added fixed)) (Fits.fits_members f.fit));
      writable = f.writable;
    })

-- Kids that cannot be written refuse the tree.
pub kids_unwritten : {A : Type 0} {n : Notation} {e : EncodeError} (added : Fields) (slots : A → Frame) (t : Tree A) → FailsToEncode n (Value.list (values (tree_value added slots) (out-Tree A t).kids.items)) e → FailsToEncode n (tree_value added slots t) e
kids_unwritten {n = n} {e = e} added slots t h = subst (λ v. FailsToEncode n v e) (sym (value_out added slots t)) (refuse_members (tree_names added) (FailsToFill.slot_refused h))

-- So do additions that cannot be, after kids that can.
pub additions_unwritten : {S A : Type 0} {holds : S → List Frame → Type 0} {n : Notation} {e : EncodeError} {s : Shape} {start mid : S} (added : Fields) (slots : A → Frame) (t : Tree A) → Written holds n s (Value.list (values (tree_value added slots) (out-Tree A t).kids.items)) start mid
    → RefusesAdding holds n added (slots (out-Tree A t).added) mid e → FailsToEncode n (tree_value added slots t) e
additions_unwritten {n = n} {e = e} added slots t k h = subst (λ v. FailsToEncode n v e) (sym (value_out added slots t)) (refuse_members (tree_names added) (FailsToFill.after_slot k.writable (refuses_adding h)))

-- The kids stand before the other slots of an open tree, with fewer nodes than the tree.
pub kids_below : {n : Notation} {before mid : List Slot} (rows : List NameRow) (added : Fields) → row_names rows ≡ codes "kids" ∷ field_names added → PutsMembers n rows before mid → head_nodes mid < head_nodes before
kids_below {mid = mid} rows added e (slot, slots, rest, was, is, count, below, has) =
    rw was (below_at slots rest mid slot (length (field_names added)) (count ∙ sym (length-map rows (λ (r : NameRow). r.name)) ∙ ap length e) below is)

-- What refuses one turn refuses the tree.
pub turn_refused : {n : Notation} {slot : Slot} (added : Fields) → ((r : Shape) → fill_fields added 0 r ≡ added) → (err : Failure) → Refuses n (FailsWith n (tree_body added (tree_shape added)) slot) err → Refuses n (FailsWith n (tree_shape added) slot) err
turn_refused {n} {slot} added fixed err h = loop_refuses (tree_body added (Shape.back 0)) slot err (subst (λ s. Refuses n (FailsWith n s slot) err) (sym (turn added fixed)) h)

-- Of the extension additions of a tree, none holds the tree, and the tree is open.
module _ {n : Notation} {before mid : List Slot} (added : Fields) (fixed : (r : Shape) → fill_fields added 0 r ≡ added) (rows : List NameRow) (e : row_names rows ≡ codes "kids" ∷ field_names added) (opened : PutsMembers n rows before mid) where
  -- Kids and additions are read as a tree.
  pub tree_read : {A : Type 0} {late after : List Slot} {ahead others : List (List ℕ)} (slots : A → Frame) (layer : Tree-F A (Tree A)) → ((t : Slot) × (mid ≡ t ∷ late) × DecodesTo n (Shape.list_of (tree_shape added)) t (Value.list (values (tree_value added slots) layer.kids.items)))
      → TakesFields n (components Standing.addition added) (slots layer.added) (Ahead.ahead ahead late) (Ahead.ahead others after) → (t : Slot) × (before ≡ t ∷ after) × DecodesTo n (tree_shape added) t (tree_value added slots (roll-Tree A layer))
  tree_read {A} {ahead = ahead} slots layer (t, shown, says) taken =
      let kids = values (tree_value added slots) layer.kids.items in
      let d = members_read SeqKind.sequence (tree_fields (tree_shape added)) (FieldAdditions.extended_fields added) rows (Some (Value.list kids) ∷ slots layer.added) {ahead = codes "kids" ∷ ahead} (e ∙ sym (spelled added)) opened (TakesFields.takes_next (TakesField.takes_field (TakesSlot.takes_value t (Value.list kids) shown says) refl) taken refl) in
      (d.0, d.1, subst (DecodesTo n (tree_shape added) d.0) (sym (value_roll added slots layer)) (loop_decodes (tree_body added (Shape.back 0)) d.0 (subst (λ s. DecodesTo n s d.0 (tree_of added kids (slots layer.added))) (sym (turn added fixed)) d.2)))

  -- Kids are refused.
  pub kids_refused : (codec : Codec) (inner err : Failure) → notation_of codec ≡ n → (err ≡ wrapped (codes "kids") codec inner) ⊎ (err ≡ at_root Cause.out_of_memory codec)
      → Refuses n (FailsWith n (Shape.list_of (tree_shape added)) (head_slot mid)) inner → Refuses n (FailsWith n (tree_shape added) (head_slot before)) err
  kids_refused codec inner err of wraps h =
      turn_refused added fixed err (members_refused SeqKind.sequence (tree_fields (tree_shape added)) (FieldAdditions.extended_fields added) rows {ahead = codes "kids" ∷ field_names added} (e ∙ sym (spelled added)) (sym (spelled added)) opened
      (RefusesFields.refuses_field (field_refused (codes "kids") codec of inner err wraps h)))

  -- Additions are refused.
  pub additions_refused : {late : List Slot} {ahead : List (List ℕ)} (kids : Values) (err : Failure) → ahead ≡ field_names added → ((t : Slot) × (mid ≡ t ∷ late) × DecodesTo n (Shape.list_of (tree_shape added)) t (Value.list kids))
      → RefusesFields n (components Standing.addition added) (Ahead.ahead ahead late) err → Refuses n (FailsWith n (tree_shape added) (head_slot before)) err
  additions_refused {ahead = ahead} kids err along (t, shown, says) h =
      turn_refused added fixed err (members_refused SeqKind.sequence (tree_fields (tree_shape added)) (FieldAdditions.extended_fields added) rows {ahead = codes "kids" ∷ ahead} (e ∙ sym (spelled added)) (ap (λ l. codes "kids" ∷ l) along ∙ sym (spelled added)) opened
      (RefusesFields.refuses_later_field (TakesField.takes_field (TakesSlot.takes_value t (Value.list kids) shown says) refl) h refl))
