-- Members that are put into a map, one after another, are the table of their entries.
use Rattle.std.proofs.Common.{◌≡◌, ℕ, List, [], ◌∷◌, ◌++◌, Some, None, Ordering, Less, Equal, Greater, is_eq, String, Global, string_bytes, nat_cmp, refl, sym, ap, ◌∙◌, subst}
use Rattle.std.proofs.lemmas.Map.Text.{is_eq-slice_cmp}
use Rattle.std.proofs.lemmas.Slice.Eq.{bytes_eq-Decides}
use Rattle.std.specs.Cmp.Lexicographic.{slice_cmp}
use Rattle.std.specs.Ordering.{match_ordering}
use Rattle.asn_document.specs.Meaning.{document_value, entry, entry_shape, entry_values, json_entry}
use Rattle.asn_document.proofs.Elements.{entries_values}
use Rattle.asn_fault.specs.Failure.{Cause}
use Rattle.asn_model.specs.DecodesTo.{DecodesTo}
use Rattle.asn_model.specs.FailsWith.{FailsWith, Path}
use Rattle.asn_model.specs.Notation.{Notation}
use Rattle.asn_model.specs.Shape.{Shape}
use Rattle.asn_model.specs.Tree.{Slot}
use Rattle.asn_model.specs.Value.{Value, Values, values, put_entry, put_entries, table_of}
use Rattle.serde_json.proofs.Views.{Entry, members_view-insert_entry}
use Rattle.serde_json.specs.Data.{Data, Members, no_members, member, put}
use Rattle.serde_json.specs.View.{view, members_view}
use Rattle.serde_json.specs.declared.value.Value.{Value as JsonValue}

put_value_at : (o : Ordering) (k l : List ℕ) (d e : Data) (ms : Members) → slice_cmp nat_cmp k l ≡ o → entry_values (put k d ms) ≡ put_entry (entry k (document_value d)) (entry_values ms)
    → entry_values (match_ordering o (member k d (member l e ms)) (member l d ms) (member l e (put k d ms)))
    ≡ match_ordering o (Values.value (entry k (document_value d)) (entry_values (member l e ms))) (Values.value (entry k (document_value d)) (entry_values ms)) (Values.value (entry l (document_value e)) (put_entry (entry k (document_value d)) (entry_values ms)))
put_value_at Less k l d e ms is later = refl
put_value_at Equal k l d e ms is later =
    let same : k ≡ l = (bytes_eq-Decides k l).0 (sym (is_eq-slice_cmp k l) ∙ ap is_eq is) in
    ap (λ key. Values.value (entry key (document_value d)) (entry_values ms)) (sym same)
put_value_at Greater k l d e ms is later = ap (Values.value (entry l (document_value e))) later

-- A member that is put is an entry that is put.
pub put_value : (k : List ℕ) (d : Data) (ms : Members) → entry_values (put k d ms) ≡ put_entry (entry k (document_value d)) (entry_values ms)
put_value k d no_members = refl
put_value k d (member l e ms) = put_value_at _ k l d e ms refl (put_value k d ms)

-- An entry that is inserted is a member that is put.
pub ruleset insertion = (members_view-insert_entry)

-- The members, with these put one after another.
abbrev pub put_from : Members → List Entry → Members
put_from ms [] = ms
put_from ms (e ∷ es) = put_from (put (string_bytes e.0) (view e.1) ms) es

put_later : (ms : Members) (es : List Entry) (e : Entry) → put_from ms (es ++ e ∷ []) ≡ put (string_bytes e.0) (view e.1) (put_from ms es)
put_later ms [] e = refl
put_later ms (x ∷ es) e = put_later (put (string_bytes x.0) (view x.1) ms) es e

put_values : (ms : Members) (es : List Entry) → entry_values (put_from ms es) ≡ put_entries (entry_values ms) (values json_entry es)
put_values ms [] = refl
put_values ms (e ∷ es) = put_values (put (string_bytes e.0) (view e.1) ms) es ∙ ap (λ vs. put_entries vs (values json_entry es)) (put_value (string_bytes e.0) (view e.1) ms)

-- One member more is put.
pub put_next : (old new es : List Entry) (k : String Global) (v : JsonValue) → members_view new ≡ put (string_bytes k) (view v) (members_view old) → members_view old ≡ put_from no_members es → members_view new ≡ put_from no_members (es ++ (k, v) ∷ [])
put_next old new es k v is h = is ∙ ap (put (string_bytes k) (view v)) h ∙ sym (put_later no_members es (k, v))

-- The members of a map into which entries were put stand for their table.
table_values : (found es : List Entry) → members_view found ≡ put_from no_members es → values json_entry found ≡ table_of (values json_entry es)
table_values found es is = sym (entries_values found) ∙ ap entry_values is ∙ put_values no_members es

-- What a slot decodes to as a list of entries it decodes to as their table.
table_decodes : {n : Notation} (s : Shape) (slot : Slot) (vs : Values) → DecodesTo n (Shape.list_of s) slot (Value.list vs) → DecodesTo n (Shape.table s) slot (Value.list (table_of vs))
table_decodes s None vs (DecodesTo.decodes_free s2 slot v e) = DecodesTo.decodes_free _ None _ e
table_decodes s (Some t) vs h = DecodesTo.decodes_table s t vs h

pub table_fails : {n : Notation} (s : Shape) (slot : Slot) (p : Path) (w : Cause) → FailsWith n (Shape.list_of s) slot p w → FailsWith n (Shape.table s) slot p w
table_fails s None p w (FailsWith.fails_absent s2 c e) = FailsWith.fails_absent _ c e
table_fails s None p w (FailsWith.fails_free s2 slot q y e) = FailsWith.fails_free _ None p w e
table_fails s (Some t) p w h = FailsWith.fails_table s t p w h

-- A map into which the entries of a list were put, one after another, is read.
pub table_read : {n : Notation} {before after : List Slot} (found es : List Entry) → members_view found ≡ put_from no_members es
    → ((t : Slot) × (before ≡ t ∷ after) × DecodesTo n (Shape.list_of entry_shape) t (Value.list (values json_entry es)))
    → (t : Slot) × (before ≡ t ∷ after) × DecodesTo n (Shape.table entry_shape) t (Value.list (values json_entry found))
table_read {n} found es is (t, was, says) =
    (t, was, subst (λ vs. DecodesTo n (Shape.table entry_shape) t (Value.list vs)) (sym (table_values found es is)) (table_decodes entry_shape t (values json_entry es) says))
