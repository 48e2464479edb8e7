-- Steps of encoding a document.
use Rattle.std.proofs.Common.{◌≡◌, ℕ, List, [], ◌∷◌, Some, true, false, String, Global, Less, string_bytes, string_cmp, refl, ap, subst, codes}
use Rattle.std.specs.List.{AllByRecursion}
use Rattle.std.specs.List.Sorted.{IsStrictlySortedBy}
use Rattle.std.specs.Map.{keys_of}
use Rattle.std.specs.Ordering.{match_ordering}
use Rattle.asn_document.specs.Meaning.{document_alternatives, document_name, document_payload, document_shape, document_value, entry, entry_shape, json_entry}
use Rattle.asn_model.proofs.Readables.{and-both}
use Rattle.asn_model.specs.Notation.{Notation}
use Rattle.asn_model.specs.Shape.{Shape, Alphabet}
use Rattle.asn_model.specs.Value.{Value, values, Fits, FitsFields, FitsAlternative, are_above, keys_rise}
use Rattle.asn_coding.specs.Writing.{Frame, push, close, as_members, as_choice, Maps, Written, Offered}
use Rattle.serde_json.proofs.Views.{Entry}
use Rattle.serde_json.specs.Data.{Data}
use Rattle.serde_json.specs.View.{view}
use Rattle.serde_json.specs.declared.value.Value.{Value as JsonValue}

-- The payload of an alternative is written.
pub offer : {S : Type 0} {holds : S → List Frame → Type 0} {n : Notation} {s : Shape} {v : Value} {old new : S} (x : JsonValue) (d : Data) → view x ≡ d → document_payload d ≡ v → FitsAlternative document_alternatives (document_name d) v
    → Written holds n s v old new → Offered holds n document_alternatives (document_name (view x)) (document_payload (view x)) old new
offer x d e p fit w = rw (e, p) (record { added = w.added; fit = fit; writable = w.writable })

-- A payload between an open frame and its closing is a document.
pub closed : {S : Type 0} {holds : S → List Frame → Type 0} {n : Notation} {old start end new : S} (d : Data) (id : List ℕ) → id ≡ document_name d
    → Maps holds (λ fs. [] ∷ fs) old start → Offered holds n document_alternatives (document_name d) (document_payload d) start end → Maps holds (close (as_choice id)) end new → Written holds n document_shape (document_value d) old new
closed {S} {holds} {n} {old} {start} {end} {new} d id e opened o c =
    record { added = λ fs h. subst (λ i. holds new (push (Some (Value.choice i (document_payload d))) fs)) e (c _ (o.added ([] ∷ fs) (opened fs h))); fit = Fits.fits_loop (Fits.fits_choice o.fit); writable = o.writable }

above : (k : String Global) (es : List Entry) → AllByRecursion (λ y. string_cmp k y ≡ Less) (keys_of es) → are_above (string_bytes k) (values json_entry es) ≡ true
above k [] h = refl
above k (e ∷ es) h = and-both _ _ (ap (λ o. match_ordering o true false false) h.0) (above k es h.1)

-- The keys of a map rise.
pub keys_of_map : (es : List Entry) → IsStrictlySortedBy string_cmp (keys_of es) → keys_rise (values json_entry es) ≡ true
unfolding IsStrictlySortedBy
keys_of_map [] h = refl
keys_of_map (e ∷ es) h = and-both _ _ (above e.0 es h.0) (keys_of_map es h.1)

-- A key and a value between an open frame and its closing are an entry.
pub entry_closed : {S : Type 0} {holds : S → List Frame → Type 0} {n : Notation} {old start mid end new : S} (key : List ℕ) (v : Value) (names : List (List ℕ)) → names ≡ codes "key" ∷ codes "value" ∷ []
    → Maps holds (λ fs. [] ∷ fs) old start → Written holds n (Shape.text Alphabet.utf8) (Value.text key) start mid → Written holds n document_shape v mid end → Maps holds (close (as_members names)) end new → Written holds n entry_shape (entry key v) old new
entry_closed {S} {holds} {n} {old} {start} {mid} {end} {new} key v names e opened k w c = record {
  added = λ fs h. subst (λ ns. holds new (push (as_members ns (Some (Value.text key) ∷ Some v ∷ [])) fs)) e (c _ (w.added _ (k.added ([] ∷ fs) (opened fs h))));
  fit = Fits.fits_members (FitsFields.fits_present k.fit refl (FitsFields.fits_present w.fit refl FitsFields.fits_end));
  writable = (k.writable, (w.writable, tt));
}
