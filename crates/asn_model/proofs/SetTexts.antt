-- A SET OF is written as the same text in whatever order its elements stand.
use Rattle.std.proofs.Common.{◌≡◌, List, refl, sym, ap, ◌∙◌, true}
use Rattle.std.specs.Cmp.{IsTotalOrder}
use Rattle.std.specs.FinMap.{IsAntisymmetric, slice_cmp-IsAntisymmetric, nat_cmp-IsAntisymmetric}
use Rattle.std.specs.List.{AllByRecursion}
use Rattle.std.specs.Ordering.{ordering_then}
use Rattle.std.specs.declared.cmp.Ordering.{Ordering}
use Rattle.std.specs.declared.cmp.Ordering.TheVariants.{Less, Equal, Greater}
use Rattle.std.proofs.lemmas.Cmp.{nat_list_cmp_total, on_total, then_total, tied_itself}
use Rattle.asn_model.specs.Canonical.{avn_trees, canonical_text, canonical_tree, jer_items}
use Rattle.asn_model.specs.Notation.{Notation, IsText}
use Rattle.asn_model.specs.Readable.{is_readable}
use Rattle.asn_model.specs.Shape.{Shape}
use Rattle.asn_model.specs.Sorting.{by_text, sort}
use Rattle.asn_model.specs.Tree.{Tree}
use Rattle.asn_model.specs.Value.{Value, Values, Fits, FitsEach, bag_of, elements, ordered_by, sort_values, value_cmp, values}
use Rattle.asn_model.specs.Writable.{Writable, WritableEach}
use Rattle.asn_model.proofs.Bags.{avn_trees-sorted, elements-values, jer_items-sorted}
use Rattle.asn_model.proofs.SameText.{same_text}
use Rattle.asn_model.proofs.Sorting.{each-sort, sort-alike, sort-sort}
use Rattle.asn_model.proofs.ValueOrder.{value_cmp_total, value_cmp-IsAntisymmetric}
use Rattle.avn_grammar.specs.Tree.{Tree as AvnTree}
use Rattle.serde_json.specs.Data.{Data}

module _ (n : Notation) (s : Shape) (text : IsText n) (readable : is_readable s ≡ true) where
  -- The value is one of the shape that the notation can write.
  abbrev IsFine : Value → Type 0
  IsFine v = Fits s v × Writable n v

  abbrev by_own_text : Value → Value → Ordering
  by_own_text = by_text (canonical_text n)

  -- By text, and where texts are the same by value.
  abbrev by_text_and_value : Value → Value → Ordering
  by_text_and_value v w = ordering_then (by_own_text v w) (value_cmp v w)

  both_total : IsTotalOrder by_text_and_value
  both_total = then_total (on_total (canonical_text n) nat_list_cmp_total) value_cmp_total

  value_tied : (r : Ordering) (v w : Value) → ordering_then r (value_cmp v w) ≡ Equal → value_cmp v w ≡ Equal
  value_tied Less v w e = cc e
  value_tied Equal v w e = e
  value_tied Greater v w e = cc e

  both_antisymmetric : IsAntisymmetric by_text_and_value
  both_antisymmetric v w e = value_cmp-IsAntisymmetric v w (value_tied (by_own_text v w) v w e)

  one_value : (v w : Value) → IsFine v → IsFine w → by_own_text v w ≡ Equal → v ≡ w
  one_value v w f g e = same_text n s v w text readable f.0 g.0 f.1 g.1 (slice_cmp-IsAntisymmetric nat_cmp-IsAntisymmetric (canonical_text n v) (canonical_text n w) e)

  -- Of such values the text decides alone.
  text_decides : (v w : Value) → IsFine v → IsFine w → by_own_text v w ≡ by_text_and_value v w
  text_decides v w f g = by (by_own_text v w) refl
    where
      by : (r : Ordering) → by_own_text v w ≡ r → r ≡ ordering_then r (value_cmp v w)
      by Less e = refl
      by Greater e = refl
      by Equal e = sym (ap (value_cmp v) (sym (one_value v w f g e)) ∙ tied_itself value_cmp_total v)

  fine_each : {vs : Values} → FitsEach s vs → WritableEach n vs → AllByRecursion IsFine (elements vs)
  fine_each FitsEach.fits_none can = tt
  fine_each (FitsEach.fits_one f fs) can = ((f, can.0), fine_each fs can.1)

  in_any_order : (xs : List Value) → AllByRecursion IsFine xs → sort by_own_text (sort value_cmp xs) ≡ sort by_own_text xs
  in_any_order xs fine =
      sort-alike by_own_text by_text_and_value IsFine text_decides (sort value_cmp xs) (each-sort value_cmp IsFine xs fine)
      ∙ sort-sort by_text_and_value both_total both_antisymmetric value_cmp xs
      ∙ sym (sort-alike by_own_text by_text_and_value IsFine text_decides xs fine)

  pub ordered-bag : (vs : Values) → FitsEach s vs → WritableEach n vs → ordered_by by_own_text (sort_values vs) ≡ ordered_by by_own_text vs
  ordered-bag vs fit can = ap (λ l. values (λ v. v) (sort by_own_text l)) (elements-values (sort value_cmp (elements vs))) ∙ ap (values (λ v. v)) (in_any_order (elements vs) (fine_each fit can))

-- The set of these values is written as they are in their order.
pub written-set : (n : Notation) (s : Shape) (vs : Values) → IsText n → is_readable s ≡ true → FitsEach s vs → WritableEach n vs → canonical_tree n (bag_of vs) ≡ canonical_tree n (Value.bag vs)
written-set Notation.jer s vs text readable fit can =
    ap (λ ds. Tree.json (Data.array ds)) (jer_items-sorted (sort_values vs) ∙ ap jer_items (ordered-bag Notation.jer s text readable vs fit can) ∙ sym (jer_items-sorted vs))
written-set Notation.avn s vs text readable fit can =
    ap (λ ts. Tree.avn (AvnTree.sequence_of ts)) (avn_trees-sorted (sort_values vs) ∙ ap avn_trees (ordered-bag Notation.avn s text readable vs fit can) ∙ sym (avn_trees-sorted vs))
written-set Notation.other s vs text readable fit can = absurd text
