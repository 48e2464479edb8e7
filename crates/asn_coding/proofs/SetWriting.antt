-- A SET OF is written by its elements in any order.
use Rattle.std.proofs.Common.{◌≡◌, sym, subst, ap, ◌∙◌, ℕ, ◌≤◌, List, [], ◌∷◌, map, take, length, true, false, Bool, if◌then◌else◌, inl, inr, refl}
use Rattle.std.proofs.lemmas.List.{take_all}
use Rattle.std.specs.Borrow.{Bor}
use Rattle.std.specs.List.{AllByRecursion}
use Rattle.std.specs.Map.Iter.{deref}
use Rattle.std.specs.Ordering.{is_gt}
use Rattle.asn_fault.specs.EncodeCause.{EncodeCause, encode_cause}
use Rattle.asn_fault.specs.declared.encode.EncodeError.{EncodeError}
use Rattle.asn_model.specs.Notation.{Notation}
use Rattle.asn_model.specs.Readable.{is_readable}
use Rattle.asn_model.specs.Shape.{Shape}
use Rattle.asn_model.specs.Sorting.{insert_in_order, sort}
use Rattle.asn_model.specs.Value.{Value, Values, Fits, FitsEach, bag_of, elements, sort_values, value_cmp, values}
use Rattle.asn_model.specs.Writable.{Writable, WritableEach, EachFirstUnencodable, SomeUnencodable}
use Rattle.asn_model.proofs.Bags.{each-ordered, sort-ordered_by, values-elements}
use Rattle.asn_model.proofs.SetTexts.{written-set}
use Rattle.asn_coding.specs.Writing.{Frame, ClosesSet, FailsToEncode, IsWrittenAsSet, Written}
use Rattle.asn_coding.proofs.Collecting.{Collected, present-slots, slots_of, values-map}

fits_all : {s : Shape} {vs : Values} → FitsEach s vs → AllByRecursion (Fits s) (elements vs)
fits_all FitsEach.fits_none = tt
fits_all (FitsEach.fits_one f fs) = (f, fits_all fs)

fits_back : (s : Shape) (vs : Values) → AllByRecursion (Fits s) (elements vs) → FitsEach s vs
fits_back s Values.no_values all = FitsEach.fits_none
fits_back s (Values.value v vs) (f, fs) = FitsEach.fits_one f (fits_back s vs fs)

writable_all : (n : Notation) (vs : Values) → WritableEach n vs → AllByRecursion (Writable n) (elements vs)
writable_all n Values.no_values can = tt
writable_all n (Values.value v vs) can = (can.0, writable_all n vs can.1)

writable_back : (n : Notation) (vs : Values) → AllByRecursion (Writable n) (elements vs) → WritableEach n vs
writable_back n Values.no_values all = tt
writable_back n (Values.value v vs) (w, ws) = (w, writable_back n vs ws)

fits_bag : (s : Shape) (vs : Values) → FitsEach s vs → Fits (Shape.set_of s) (bag_of vs)
fits_bag s vs fit = Fits.fits_set (fits_back s (sort_values vs) (each-ordered (Fits s) value_cmp vs (fits_all fit))) (sort-ordered_by value_cmp vs)

writable_bag : (n : Notation) (vs : Values) → WritableEach n vs → Writable n (bag_of vs)
writable_bag n vs can = writable_back n (sort_values vs) (each-ordered (Writable n) value_cmp vs (writable_all n vs can))

as_set : (n : Notation) (s : Shape) (vs : Values) → is_readable s ≡ true → FitsEach s vs → WritableEach n vs → IsWrittenAsSet n vs (bag_of vs)
as_set Notation.jer s vs readable fit can = IsWrittenAsSet.written_alike (written-set Notation.jer s vs tt readable fit can)
as_set Notation.avn s vs readable fit can = IsWrittenAsSet.written_alike (written-set Notation.avn s vs tt readable fit can)
as_set Notation.other s vs readable fit can = IsWrittenAsSet.set_itself refl refl

-- One of the elements that cannot be written is one in any order.
some_first : (n : Notation) (vs : Values) (cause : EncodeCause) → EachFirstUnencodable n vs cause → SomeUnencodable n vs cause
some_first n Values.no_values cause b = b
some_first n (Values.value v vs) cause (inl b) = inl b
some_first n (Values.value v vs) cause (inr b) = inr (some_first n vs cause b.1)

abbrev Some-of : Notation → EncodeCause → List Value → Type 0
Some-of n cause xs = SomeUnencodable n (values (λ v. v) xs) cause

some-insert : (n : Notation) (cause : EncodeCause) (x : Value) (ys : List Value) → Some-of n cause (x ∷ ys) → Some-of n cause (insert_in_order value_cmp x ys)
some-insert n cause x [] b = b
some-insert n cause x (y ∷ ys) b = by (some-insert n cause x ys) (is_gt (value_cmp x y)) b
  where
    by : (Some-of n cause (x ∷ ys) → Some-of n cause (insert_in_order value_cmp x ys)) → (b : Bool) → Some-of n cause (x ∷ y ∷ ys) → Some-of n cause (if b then y ∷ insert_in_order value_cmp x ys else x ∷ y ∷ ys)
    by rest true (inl b) = inr (rest (inl b))
    by rest true (inr (inl b)) = inl b
    by rest true (inr (inr b)) = inr (rest (inr b))
    by rest false b = b

some-sort : (n : Notation) (cause : EncodeCause) (xs : List Value) → Some-of n cause xs → Some-of n cause (sort value_cmp xs)
some-sort n cause [] b = b
some-sort n cause (x ∷ xs) (inl b) = some-insert n cause x (sort value_cmp xs) (inl b)
some-sort n cause (x ∷ xs) (inr b) = some-insert n cause x (sort value_cmp xs) (inr (some-sort n cause xs b))

fails_set : (n : Notation) (vs : Values) (e : EncodeError) → FailsToEncode n (Value.list vs) e → FailsToEncode n (bag_of vs) e
fails_set n vs e (FailsToEncode.no_memory o) = FailsToEncode.no_memory o
fails_set n vs e (FailsToEncode.write_free o) = FailsToEncode.write_free o
fails_set n vs e (FailsToEncode.blocked b c) =
    FailsToEncode.blocked (some-sort n (encode_cause e.kind) (elements vs) (subst (λ w. SomeUnencodable n w (encode_cause e.kind)) (sym (values-elements vs)) (some_first n vs (encode_cause e.kind) b))) c

-- The refusal of one of the elements in their order is one of the set.
pub fails_bag : (n : Notation) (us vs : Values) (e : EncodeError) → us ≡ vs → FailsToEncode n (Value.list us) e → FailsToEncode n (bag_of vs) e
fails_bag n us vs e is h = fails_set n vs e (subst (λ ws. FailsToEncode n (Value.list ws) e) is h)

-- The values of references to elements are those of the elements.
pub values-behind : {T : Type 0} (f : T → Value) (refs : List (Bor T)) (xs : List T) → map (deref {X = T}) refs ≡ xs → values (λ r. f (deref r)) refs ≡ values f xs
values-behind f refs xs e = sym (values-map f deref refs) ∙ ap (values f) e

-- All elements are collected, and the frame is closed as their set.
pub collected-set : {S R : Type 0} {holds : S → List Frame → Type 0} {n : Notation} {s : Shape} {f : R → Value} {old : S} (xs : List R) (i : ℕ) {now next : S} (vs : Values) → values f xs ≡ vs → is_readable s ≡ true → length xs ≤ i
    → Collected holds n s f old (take i xs) now → ClosesSet holds n now next → Written holds n (Shape.set_of s) (bag_of vs) old next
collected-set {S} {R} {holds} {n} {s} {f} {old} xs i {now} {next} vs is readable h c e =
    let d = rw (take_all i xs h) at c in
    let fit = subst (FitsEach s) is d.fit in
    let can = subst (WritableEach n) is d.writable in
    record {
      added = λ fs o. e (slots_of f xs) fs (bag_of vs) (d.held fs o) (subst (λ ws. IsWrittenAsSet n ws (bag_of vs)) (sym (present-slots f xs ∙ is)) (as_set n s vs readable fit can));
      fit = fits_bag s vs fit;
      writable = writable_bag n vs can;
    }
