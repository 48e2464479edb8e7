-- Lists of values that are written, one longer.
use Rattle.std.proofs.Common.{◌≡◌, ℕ, ◌+◌, ◌<◌, ◌≤◌, List, [], ◌∷◌, ◌++◌, map, take, drop, get_or, length, Some, true, ap, refl, sym, ◌∙◌, subst, suc, inl, inr, drop-cons}
use Rattle.std.proofs.lemmas.List.{map_push, take_more, take_all, take-append-drop}
use Rattle.asn_fault.specs.declared.encode.EncodeError.{EncodeError}
use Rattle.asn_fault.specs.EncodeCause.{EncodeCause, encode_cause}
use Rattle.asn_model.specs.Notation.{Notation}
use Rattle.asn_model.specs.Shape.{Shape}
use Rattle.asn_model.specs.Value.{Value, Values, values, Fits, FitsEach, keys_rise}
use Rattle.asn_model.specs.Writable.{Writable, WritableEach, FirstUnencodable, EachFirstUnencodable}
use Rattle.asn_coding.specs.Writing.{Frame, push, close, as_list, present_values, Maps, Written, FailsToEncode}

abbrev pub slots_of : {T : Type 0} → (T → Value) → List T → Frame
slots_of f xs = map (λ x. Some (f x)) xs

pub present-slots : {T : Type 0} (f : T → Value) (xs : List T) → present_values (slots_of f xs) ≡ values f xs
present-slots f [] = refl
present-slots f (x ∷ xs) = ap (Values.value (f x)) (present-slots f xs)

pub fits-more : {T : Type 0} (s : Shape) (f : T → Value) (xs : List T) (x : T) → FitsEach s (values f xs) → Fits s (f x) → FitsEach s (values f (xs ++ x ∷ []))
fits-more s f [] x fs h = FitsEach.fits_one h FitsEach.fits_none
fits-more s f (y ∷ xs) x (FitsEach.fits_one g fs) h = FitsEach.fits_one g (fits-more s f xs x fs h)

pub writable-more : {T : Type 0} (n : Notation) (f : T → Value) (xs : List T) (x : T) → WritableEach n (values f xs) → Writable n (f x) → WritableEach n (values f (xs ++ x ∷ []))
writable-more n f [] x ws w = (w, tt)
writable-more n f (y ∷ xs) x ws w = (ws.0, writable-more n f xs x ws.1 w)

pub blocks-later : {T : Type 0} (n : Notation) (f : T → Value) (xs rest : List T) (x : T) (cause : EncodeCause) → WritableEach n (values f xs) → FirstUnencodable n (f x) cause → EachFirstUnencodable n (values f (xs ++ x ∷ rest)) cause
blocks-later n f [] rest x cause ws b = inl b
blocks-later n f (y ∷ xs) rest x cause ws b = inr (ws.0, blocks-later n f xs rest x cause ws.1 b)

-- The values of what h makes of the items.
pub values-map : {A B : Type 0} (f : B → Value) (h : A → B) (xs : List A) → values f (map h xs) ≡ values (λ x. f (h x)) xs
values-map f h [] = refl
values-map f h (x ∷ xs) = ap (Values.value (f (h x))) (values-map f h xs)

-- The last frame holds these items, each of which fits and can be written.
pub record Collected {S T : Type 0} (holds : S → List Frame → Type 0) (n : Notation) (s : Shape) (f : T → Value) (old : S) (xs : List T) (now : S) : Type 0 where
  pub held : Maps holds (λ fs. slots_of f xs ∷ fs) old now
  pub fit : FitsEach s (values f xs)
  pub writable : WritableEach n (values f xs)

pub collected-none : {S T : Type 0} (holds : S → List Frame → Type 0) (n : Notation) (s : Shape) (f : T → Value) (old now : S) → Maps holds (λ fs. [] ∷ fs) old now → Collected holds n s f old [] now
collected-none holds n s f old now h = record { held = h; fit = FitsEach.fits_none; writable = tt }

pub collected-push : {S T : Type 0} {holds : S → List Frame → Type 0} {n : Notation} {s : Shape} {f : T → Value} {old : S} {xs : List T} {now next : S} (x : T) → Collected holds n s f old xs now → Written holds n s (f x) now next → Collected holds n s f old (xs ++ x ∷ []) next
collected-push {S} {T} {holds} {n} {s} {f} {old} {xs} {now} {next} x c w = record {
  held = λ fs h. subst (λ vs. holds next (vs ∷ fs)) (sym (map_push (λ y. Some (f y)) xs x)) (w.added (slots_of f xs ∷ fs) (c.held fs h));
  fit = fits-more s f xs x c.fit w.fit;
  writable = writable-more n f xs x c.writable w.writable;
}

-- What is collected is a table, where its keys rise.
pub collected-table : {S T : Type 0} {holds : S → List Frame → Type 0} {n : Notation} {s : Shape} {f : T → Value} {old : S} {xs : List T} {now next : S} → Collected holds n s f old xs now → keys_rise (values f xs) ≡ true → Maps holds (close as_list) now next
    → Written holds n (Shape.table s) (Value.list (values f xs)) old next
collected-table {S} {T} {holds} {n} {s} {f} {old} {xs} {now} {next} c rise e =
    record { added = λ fs o. subst (λ vs. holds next (push (Some (Value.list vs)) fs)) (present-slots f xs) (e (slots_of f xs ∷ fs) (c.held fs o)); fit = Fits.fits_table c.fit rise; writable = c.writable }

-- The first item that isn't written refuses the list of all.
pub collected-refused : {S T : Type 0} {holds : S → List Frame → Type 0} {n : Notation} {s : Shape} {f : T → Value} {old : S} (done : List T) (x : T) (more : List T) {now : S} (e : EncodeError) → Collected holds n s f old done now → FailsToEncode n (f x) e
    → FailsToEncode n (Value.list (values f (done ++ x ∷ more))) e
collected-refused done x more e c (FailsToEncode.no_memory o) = FailsToEncode.no_memory o
collected-refused done x more e c (FailsToEncode.write_free o) = FailsToEncode.write_free o
collected-refused {S} {T} {holds} {n} {s} {f} done x more e c (FailsToEncode.blocked b k) = FailsToEncode.blocked (blocks-later n f done more x (encode_cause e.kind) c.writable b) k

pub collected-more : {S T : Type 0} {holds : S → List Frame → Type 0} {n : Notation} {s : Shape} {f : T → Value} {old : S} (xs : List T) (i : ℕ) {now next : S} (x : T) → i < length xs → x ≡ get_or xs i x → Collected holds n s f old (take i xs) now → Written holds n s (f x) now next → Collected holds n s f old (take (i + 1) xs) next
collected-more xs i x h e c w = rw (take_more xs i x h, ← e) (collected-push x c w)

pub collected-all : {S T : Type 0} {holds : S → List Frame → Type 0} {n : Notation} {s : Shape} {f : T → Value} {old : S} (xs : List T) (i : ℕ) {now : S} {next : S} → length xs ≤ i → Collected holds n s f old (take i xs) now → Maps holds (close as_list) now next → Written holds n (Shape.list_of s) (Value.list (values f xs)) old next
collected-all {S} {T} {holds} {n} {s} {f} {old} xs i {now} {next} h c e =
    let d = rw (take_all i xs h) at c in
    record { added = λ fs o. subst (λ vs. holds next (push (Some (Value.list vs)) fs)) (present-slots f xs) (e (slots_of f xs ∷ fs) (d.held fs o)); fit = Fits.fits_list d.fit; writable = d.writable }

pub collected-blocks : {S T : Type 0} {holds : S → List Frame → Type 0} {n : Notation} {s : Shape} {f : T → Value} {old : S} (xs : List T) (i : ℕ) {now : S} (x : T) (e : EncodeError) → i < length xs → x ≡ get_or xs i x → Collected holds n s f old (take i xs) now → FailsToEncode n (f x) e → FailsToEncode n (Value.list (values f xs)) e
collected-blocks {S} {T} {holds} {n} {s} {f} xs i x e h is c k =
    let whole : take i xs ++ (x ∷ drop (suc i) xs) ≡ xs = ap (λ y. take i xs ++ (y ∷ drop (suc i) xs)) is ∙ (ap (λ ys. take i xs ++ ys) (sym (drop-cons xs i x h)) ∙ take-append-drop i xs) in
    subst (λ ys. FailsToEncode n (Value.list (values f ys)) e) whole (collected-refused (take i xs) x (drop (suc i) xs) e c k)
