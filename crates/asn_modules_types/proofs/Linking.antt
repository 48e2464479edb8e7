-- The shapes of types that were linked so far.
use Rattle.std.proofs.Common.{◌≡◌, ◌≤◌, ◌<◌, ◌+◌, ℕ, suc, List, [], ◌∷◌, ◌++◌, map, Bool, true, false, if◌then◌else◌, length, drop, get_or, refl, sym, ap, ◌∙◌, add-one, arith}
use Rattle.std.proofs.lemmas.List.{drop_all, drop_more, length-map}
use Rattle.asn_linked_types.specs.Expansion.{no_values}
use Rattle.asn_linked_types.specs.Linked.{are_linked, are_readable_among}
use Rattle.asn_linked_types.specs.declared.limits.TheConstants.{TYPE_LIMIT}
use Rattle.asn_linked_types.proofs.Within.{linked-is}
use Rattle.asn_model.proofs.Readables.{and-both}
use Rattle.asn_model.specs.Readable.{is_readable_in}
use Rattle.asn_model.specs.Shape.{Shape}
use Rattle.asn_model.specs.ShapeView.{shape_view}
use Rattle.asn_model.specs.declared.shape_type.Shape as code
use Rattle.asn_modules_names.specs.declared.lookup.sort.Sort.TheVariants.{Types}
use Rattle.asn_modules_names.proofs.Founds.{listed_all, listed_more, pushed}
use Rattle.asn_modules_names.specs.Mentions.{Source}
use Rattle.asn_modules_types.specs.Assigned as spec
use Rattle.asn_modules_types.specs.Assigned.{assigned}
use Rattle.asn_modules_types.specs.Linked.{linked_from, linked_type, linked_types, named_type, opened_type}
use Rattle.asn_modules_types.specs.declared.limits.TheConstants.{NAME_LIMIT}

module _ (ss : List Source) (count : ℕ) where
  -- One type more, whatever stands for it.
  pub linked_more : (all : List Shape) (old new : List code.Shape) (s : code.Shape) (ts : List spec.Assigned) (n : ℕ) → n < length ts → all ≡ map shape_view old ++ linked_from ss count n (drop n ts) → shape_view s ≡ linked_type ss count n → new ≡ old ++ s ∷ []
      → all ≡ map shape_view new ++ linked_from ss count (n + 1) (drop (n + 1) ts)
  linked_more all old new s ts n h was is p =
      listed_more all (map shape_view old) (map shape_view new) (linked_type ss count n ∷ []) (linked_from ss count n (drop n ts)) (linked_from ss count (n + 1) (drop (n + 1) ts)) was
      (next ts (drop n ts) (drop (n + 1) ts) h (λ d. drop_more ts n d h) ∙ ap (λ k. linked_type ss count n ∷ linked_from ss count k (drop (n + 1) ts)) (sym (add-one n)))
      (pushed shape_view old new s (linked_type ss count n) p is)
    where
      next : (ts us vs : List spec.Assigned) → n < length ts → ((d : spec.Assigned) → us ≡ get_or ts n d ∷ vs) → linked_from ss count n us ≡ linked_type ss count n ∷ linked_from ss count (suc n) vs
      next [] us vs h e = absurd (omega (arith, h))
      next (t ∷ ts) us vs h e = ap (linked_from ss count n) (e t)

  pub linked_end : (all : List Shape) (linked : List code.Shape) (ts : List spec.Assigned) (n : ℕ) → length ts ≤ n → all ≡ map shape_view linked ++ linked_from ss count n (drop n ts) → map shape_view linked ≡ all
  linked_end all linked ts n h was = sym (listed_all all (map shape_view linked) (linked_from ss count n (drop n ts)) was (ap (linked_from ss count n) (drop_all n ts h)))

  -- Each can be read.
  readable_chosen : (s : Shape) (b : Bool) → is_readable_in count count s ≡ b → is_readable_in count count (if b then s else no_values) ≡ true
  readable_chosen s true e = e
  readable_chosen s false e = refl

  linked_readable : (ts : List spec.Assigned) (n : ℕ) → are_readable_among count (linked_from ss count n ts) ≡ true
  linked_readable [] n = refl
  linked_readable (t ∷ ts) n =
      let s = opened_type ss (named_type ss NAME_LIMIT n) in
      and-both _ _ (readable_chosen s (is_readable_in count count s) refl) (linked_readable ts (suc n))

  linked_length : (ts : List spec.Assigned) (n : ℕ) → length (linked_from ss count n ts) ≡ length ts
  linked_length [] n = refl
  linked_length (t ∷ ts) n = ap suc (linked_length ts (suc n))

-- All types are linked, if they are few.
pub all_linked : (ss : List Source) → length (assigned Types ss) < TYPE_LIMIT → are_linked (linked_types ss) ≡ true
all_linked ss few =
    let count = length (assigned Types ss) in
    sym (linked-is (linked_types ss) count (sym (linked_length ss count (assigned Types ss) 0)) few) ∙ linked_readable ss count (assigned Types ss) 0

-- All of them, by the types that a list shows.
pub all_types : {A : Type 0} (ss : List Source) (view : A → spec.Assigned) (ts : List A) → map view ts ≡ assigned Types ss → linked_from ss (length ts) 0 (map view ts) ≡ linked_types ss
all_types ss view ts e =
    ap (λ n. linked_from ss n 0 (map view ts)) (sym (length-map ts view)) ∙ ap (λ l. linked_from ss (length l) 0 l) e
