-- The first and the last of the modules that have a name among theirs.
use Rattle.std.proofs.Common.{◌≡◌, ◌<◌, ℕ, suc, ◌+◌, List, [], ◌∷◌, ◌++◌, reverse, Bool, true, false, if◌then◌else◌, filter, Option, Some, None, refl, sym, ap, subst, ◌∙◌, arith}
use Rattle.std.proofs.lemmas.Bool.{ne_eqb}
use Rattle.std.proofs.lemmas.List.{reverse-append}
use Rattle.std.specs.Cmp.{nat_eq_equiv}
use Rattle.std.specs.Cmp.Lexicographic.{nat_list_eq_equiv}
use Rattle.std.specs.List.{slice_get}
use Rattle.std.specs.Option.{option_and_then, option_or}
use Rattle.std.specs.Str.{bytes_eq}
use Rattle.asn_model.specs.Shape.{is_item}
use Rattle.asn_modules_names.specs.imports.Imported.{sole}
use Rattle.asn_modules_names.specs.imports.Tables.{names_by, numbered_by}
use Rattle.asn_modules_names.specs.lookup.Homes.{Home}
use Rattle.asn_modules_names.specs.lookup.Lookup.{if_same, last_of}

some_or_none : {A : Type 0} (o : Option A) → option_or o None ≡ o
some_or_none None = refl
some_or_none (Some x) = refl

or_assoc : {A : Type 0} (o p r : Option A) → option_or (option_or o p) r ≡ option_or o (option_or p r)
or_assoc None p r = refl
or_assoc (Some x) p r = refl

-- What stands beside a key, the first time that it is there.
abbrev pub first_of : {K X : Type 0} → (K → K → Bool) → List (K × X) → K → Option X
first_of same [] q = None
first_of same (e ∷ es) q = option_or (if same e.0 q then Some e.1 else None) (first_of same es q)

module _ {K X : Type 0} (same : K → K → Bool) (q : K) where
  last_joined : (es fs : List (K × X)) → last_of same (es ++ fs) q ≡ option_or (last_of same fs q) (last_of same es q)
  last_joined [] fs = sym (some_or_none (last_of same fs q))
  last_joined (e ∷ es) fs =
      ap (λ o. option_or o (if same e.0 q then Some e.1 else None)) (last_joined es fs)
      ∙ or_assoc (last_of same fs q) (last_of same es q) (if same e.0 q then Some e.1 else None)

  -- The last of the entries the other way round is the first.
  pub last_turned : (es : List (K × X)) → last_of same (reverse es) q ≡ first_of same es q
  last_turned [] = refl
  last_turned (e ∷ es) =
      ap (λ l. last_of same l q) (reverse-append (e ∷ []) es) ∙ last_joined (reverse es) (e ∷ [])
      ∙ ap (option_or (if same e.0 q then Some e.1 else None)) (last_turned es)

-- The names of one module.
abbrev number_if : Bool → ℕ → Option ℕ
number_if b k = if b then Some k else None

last_or : (o : Option ℕ) (a b : Bool) (k : ℕ) → option_or (option_or o (number_if a k)) (number_if b k) ≡ option_or o (number_if (if b then true else a) k)
last_or None true true k = refl
last_or None true false k = refl
last_or None false true k = refl
last_or None false false k = refl
last_or (Some x) a b k = refl

first_or : (o : Option ℕ) (a b : Bool) (k : ℕ) → option_or (number_if b k) (option_or (number_if a k) o) ≡ option_or (number_if (if b then true else a) k) o
first_or o a true k = refl
first_or o a false k = refl

module _ (q : List ℕ) (k : ℕ) (es : List (List ℕ × ℕ)) where
  last_listed : (ns : List (List ℕ)) → last_of bytes_eq (numbered_by k ns ++ es) q ≡ option_or (last_of bytes_eq es q) (number_if (is_item ns q) k)
  last_listed [] = sym (some_or_none (last_of bytes_eq es q))
  last_listed (n ∷ ns) =
      ap (λ o. option_or o (number_if (bytes_eq n q) k)) (last_listed ns)
      ∙ ap (λ b. option_or (option_or (last_of bytes_eq es q) (number_if (is_item ns q) k)) (number_if b k)) (nat_list_eq_equiv.symm n q)
      ∙ last_or (last_of bytes_eq es q) (is_item ns q) (bytes_eq q n) k

  first_listed : (ns : List (List ℕ)) → first_of bytes_eq (numbered_by k ns ++ es) q ≡ option_or (number_if (is_item ns q) k) (first_of bytes_eq es q)
  first_listed [] = refl
  first_listed (n ∷ ns) =
      ap (option_or (number_if (bytes_eq n q) k)) (first_listed ns)
      ∙ ap (λ b. option_or (number_if b k) (option_or (number_if (is_item ns q) k) (first_of bytes_eq es q))) (nat_list_eq_equiv.symm n q)
      ∙ first_or (first_of bytes_eq es q) (is_item ns q) (bytes_eq q n) k

-- One module alone is found, first and last.
record One (k : ℕ) (hs : List Home) (h : Home) (first last : Option ℕ) : Type 0 where
  at : ℕ
  there : slice_get hs at ≡ Some h
  first_is : first ≡ Some (k + at)
  last_is : last ≡ Some (k + at)

-- This module is found first, and another one last.
record Several (k : ℕ) (hs : List Home) (h : Home) (first last : Option ℕ) : Type 0 where
  at : ℕ
  behind : ℕ
  there : slice_get hs at ≡ Some h
  apart : at < behind
  first_is : first ≡ Some (k + at)
  last_is : last ≡ Some (k + behind)

-- Of the modules, of which the first has number k, these have the name.
abbrev Finds : List Home → ℕ → List Home → Option ℕ → Option ℕ → Type 0
Finds [] k hs first last = (first ≡ None) × (last ≡ None)
Finds (h ∷ []) k hs first last = One k hs h first last
Finds (h ∷ g ∷ gs) k hs first last = Several k hs h first last

added : (b : Bool) (found : List Home) (k : ℕ) (h : Home) (hs : List Home) (first last : Option ℕ) → Finds found (suc k) hs first last
    → Finds (if b then h ∷ found else found) k (h ∷ hs) (option_or (number_if b k) first) (option_or last (number_if b k))
added true [] k h hs first last f = record {
  at = 0;
  there = refl;
  first_is = ap Some (omega arith);
  last_is = ap (λ o. option_or o (Some k)) f.1 ∙ ap Some (omega arith);
}
added true (g ∷ []) k h hs first last f = record {
  at = 0;
  behind = suc f.at;
  there = refl;
  apart = omega arith;
  first_is = ap Some (omega arith);
  last_is = ap (λ o. option_or o (Some k)) f.last_is ∙ ap Some (omega arith);
}
added true (g ∷ e ∷ es) k h hs first last f = record {
  at = 0;
  behind = suc f.behind;
  there = refl;
  apart = omega arith;
  first_is = ap Some (omega arith);
  last_is = ap (λ o. option_or o (Some k)) f.last_is ∙ ap Some (omega arith);
}
added false [] k h hs first last f = (f.0, some_or_none last ∙ f.1)
added false (g ∷ []) k h hs first last f = record {
  at = suc f.at;
  there = f.there;
  first_is = f.first_is ∙ ap Some (omega arith);
  last_is = some_or_none last ∙ f.last_is ∙ ap Some (omega arith);
}
added false (g ∷ e ∷ es) k h hs first last f = record {
  at = suc f.at;
  behind = suc f.behind;
  there = f.there;
  apart = omega (arith, f.apart);
  first_is = f.first_is ∙ ap Some (omega arith);
  last_is = some_or_none last ∙ f.last_is ∙ ap Some (omega arith);
}

module _ (f : Home → List (List ℕ)) (q : List ℕ) where
  -- The module has the name among its own.
  abbrev pub has : Home → Bool
  has h = is_item (f h) q

  finds : (hs : List Home) (k : ℕ) → Finds (filter has hs) k hs (first_of bytes_eq (names_by f k hs) q) (last_of bytes_eq (names_by f k hs) q)
  finds [] k = (refl, refl)
  finds (h ∷ hs) k =
      let rest = names_by f (suc k) hs in
      subst (λ o. Finds (filter has (h ∷ hs)) k (h ∷ hs) (first_of bytes_eq (names_by f k (h ∷ hs)) q) o) (sym (last_listed q k rest (f h)))
      (subst (λ o. Finds (filter has (h ∷ hs)) k (h ∷ hs) o (option_or (last_of bytes_eq rest q) (number_if (has h) k))) (sym (first_listed q k rest (f h)))
      (added (has h) (filter has hs) k h hs (first_of bytes_eq rest q) (last_of bytes_eq rest q) (finds hs (suc k))))

-- The first of these.
abbrev pub head_of : List Home → Option Home
head_of [] = None
head_of (h ∷ hs) = Some h

module _ (hs : List Home) (first last : Option ℕ) where
  at_place : (n at : ℕ) (h : Home) → n ≡ 0 + at → slice_get hs at ≡ Some h → slice_get hs n ≡ Some h
  at_place n at h e there = ap (slice_get hs) (e ∙ omega arith) ∙ there

  only_is : (found : List Home) → Finds found 0 hs first last → option_and_then (slice_get hs) (if_same last first) ≡ sole found
  only_is [] f = ap (λ o. option_and_then (slice_get hs) (if_same o first)) f.1
  only_is (h ∷ []) f =
      ap (λ o. option_and_then (slice_get hs) (if_same o first)) f.last_is ∙ ap (λ o. option_and_then (slice_get hs) (if_same (Some (0 + f.at)) o)) f.first_is
      ∙ ap (λ b. option_and_then (slice_get hs) (if b then Some (0 + f.at) else None)) (nat_eq_equiv.refl (0 + f.at)) ∙ at_place (0 + f.at) f.at h refl f.there
  only_is (h ∷ g ∷ gs) f =
      ap (λ o. option_and_then (slice_get hs) (if_same o first)) f.last_is ∙ ap (λ o. option_and_then (slice_get hs) (if_same (Some (0 + f.behind)) o)) f.first_is
      ∙ ap (λ b. option_and_then (slice_get hs) (if b then Some (0 + f.behind) else None)) (ne_eqb (0 + f.behind) (0 + f.at) (λ e. omega (arith, f.apart, e)))

  first_there : (found : List Home) → Finds found 0 hs first last → option_and_then (slice_get hs) first ≡ head_of found
  first_there [] f = ap (option_and_then (slice_get hs)) f.0
  first_there (h ∷ []) f = ap (option_and_then (slice_get hs)) f.first_is ∙ at_place (0 + f.at) f.at h refl f.there
  first_there (h ∷ g ∷ gs) f = ap (option_and_then (slice_get hs)) f.first_is ∙ at_place (0 + f.at) f.at h refl f.there

module _ (f : Home → List (List ℕ)) (q : List ℕ) (hs : List Home) where
  abbrev first_entry : Option ℕ
  first_entry = first_of bytes_eq (names_by f 0 hs) q

  abbrev last_entry : Option ℕ
  last_entry = last_of bytes_eq (names_by f 0 hs) q

  abbrev turned_entry : Option ℕ
  turned_entry = last_of bytes_eq (reverse (names_by f 0 hs)) q

  -- The only module that has the name, by the first and the last number that stand beside it.
  pub only_found : option_and_then (slice_get hs) (if_same last_entry turned_entry) ≡ sole (filter (has f q) hs)
  only_found =
      ap (λ o. option_and_then (slice_get hs) (if_same last_entry o)) (last_turned bytes_eq q (names_by f 0 hs))
      ∙ only_is hs first_entry last_entry (filter (has f q) hs) (finds f q hs 0)

  -- The first module that has the name.
  pub first_found : option_and_then (slice_get hs) turned_entry ≡ head_of (filter (has f q) hs)
  first_found = ap (option_and_then (slice_get hs)) (last_turned bytes_eq q (names_by f 0 hs)) ∙ first_there hs first_entry last_entry (filter (has f q) hs) (finds f q hs 0)
