-- The first entries of keys.
use Rattle.std.proofs.Common.{◌≡◌, ℕ, zero, suc, ◌+◌, ◌<◌, List, [], ◌∷◌, ◌++◌, map, reverse, Bool, true, false, ◌&&◌, if◌then◌else◌, nat_eq, Option, Some, None, refl, sym, ap, ◌∙◌, arith}
use Rattle.std.proofs.lemmas.Bool.{eq-eqb, ne_eqb}
use Rattle.std.proofs.lemmas.List.{map-append, reverse-append}
use Rattle.std.specs.Borrow.{Bor}
use Rattle.std.specs.List.{slice_get}
use Rattle.std.specs.Option.{option_and_then, option_or}
use Rattle.std.specs.Str.{bytes_eq}
use Rattle.asn_modules_errors.specs.Slices.{text_of}
use Rattle.asn_modules_names.specs.lookup.Indexes.{same_pair}
use Rattle.asn_modules_names.specs.lookup.Lookup.{last_of, same_key}
use Rattle.asn_modules_names.specs.lookup.Views.{key_view}
use Rattle.asn_modules_names.proofs.lookup.Lasts.{last_seen, map_same}
use Rattle.asn_modules_types.specs.named_numbers.Entries.{entries_in, entries_of}
use Rattle.asn_modules_types.specs.named_numbers.Named.{StatedType, constant_named, first_named, numbers_in}
use Rattle.asn_modules_types.specs.named_numbers.Views.{entry_view}
use Rattle.asn_modules_grammar.specs.declared.notation.number.Constant.{Constant}
use Rattle.asn_modules_grammar.specs.declared.notation.number.NamedNumber.{NamedNumber}

map_reverse : {A B : Type 0} (f : A → B) (xs : List A) → map f (reverse xs) ≡ reverse (map f xs)
map_reverse f [] = refl
map_reverse f (x ∷ xs) =
    ap (map f) (reverse-append (x ∷ []) xs) ∙ map-append f (reverse xs) (x ∷ []) ∙ ap (λ l. l ++ f x ∷ []) (map_reverse f xs) ∙ sym (reverse-append (f x ∷ []) (map f xs))

module _ {X : Type 0} where
  none_else : (o : Option X) → option_or o None ≡ o
  none_else None = refl
  none_else (Some x) = refl

  or_assoc : (o p q : Option X) → option_or o (option_or p q) ≡ option_or (option_or o p) q
  or_assoc None p q = refl
  or_assoc (Some x) p q = refl

-- What stands beside a key, the first time that it is there.
module _ {K X : Type 0} (same : K → K → Bool) where
  abbrev here : K × X → K → Option X
  here e q = if same e.0 q then Some e.1 else None

  abbrev first_of : List (K × X) → K → Option X
  first_of [] q = None
  first_of (e ∷ es) q = option_or (here e q) (first_of es q)

  last_append : (es fs : List (K × X)) (q : K) → last_of same (es ++ fs) q ≡ option_or (last_of same fs q) (last_of same es q)
  last_append [] fs q = sym (none_else (last_of same fs q))
  last_append (e ∷ es) fs q = ap (λ o. option_or o (here e q)) (last_append es fs q) ∙ sym (or_assoc (last_of same fs q) (last_of same es q) (here e q))

  -- It is the last one of the entries turned round.
  first_is : (es : List (K × X)) (q : K) → last_of same (reverse es) q ≡ first_of es q
  first_is [] q = refl
  first_is (e ∷ es) q =
      ap (λ l. last_of same l q) (reverse-append (e ∷ []) es) ∙ last_append (reverse es) (e ∷ []) q ∙ ap (option_or (here e q)) (first_is es q)

  first_append : (es fs : List (K × X)) (q : K) → first_of (es ++ fs) q ≡ option_or (first_of es q) (first_of fs q)
  first_append [] fs q = refl
  first_append (e ∷ es) fs q = ap (option_or (here e q)) (first_append es fs q) ∙ or_assoc (here e q) (first_of es q) (first_of fs q)

-- The first of the entries of a type: those of another one don't matter.
named_here : (b c : Bool) (x : Constant) (o : Option Constant) → option_or (if b && c then Some x else None) (if b then o else None) ≡ (if b then (if c then Some x else o) else None)
named_here true true x o = refl
named_here true false x o = refl
named_here false c x o = refl

first_in : (n : ℕ) (text : List ℕ) (ns : List NamedNumber) (k : ℕ) (word : List ℕ) → first_of same_key (entries_in n text ns) (k, word) ≡ (if nat_eq n k then first_named text ns word else None)
first_in n text [] k word = none_chosen (nat_eq n k)
  where
    none_chosen : (b : Bool) → ◌≡◌ {A = Option Constant} None (if b then None else None)
    none_chosen true = refl
    none_chosen false = refl
first_in n text (e ∷ es) k word =
    ap (option_or (if nat_eq n k && bytes_eq (text_of text e.name) word then Some e.number else None)) (first_in n text es k word)
    ∙ named_here (nat_eq n k) (bytes_eq (text_of text e.name) word) e.number (first_named text es word)

abbrev named_by : List ℕ → StatedType → Option Constant
named_by word t = first_named t.text (numbers_in t.notation) word

-- Types after the one of the number don't matter, nor do those before it.
first_before : (n k : ℕ) (word : List ℕ) (ts : List StatedType) → k < n → first_of same_key (entries_of n ts) (k, word) ≡ None
first_before n k word [] h = refl
first_before n k word (t ∷ ts) h =
    first_append same_key (entries_in n t.text (numbers_in t.notation)) (entries_of (suc n) ts) (k, word)
    ∙ ap (λ o. option_or o (first_of same_key (entries_of (suc n) ts) (k, word))) (first_in n t.text (numbers_in t.notation) k word ∙ ap (λ b. if b then named_by word t else None) (ne_eqb n k (λ e. omega (arith, e, h))))
    ∙ first_before (suc n) k word ts (omega (arith, h))

first_at : (n k : ℕ) (word : List ℕ) (ts : List StatedType) (i : ℕ) → k ≡ n + i → first_of same_key (entries_of n ts) (k, word) ≡ option_and_then (named_by word) (slice_get ts i)
first_at n k word [] i e = refl
first_at n k word (t ∷ ts) zero e =
    first_append same_key (entries_in n t.text (numbers_in t.notation)) (entries_of (suc n) ts) (k, word)
    ∙ ap (λ o. option_or o (first_of same_key (entries_of (suc n) ts) (k, word))) (first_in n t.text (numbers_in t.notation) k word ∙ ap (λ b. if b then named_by word t else None) (eq-eqb n k (omega (arith, e))))
    ∙ ap (option_or (named_by word t)) (first_before (suc n) k word ts (omega (arith, e))) ∙ none_else (named_by word t)
first_at n k word (t ∷ ts) (suc i) e =
    first_append same_key (entries_in n t.text (numbers_in t.notation)) (entries_of (suc n) ts) (k, word)
    ∙ ap (λ o. option_or o (first_of same_key (entries_of (suc n) ts) (k, word))) (first_in n t.text (numbers_in t.notation) k word ∙ ap (λ b. if b then named_by word t else None) (ne_eqb n k (λ f. omega (arith, e, f))))
    ∙ first_at (suc n) k word ts i (omega (arith, e))

-- What the table holds, where it holds the last of these entries turned round.
pub first_holds : (types : List StatedType) (es : List ((ℕ × Bor (List ℕ)) × Constant)) → map entry_view es ≡ entries_of 0 types → (q : ℕ × Bor (List ℕ)) → last_of same_pair (reverse es) q ≡ constant_named types q.0 q.1.now
first_holds types es made q =
    sym (map_same (last_of same_pair (reverse es) q))
    ∙ last_seen same_pair same_key key_view (λ x. x) (λ k l. refl) (reverse es) q
    ∙ ap (λ l. last_of same_key l (key_view q)) (map_reverse entry_view es)
    ∙ first_is same_key (map entry_view es) (key_view q)
    ∙ ap (λ l. first_of same_key l (key_view q)) made
    ∙ first_at 0 q.0 q.1.now types q.0 (omega arith)
