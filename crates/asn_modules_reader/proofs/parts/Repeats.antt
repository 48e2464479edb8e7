-- Entries that follow one another, read from the first on.
use Rattle.std.proofs.Common.{◌≡◌, ◌≢◌, List, [], ◌∷◌, drop, Bool, true, false, Option, Some, None, refl, sym, ap, subst, ◌∙◌}
use Rattle.asn_lexer.specs.declared.kind.Kind.{Kind}
use Rattle.asn_lexer.specs.declared.kind.Kind.TheVariants as kind
use Rattle.asn_lexer.specs.declared.token.Token.{Token}
use Rattle.asn_modules_grammar.specs.headers.Fronts.{first_is}
use Rattle.asn_modules_grammar.specs.notation.Kinds.{first_kind}
use Rattle.asn_modules_grammar.specs.notation.Lists.{Repeated, no_more, one_more, Listed, last_entry, next_entry}
use Rattle.asn_modules_reader.proofs.parts.Runs.{Step}

pub true_false : true ≡ false → ⊥
true_false e = cc

pub some_same : {A : Type 0} {x y : A} {o : Option A} → o ≡ Some x → o ≡ Some y → x ≡ y
some_same {x = x} {y = y} a b = let e : Some x ≡ Some y = sym a ∙ b in cc

pub none_some : {A : Type 0} {x : A} {o : Option A} → o ≡ None → o ≡ Some x → ⊥
none_some {A = A} {x = x} a b = let e : ◌≡◌ {A = Option A} None (Some x) = sym a ∙ b in let y : ⊥ = cc in y

-- What stands after the same entry.
pub moved : {A : Type 0} {o : Option (A × List Token)} {x y : A} {v w : List Token} {k : Kind} → o ≡ Some (x, v) → o ≡ Some (y, w) → first_kind w ≡ Some k → first_kind v ≡ Some k
moved {k = k} a b h = subst (λ z. first_kind z ≡ Some k) (sym (ap (λ p. p.1) (some_same a b))) h

repeated_behind : {A : Type 0} {b : Kind → Bool} {f : List Token → Option (A × List Token)} {u v rest : List Token} {x : A} {ys : List A}
    → first_is b u ≡ true → f u ≡ Some (x, v) → Repeated b f u ys rest → (xs : List A) × Repeated b f v xs rest × (ys ≡ x ∷ xs)
repeated_behind a e (no_more c) = absurd (true_false (sym a ∙ c))
repeated_behind {b = b} {f = f} {rest = rest} {x = x} a e (one_more {x = y} {xs = xs} c h p) =
    let g = some_same e h in (xs, subst (λ z. Repeated b f z xs rest) (sym (ap (λ z. z.1) g)) p, ap (λ z. z.0 ∷ xs) (sym g))

pub repeated_step : {A : Type 0} (b : Kind → Bool) (f : List Token → Option (A × List Token)) (u v : List Token) (x : A) → first_is b u ≡ true → f u ≡ Some (x, v) → Step (Repeated b f) u v x
repeated_step b f u v x a e = record { forward = λ xs rest q. one_more a e q; backward = λ ys rest q. repeated_behind a e q }

pub repeated_none : {A : Type 0} (b : Kind → Bool) (f : List Token → Option (A × List Token)) (u : List Token) → first_is b u ≡ true → f u ≡ None → (xs : List A) (rest : List Token) → Repeated b f u xs rest → ⊥
repeated_none b f u a e xs rest (no_more c) = true_false (sym a ∙ c)
repeated_none b f u a e xs rest (one_more c h p) = none_some e h

comma_brace : {o : Option Kind} → o ≡ Some kind.Comma → o ≡ Some kind.CloseBrace → ⊥
comma_brace a b = let e : Some kind.Comma ≡ Some kind.CloseBrace = sym a ∙ b in let y : ⊥ = cc in y

listed_behind : {A : Type 0} {f : List Token → Option (A × List Token)} {u v rest : List Token} {x : A} {ys : List A} → f u ≡ Some (x, v) → first_kind v ≡ Some kind.Comma → Listed f u ys rest
    → (xs : List A) × Listed f (drop 1 v) xs rest × (ys ≡ x ∷ xs)
listed_behind e c (last_entry h d) = absurd (comma_brace c (moved e h d))
listed_behind {f = f} {rest = rest} e c (next_entry {xs = xs} h d p) =
    let g = some_same e h in (xs, subst (λ z. Listed f z xs rest) (sym (ap (λ z. drop 1 z.1) g)) p, ap (λ z. z.0 ∷ xs) (sym g))

pub listed_step : {A : Type 0} (f : List Token → Option (A × List Token)) (u v w : List Token) (x : A) → f u ≡ Some (x, v) → first_kind v ≡ Some kind.Comma → w ≡ drop 1 v → Step (Listed f) u w x
listed_step f u v w x e c m = subst (λ z. Step (Listed f) u z x) (sym m) (record { forward = λ xs rest q. next_entry e c q; backward = λ ys rest q. listed_behind e c q })

pub listed_last : {A : Type 0} (f : List Token → Option (A × List Token)) (u v w : List Token) (x : A) → f u ≡ Some (x, v) → first_kind v ≡ Some kind.CloseBrace → w ≡ drop 1 v → Listed f u (x ∷ []) w
listed_last f u v w x e c m = subst (λ z. Listed f u (x ∷ []) z) (sym m) (last_entry e c)

pub listed_none : {A : Type 0} (f : List Token → Option (A × List Token)) (u : List Token) → f u ≡ None → (xs : List A) (rest : List Token) → Listed f u xs rest → ⊥
listed_none f u e xs rest (last_entry h d) = none_some e h
listed_none f u e xs rest (next_entry h d p) = none_some e h

pub listed_unended : {A : Type 0} (f : List Token → Option (A × List Token)) (u v : List Token) (x : A) → f u ≡ Some (x, v) → first_kind v ≢ Some kind.CloseBrace → first_kind v ≢ Some kind.Comma
    → (xs : List A) (rest : List Token) → Listed f u xs rest → ⊥
listed_unended f u v x e b c xs rest (last_entry h d) = b (moved e h d)
listed_unended f u v x e b c xs rest (next_entry h d p) = c (moved e h d)
