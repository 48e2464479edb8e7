-- The excerpt of a text that is not read.
use Rattle.std.proofs.Common.{◌≡◌, ℕ, List, take, ap, sym, subst, ◌∙◌, Result, Ok, Err, IfOk}
use Rattle.std.specs.Str.{encode_utf8_all}
use Rattle.avn_grammar.specs.Chars.{utf8_of, class_of_next, tail, skip_while, skip, is_name}
use Rattle.avn_grammar.specs.declared.limits.TheConstants.{EXCERPT_LENGTH}
use Rattle.avn_grammar.specs.ParseFailure.{Found, found_here, found_past}
use Rattle.avn_cursor.specs.Ahead.{BeginsChoice}

pub found_on : (u w n e : List ℕ) → w ≡ skip u → BeginsChoice w → n ≡ tail (skip (skip_while is_name w)) → Found n e → Found u e
found_on u w n e p k q f =
    found_past (ap class_of_next (sym p) ∙ k.letter) (ap (λ x. class_of_next (skip (skip_while is_name x))) (sym p) ∙ k.colon) (subst (λ x. Found x e) (q ∙ ap (λ x. tail (skip (skip_while is_name x))) p) f)

pub found_end : (u w m : List ℕ) → w ≡ skip u → m ≡ w → (BeginsChoice w → ⊥) → Found u (take EXCERPT_LENGTH m)
found_end u w m p q n = subst (λ x. Found u (take EXCERPT_LENGTH x)) (sym (q ∙ p)) (found_here (λ a b. n (record { letter = ap class_of_next p ∙ a; colon = ap (λ x. class_of_next (skip (skip_while is_name x))) p ∙ b })))

pub found_ok : {A E : Type 0} (see : A → List ℕ) (r : Result A E) (u m : List ℕ) → Found u (take EXCERPT_LENGTH m) → IfOk r (λ s. see s ≡ encode_utf8_all (take EXCERPT_LENGTH m)) → IfOk r (λ s. (x : List ℕ) × Found u x × (see s ≡ utf8_of x))
found_ok see (Err e) u m f k = tt
found_ok see (Ok v) u m f k = (take EXCERPT_LENGTH m, f, k)
