-- Tokens that are what they always are, by their kinds.
use Rattle.std.proofs.Common.{◌≡◌, ◌≢◌, List, [], ◌∷◌, Bool, true, false, Option, Some, None, refl, sym, ap, ◌∙◌}
use Rattle.asn_lexer.specs.declared.keyword.Keyword.TheVariants as keyword
use Rattle.asn_lexer.specs.declared.kind.Kind.{Kind}
use Rattle.asn_lexer.specs.declared.kind.Kind.TheVariants as kind
use Rattle.asn_lexer.specs.declared.token.Token.{Token}
use Rattle.asn_modules_grammar.specs.notation.Kinds.{first_kind, is_assignment, is_open_brace, is_close_brace, is_of}
use Rattle.asn_modules_reader.specs.parts.Signs.{kind_of, is_sign, is_close_version, is_comma, is_end, is_components, is_ellipsis, is_open_version}
use Rattle.asn_modules_reader.specs.declared.parts.sign.Sign.{Sign}
use Rattle.asn_modules_reader.specs.declared.parts.sign.Sign.TheVariants as sign
use Rattle.asn_modules_reader.proofs.parts.Repeats.{true_false, some_same}

open_brace_is : (k : Kind) → is_open_brace k ≡ true → k ≡ kind.OpenBrace
open_brace_is kind.OpenBrace e = refl
open_brace_is k e = absurd (true_false (sym e))

close_brace_is : (k : Kind) → is_close_brace k ≡ true → k ≡ kind.CloseBrace
close_brace_is kind.CloseBrace e = refl
close_brace_is k e = absurd (true_false (sym e))

close_version_is : (k : Kind) → is_close_version k ≡ true → k ≡ kind.CloseVersion
close_version_is kind.CloseVersion e = refl
close_version_is k e = absurd (true_false (sym e))

comma_is : (k : Kind) → is_comma k ≡ true → k ≡ kind.Comma
comma_is kind.Comma e = refl
comma_is k e = absurd (true_false (sym e))

assignment_is : (k : Kind) → is_assignment k ≡ true → k ≡ kind.Assignment
assignment_is kind.Assignment e = refl
assignment_is k e = absurd (true_false (sym e))

end_is : (k : Kind) → is_end k ≡ true → k ≡ kind.Reserved keyword.End
end_is (kind.Reserved keyword.End) e = refl
end_is k e = absurd (true_false (sym e))

of_is : (k : Kind) → is_of k ≡ true → k ≡ kind.Reserved keyword.Of
of_is (kind.Reserved keyword.Of) e = refl
of_is k e = absurd (true_false (sym e))

components_is : (k : Kind) → is_components k ≡ true → k ≡ kind.Reserved keyword.Components
components_is (kind.Reserved keyword.Components) e = refl
components_is k e = absurd (true_false (sym e))

ellipsis_is : (k : Kind) → is_ellipsis k ≡ true → k ≡ kind.Ellipsis
ellipsis_is kind.Ellipsis e = refl
ellipsis_is k e = absurd (true_false (sym e))

open_version_is : (k : Kind) → is_open_version k ≡ true → k ≡ kind.OpenVersion
open_version_is kind.OpenVersion e = refl
open_version_is k e = absurd (true_false (sym e))

-- What passes has the kind.
sign_is : (s : Sign) (k : Kind) → is_sign s k ≡ true → k ≡ kind_of s
sign_is sign.OpenBrace k e = open_brace_is k e
sign_is sign.CloseBrace k e = close_brace_is k e
sign_is sign.CloseVersion k e = close_version_is k e
sign_is sign.Comma k e = comma_is k e
sign_is sign.Assignment k e = assignment_is k e
sign_is sign.End k e = end_is k e
sign_is sign.Of k e = of_is k e
sign_is sign.Components k e = components_is k e
sign_is sign.Ellipsis k e = ellipsis_is k e
sign_is sign.OpenVersion k e = open_version_is k e

-- The kind passes.
kind_is : (s : Sign) → is_sign s (kind_of s) ≡ true
kind_is sign.OpenBrace = refl
kind_is sign.CloseBrace = refl
kind_is sign.CloseVersion = refl
kind_is sign.Comma = refl
kind_is sign.Assignment = refl
kind_is sign.End = refl
kind_is sign.Of = refl
kind_is sign.Components = refl
kind_is sign.Ellipsis = refl
kind_is sign.OpenVersion = refl

pub sign_first : (s : Sign) (t : Token) (u v : List Token) → v ≡ t ∷ u → is_sign s t.kind ≡ true → first_kind v ≡ Some (kind_of s)
sign_first s t u v e h = ap first_kind e ∙ ap (λ k. Some k) (sign_is s t.kind h)

pub sign_other : (s : Sign) (t : Token) (u v : List Token) → v ≡ t ∷ u → is_sign s t.kind ≡ false → first_kind v ≡ Some (kind_of s) → ⊥
sign_other s t u v e h f =
    let g : t.kind ≡ kind_of s = some_same (ap first_kind e) f in true_false (sym (ap (is_sign s) g ∙ kind_is s) ∙ h)

pub sign_end : (s : Sign) (v : List Token) → v ≡ [] → first_kind v ≡ Some (kind_of s) → ⊥
sign_end s v e f = let g : ◌≡◌ {A = Option Kind} None (Some (kind_of s)) = sym (ap first_kind e) ∙ f in let y : ⊥ = cc in y

pub ruleset sign_steps = (sign_first, sign_other, sign_end)
