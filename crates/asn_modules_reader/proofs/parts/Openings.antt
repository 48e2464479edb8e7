-- What reserved words are where a type may begin, a group of them at a time.
use Rattle.std.proofs.Common.{◌≡◌, Option, Some, None, refl, sym, ap, ◌∙◌}
use Rattle.asn_lexer.specs.declared.keyword.Keyword.{Keyword}
use Rattle.asn_lexer.specs.declared.keyword.Keyword.TheVariants as keyword
use Rattle.asn_modules_grammar.specs.notation.Starts as spec
use Rattle.asn_modules_grammar.specs.notation.Starts.{opening_of}
use Rattle.asn_modules_grammar.specs.declared.notation.leaf.Leaf.{Leaf}
use Rattle.asn_modules_reader.specs.parts.Starts.{text_by, plain_by, other_by}

abbrev leaf_or : Option Leaf → spec.Opening → spec.Opening
leaf_or None o = o
leaf_or (Some l) o = spec.whole (spec.leaf l)

opening_parts : (k : Keyword) → opening_of k ≡ leaf_or (text_by k) (leaf_or (plain_by k) (other_by k))
opening_parts keyword.Utf8String = refl
opening_parts keyword.Boolean = refl
opening_parts keyword.Integer = refl
opening_parts k = refl

pub opening_text : (k : Keyword) (l : Leaf) → text_by k ≡ Some l → opening_of k ≡ spec.whole (spec.leaf l)
opening_text k l e = opening_parts k ∙ ap (λ o. leaf_or o (leaf_or (plain_by k) (other_by k))) e

pub opening_plain : (k : Keyword) (l : Leaf) → text_by k ≡ None → plain_by k ≡ Some l → opening_of k ≡ spec.whole (spec.leaf l)
opening_plain k l e f = opening_parts k ∙ ap (λ o. leaf_or o (leaf_or (plain_by k) (other_by k))) e ∙ ap (λ o. leaf_or o (other_by k)) f

pub opening_other : (k : Keyword) → text_by k ≡ None → plain_by k ≡ None → opening_of k ≡ other_by k
opening_other k e f = opening_parts k ∙ ap (λ o. leaf_or o (leaf_or (plain_by k) (other_by k))) e ∙ ap (λ o. leaf_or o (other_by k)) f

pub ruleset opening_steps = (opening_text, opening_plain, opening_other)
