-- Texts are read in one way.
use Rattle.std.proofs.Common.{◌≡◌, ℕ, List, [], ◌∷◌, refl, sym, subst, ◌∙◌}
use Rattle.asn_lexer.proofs.Reading.{same_tokens}
use Rattle.asn_modules_names.specs.Mentions.{Source}
use Rattle.asn_modules_grammar.specs.notation.Modules.{Module, TextParses}
use Rattle.asn_modules_grammar.proofs.notation.OneText.{same_text}
use Rattle.asn_modules_names.specs.sources.Reading.{AreRead, IsRead, Named}
use Rattle.asn_modules_reader.specs.text.Texts.{IsText}

-- A text is of one list of modules.
same_modules : (limit : ℕ) (text : List ℕ) (ms ns : List Module) → IsText limit text ms → IsText limit text ns → ms ≡ ns
same_modules limit text ms ns a b = same_text a.parses (subst (λ ts. TextParses limit ts ns) (same_tokens text b.tokens a.tokens b.split a.split) b.parses)

same_source : (t : Named) (s u : Source) → IsRead t s → IsRead t u → s ≡ u
same_source t s u a b =
    let file : s.file ≡ u.file = a.file ∙ sym b.file in
    let text : s.text ≡ u.text = a.text ∙ sym b.text in
    let modules : s.modules ≡ u.modules = same_modules _ t.text s.modules u.modules a.modules b.modules in
    (λ i. record { file = file i; text = text i; modules = modules i })

-- Texts are of one list of sources.
pub same_sources : (texts : List Named) (ss us : List Source) → AreRead texts ss → AreRead texts us → ss ≡ us
same_sources [] [] [] a b = refl
same_sources [] [] (u ∷ us) a b = absurd b
same_sources [] (s ∷ ss) us a b = absurd a
same_sources (t ∷ texts) [] us a b = absurd a
same_sources (t ∷ texts) (s ∷ ss) [] a b = absurd b
same_sources (t ∷ texts) (s ∷ ss) (u ∷ us) a b =
    let first = same_source t s u a.0 b.0 in
    let rest = same_sources texts ss us a.1 b.1 in
    (λ i. first i ∷ rest i)
