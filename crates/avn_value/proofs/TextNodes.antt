-- Texts in quotes that were read into nodes.
use Rattle.std.proofs.Common.{◌≡◌, ℕ, List, [], ◌∷◌, ◌++◌, false, refl, ap, ◌∙◌}
use Rattle.std.specs.Char.{encode_utf8}
use Rattle.std.specs.Str.{IsUtf8, chars}
use Rattle.avn_grammar.specs.Chars.{utf8_of, quote_is_doubled, starts_with}
use Rattle.avn_grammar.specs.Tree.{char_string}
use Rattle.avn_grammar.specs.Grammar.{Token}
use Rattle.avn_value.proofs.QuotedText.{spelled_run, spelled_more, text_done}
use Rattle.std.proofs.Common.{◌==◌}
use Rattle.avn_nodes.proofs.Extending.{extended-text}
use Rattle.avn_value.specs.ReadNodes.{IsRead}
use Rattle.avn_nodes.specs.NodeLists.{NodeList, with_leaf}
use Rattle.avn_nodes.specs.declared.node_kind.NodeKind.TheVariants as kind
use Rattle.avn_nodes.proofs.NodeForms.{worded}

pub run_worded : (s s1 s2 : NodeList) (text cs : List ℕ) → s1 ≡ worded s (utf8_of cs) → s2 ≡ worded s1 (s1.word ++ text) → IsUtf8 text → s2 ≡ worded s (utf8_of (cs ++ chars text))
run_worded s s1 s2 text cs e f u = f ∙ ap (λ (x : NodeList). worded x (x.word ++ text)) e ∙ ap (worded s) (spelled_run text cs u)

pub char_worded : (s s1 s2 : NodeList) (cs : List ℕ) (c : ℕ) → s1 ≡ worded s (utf8_of cs) → s2 ≡ worded s1 (s1.word ++ encode_utf8 c) → s2 ≡ worded s (utf8_of (cs ++ (c ∷ [])))
char_worded s s1 s2 cs c e f = f ∙ ap (λ (x : NodeList). worded x (x.word ++ encode_utf8 c)) e ∙ ap (worded s) (spelled_more (utf8_of cs) (utf8_of cs ++ encode_utf8 c) cs c refl refl)

pub text_read : (w n cs : List ℕ) (s s1 s2 : NodeList) → s1 ≡ worded s (utf8_of cs) → s2 ≡ with_leaf kind.CharString s1 → w ≡ (34 ∷ quote_is_doubled cs) ++ (34 ∷ n) → starts_with (λ (c : ℕ). c == 34) n ≡ false → IsRead (λ t. Token w t n) s s2 false
text_read w n cs s s1 s2 e f g h =
    (char_string (utf8_of cs), text_done w (34 ∷ n) n n cs 34 g refl refl refl h, refl, f ∙ ap (with_leaf kind.CharString) e ∙ extended-text (worded s (utf8_of cs)))
