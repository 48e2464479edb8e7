-- A whole text has at most one answer.
use Rattle.std.proofs.Common.{◌≡◌, ℕ, List, refl, sym, ap, ◌∙◌}
use Rattle.std.specs.Char.{is_whitespace}
use Rattle.avn_grammar.specs.Chars.{skip_while, utf8_of}
use Rattle.avn_grammar.specs.Tree.{Tree}
use Rattle.avn_grammar.specs.Grammar.{ParsesWhole}
use Rattle.avn_grammar.specs.Depth.{ExceedsDepth}
use Rattle.avn_grammar.specs.ParseFailure.{Found, found_here, found_past, ParseFailure, no_value, more_follows}
use Rattle.avn_grammar.proofs.OneTree.{same_parses}
use Rattle.avn_grammar.proofs.DeepParses.{deep_parses}

pub reads-deep : {limit : ℕ} {u : List ℕ} {t : Tree} → ParsesWhole limit u t → ExceedsDepth limit 0 u → ⊥
reads-deep {t = t} r d = deep_parses d t r.0 r.1

pub reads-unread : {limit : ℕ} {u found : List ℕ} {t : Tree} → ParsesWhole limit u t → ParseFailure limit u found → ⊥
reads-unread {t = t} r (no_value h f) = h.0 t r.0 r.1
reads-unread r (more_follows v s n) = n (ap (skip_while is_whitespace) (sym (same_parses r.1 s).1) ∙ r.2)

pub unread-deep : {limit : ℕ} {u found : List ℕ} → ParseFailure limit u found → ExceedsDepth limit 0 u → ⊥
unread-deep (no_value h f) d = h.1 d
unread-deep (more_follows {rest = r} t s n) d = deep_parses d t r s

pub same_found : {u e f : List ℕ} → Found u e → Found u f → e ≡ f
same_found (found_here n) (found_here m) = refl
same_found (found_here n) (found_past l c f) = absurd (n l c)
same_found (found_past l c f) (found_here n) = absurd (n l c)
same_found (found_past l c f) (found_past k d g) = same_found f g

pub same_unread : {limit : ℕ} {u e f : List ℕ} → ParseFailure limit u e → ParseFailure limit u f → e ≡ f
same_unread (no_value h f) (no_value k g) = ap utf8_of (same_found f g)
same_unread (no_value h f) (more_follows {rest = r} t s n) = absurd (h.0 t r s)
same_unread (more_follows {rest = r} t s n) (no_value h f) = absurd (h.0 t r s)
same_unread (more_follows t s n) (more_follows v k m) = ap utf8_of (same_parses s k).1
