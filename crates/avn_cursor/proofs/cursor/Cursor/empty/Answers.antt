use Rattle.std.proofs.Common.{◌≡◌, ap, refl, ◌∙◌, [], List, ℕ, length, arith}
use Rattle.std.proofs.lemmas.Str.{chars-IsAscii}
use Rattle.std.proofs.lemmas.Str.Ascii.{IsAscii-nil}
use Rattle.asn_core.specs.Seen.{after}
use Rattle.avn_cursor.proofs.cursor.Cursor.empty.Goals as goal

nothing_after : (text : List ℕ) → text ≡ [] → after text 0 ≡ []
unfolding after
nothing_after text e = ap (λ t. after t 0) e ∙ chars-IsAscii [] IsAscii-nil

pub invariant_of-result : goal.invariant_of-result
invariant_of-result c =
    (c.has_edge_at_start.ensures, c.has_edge_at_start.ensures, omega (arith, ap length c.new-scan.ensures.text), nothing_after _ c.new-scan.ensures.text, refl)

pub returns-clause-rest : goal.returns-clause-rest
returns-clause-rest c = nothing_after _ c.new-scan.ensures.text
