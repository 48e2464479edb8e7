use Rattle.std.proofs.Common.{◌≡◌, length}
use denote.Text.{Utf8}
use denote.Shadow.{shadow}
use Rattle.avn_places.specs.Tokens.{past_string}
use Rattle.avn_places.proofs.tokens.past_string.Given as goal

abbrev pub invariant-quotes : goal.invariant-quotes
invariant-quotes l = shadow (Utf8 l.rest) × (past_string l.rest ≡ past_string l.text)

abbrev pub decreases-quotes : goal.decreases-quotes
decreases-quotes l = length l.rest
