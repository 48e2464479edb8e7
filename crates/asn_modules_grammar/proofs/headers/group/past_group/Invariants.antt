use Rattle.std.proofs.Common.{◌≡◌, ◌∷◌, [], length}
use Rattle.std.specs.Prelude.{reverse}
use Rattle.asn_modules_grammar.specs.headers.Groups.{past_groups}
use Rattle.asn_modules_grammar.proofs.headers.group.past_group.Given as goal

abbrev pub invariant-tokens : goal.invariant-tokens
invariant-tokens l = past_groups (l.innermost ∷ reverse l.outer.items) l.rest ≡ past_groups (l.fn.group ∷ []) l.tokens

abbrev pub decreases-tokens : goal.decreases-tokens
decreases-tokens l = length l.rest
