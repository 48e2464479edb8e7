-- The bodies that a chain of loops holds.
use Rattle.std.proofs.Common.{◌≡◌, Bor, List, [], ◌∷◌, rules}
use Rattle.asn_parts.specs.Chain.{bodies_of, bodies_step}
use Rattle.asn_parts.specs.declared.loops.Loops.{Loops, fold-roll-Loops}
use Rattle.asn_parts.specs.declared.loops.Loops.TheOpen.{Loops-F}
use Rattle.asn_parts.specs.declared.loops.Loops.TheViews.{roll-Loops}
use Rattle.asn_parts.specs.declared.loops.Loops.TheVariants.{Outermost, Within, rolls-Outermost, rolls-Within}

pub bodies-outermost : (P : Type 0) → bodies_of {P = P} Outermost ≡ []
bodies-outermost P = let layer = fold-roll-Loops P (List P) bodies_step in let rolled : roll-Loops P Loops-F.Outermost ≡ Outermost = rolls-Outermost in search rules

pub bodies-within : (P : Type 0) (body : P) (outer : Bor (Loops P)) → bodies_of (Within body outer) ≡ body ∷ bodies_of outer.now
bodies-within P body outer = let layer = fold-roll-Loops P (List P) bodies_step in let rolled = rolls-Within body outer in search rules
