-- The loops around a part of a type.
use Rattle.std.specs.Prelude.{List, [], ◌∷◌}
use Rattle.asn_parts.specs.declared.loops.Loops.{Loops, fold-Loops}
use Rattle.asn_parts.specs.declared.loops.Loops.TheOpen.{Loops-F}

-- One level: what the loop holds, and what those around it hold.
abbrev pub bodies_step : {P : Type 0} → Loops-F P (List P) → List P
bodies_step Loops-F.Outermost = []
bodies_step (Loops-F.Within body outer) = body ∷ outer.now

-- What the loops hold, the innermost first.
abbrev pub bodies_of : {P : Type 0} → Loops P → List P
bodies_of {P} = fold-Loops P (List P) bodies_step
