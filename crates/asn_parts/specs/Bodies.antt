-- What a part of a type means where it stands: within loops whose bodies are open around it.
use Rattle.std.specs.Prelude.{List, [], ◌∷◌}
use Rattle.asn_model.specs.Shape.{Shape}
use Rattle.asn_parts.specs.Closed.{IsPart, closed, closed_in}

-- The loops of these bodies, the innermost first. A part's shape may depend on the bodies around it.
abbrev pub loops_of : {P : Type 0} → (List P → P → Shape) → List P → List Shape
loops_of shape [] = []
loops_of shape (body ∷ bodies) = Shape.loop (closed_in 1 (loops_of shape bodies) (shape (body ∷ bodies) body)) ∷ loops_of shape bodies

-- The shape that a part means within these bodies.
abbrev pub meant : {P : Type 0} → (List P → P → Shape) → List P → P → Shape
meant shape bodies part = closed (loops_of shape bodies) (shape bodies part)

-- The part can be read within these bodies.
abbrev pub IsReadablePart : {P : Type 0} → (List P → P → Shape) → List P → P → Type 0
IsReadablePart shape bodies part = IsPart (loops_of shape bodies) (shape bodies part)
