-- Slots in their order.
use Rattle.std.proofs.Common.{◌≡◌, refl, ap, sym, ◌∙◌, List, [], ◌∷◌, ◌++◌, Option, Some, None}
use Rattle.asn_slots.specs.Slots.{or_some, last_present}

pub or_some-assoc : {A : Type 0} (a b c : Option A) → or_some (or_some a b) c ≡ or_some a (or_some b c)
or_some-assoc (Some x) b c = refl
or_some-assoc None b c = refl

pub or_some-none : {A : Type 0} (a : Option A) → or_some a None ≡ a
or_some-none (Some x) = refl
or_some-none None = refl

-- The last slot goes before the others.
pub last_present-last : {A : Type 0} (ss : List (Option A)) (s : Option A) → last_present (ss ++ s ∷ []) ≡ or_some s (last_present ss)
last_present-last [] s = sym (or_some-none s)
last_present-last (x ∷ ss) s = ap (λ o. or_some o x) (last_present-last ss s) ∙ or_some-assoc s (last_present ss) x
