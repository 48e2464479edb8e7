-- The types that are open.
use Rattle.std.specs.Prelude.{ℕ, List, [], ◌∷◌}
use Rattle.asn_linked_types.specs.declared.expander.opened.Opened.{Opened, fold-Opened}
use Rattle.asn_linked_types.specs.declared.expander.opened.Opened.TheOpen.{Opened-F}

-- The number, and those of the types that are open further out.
abbrev pub open_step : Opened-F (List ℕ) → List ℕ
open_step Opened-F.Nothing = []
open_step (Opened-F.Number number outer) = number ∷ outer.now

-- The numbers of the types that are open, the innermost first.
abbrev pub open_numbers : Opened → List ℕ
open_numbers = fold-Opened (List ℕ) open_step
