-- The names that are open.
use Rattle.std.specs.Prelude.{ℕ, List, [], ◌∷◌}
use Rattle.asn_expansion.specs.declared.opened.Opened.{Opened, fold-Opened}
use Rattle.asn_expansion.specs.declared.opened.Opened.TheOpen.{Opened-F}

-- The names, of those that are open further out.
abbrev pub open_step : Opened-F (List (List ℕ)) → List (List ℕ)
open_step Opened-F.Nothing = []
open_step (Opened-F.Name name outer) = name.now ∷ outer.now

-- The names that are open, the innermost first.
abbrev pub open_names : Opened → List (List ℕ)
open_names = fold-Opened (List (List ℕ)) open_step
