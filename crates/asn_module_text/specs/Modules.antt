-- Which assignments are a module.
use Rattle.std.specs.Prelude.{◌≡◌, ℕ, List, None, true}
use Rattle.asn_notation.specs.Grammar.{ModuleParses}
use Rattle.asn_notation.specs.Names.{first_repeated, first_unassigned}
use Rattle.asn_notation.specs.Notation.{Assignment}
use Rattle.asn_notation.specs.Proper.{are_assignments_proper}

-- The text is these assignments, whose names are distinct, and each name that they refer to is assigned.
pub record IsModule (limit : ℕ) (text : List ℕ) (assignments : List Assignment) : Type 0 where
  pub parses : ModuleParses limit text assignments
  pub distinct : first_repeated assignments ≡ None
  pub assigned : first_unassigned assignments ≡ None

-- The assignments have a text, their names are distinct, and each name that they refer to is assigned.
pub record IsProper (limit : ℕ) (assignments : List Assignment) : Type 0 where
  pub proper : are_assignments_proper limit assignments ≡ true
  pub distinct : first_repeated assignments ≡ None
  pub assigned : first_unassigned assignments ≡ None
