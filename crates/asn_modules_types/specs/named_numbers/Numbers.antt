-- What the table holds.
use Rattle.std.specs.Prelude.{◌≡◌, ℕ, List}
use Rattle.std.specs.Borrow.{Bor}
use Rattle.std.specs.HashMap.{get}
use Rattle.asn_modules_names.specs.lookup.Indexes.{same_pair}
use Rattle.asn_modules_types.specs.named_numbers.Named.{StatedType, constant_named}
use Rattle.asn_modules_types.specs.declared.named_numbers.numbers.NamedNumbers.{NamedNumbers}

-- The table is that of the named numbers of these types.
pub record AreNumbersOf (types : List StatedType) (numbers : NamedNumbers) : Type 0 where
  pub first : (q : ℕ × Bor (List ℕ))
      → get same_pair numbers.first q ≡ constant_named types q.0 q.1.now
