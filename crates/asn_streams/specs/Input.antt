-- How far an input was read.
use Rattle.std.specs.Prelude.{◌≡◌, ◌≤◌, ◌+◌, ℕ, List, length}
use Rattle.std.specs.Io.KnownBytes.{Consumes, IsAtEnd}
use Rattle.asn_streams.specs.Transfer.{Transfer}
use Rattle.asn_streams.specs.declared.limits.TheConstants.{MOST_BYTES}

-- the most bytes that an input may have
abbrev pub input_limit : ℕ
input_limit = MOST_BYTES

-- the input was read to its end within the limit
pub record IsWholeInput (source : Transfer) (input : List ℕ) : Type 0 where
  pub taken : Consumes source.bytes_before source.bytes_after input
  pub ended : IsAtEnd source.bytes_after
  pub within : length input ≤ input_limit

-- the whole input was read, and has P
pub record ReadWhole (source : Transfer) (P : List ℕ → Type 0) : Type 0 where
  pub input : List ℕ
  pub whole : IsWholeInput source input
  pub has : P input

-- one byte more than the limit was read
abbrev pub ReadPastLimit : Transfer → Type 0
ReadPastLimit source = (bytes : List ℕ) × Consumes source.bytes_before source.bytes_after bytes × (length bytes ≡ input_limit + 1)
