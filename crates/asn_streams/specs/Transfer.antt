-- What passed through a source or a sink.
use Rattle.std.specs.Prelude.{ℕ, List, Option}

-- the known bytes of a source or a sink and its count of faults, before and after
pub record Transfer : Type 0 where
  pub bytes_before : Option (List ℕ)
  pub bytes_after : Option (List ℕ)
  pub faults_before : ℕ
  pub faults_after : ℕ

-- what passed between two states of a source or a sink, by its known bytes and its count of faults
abbrev pub transfer_of : {E : Type 0} → (E → Option (List ℕ)) → (E → ℕ) → E → E → Transfer
transfer_of bytes faults old new = record { bytes_before = bytes old; bytes_after = bytes new; faults_before = faults old; faults_after = faults new }
