-- What two writes leave.
use Rattle.std.specs.Prelude.{◌≡◌, ◌⊎◌, List, ℕ, Result, Ok, Err}
use Rattle.std.specs.Io.KnownBytes.{Appends}
use Rattle.asn_streams.specs.Faults.{AppendsFront, Increased}
use Rattle.asn_streams.specs.Transfer.{Transfer}

-- No write failed.
abbrev pub IsSteady : Transfer → Type 0
IsSteady sink = sink.faults_after ≡ sink.faults_before

-- A write failed.
abbrev pub HasFailed : Transfer → Type 0
HasFailed sink = Increased sink.faults_before sink.faults_after

-- All of the bytes were written, and no write failed.
pub record WritesAll (bytes : List ℕ) (sink : Transfer) : Type 0 where
  pub all : Appends sink.bytes_before sink.bytes_after bytes
  pub steady : IsSteady sink

-- The first bytes were written to the first sink and the others to the second one; or a write failed, and a front part of either was written.
abbrev pub WritesBoth : {T E : Type 0} → List ℕ → List ℕ → Transfer → Transfer → Result T E → Type 0
WritesBoth answers refusals output errors (Ok x) = WritesAll answers output × WritesAll refusals errors
WritesBoth answers refusals output errors (Err e) = (HasFailed output ⊎ HasFailed errors)
    × AppendsFront output.bytes_before output.bytes_after answers × AppendsFront errors.bytes_before errors.bytes_after refusals
