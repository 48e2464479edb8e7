-- What a status says of what was written.
use Rattle.std.specs.Prelude.{◌≡◌, ℕ, List, String, string_bytes, Result, Ok, Err}
use Rattle.std.specs.Global.{Global}
use Rattle.std.specs.Io.KnownBytes.{Appends, Keeps}
use Rattle.asn_replies.specs.declared.reply.Reply.{Reply}
use Rattle.asn_replies.specs.declared.reply.Reply.TheVariants.{Answer, Refusal}
use Rattle.asn_replies.specs.declared.status.Status.{Status}
use Rattle.asn_replies.specs.declared.status.Status.TheVariants.{Done, WriteFault, WantOfMemory}
use Rattle.asn_streams.specs.Faults.{AppendsFront, Increased}
use Rattle.asn_streams.specs.Transfer.{Transfer}

-- Bytes that were due were written whole, and the status is that of the command; or a write failed behind a front part of them.
pub data Outcome (due : List ℕ) (status : Status) (sink : Transfer) : Status → Type 0 where
  whole : Appends sink.bytes_before sink.bytes_after due → Outcome due status sink status
  cut : Increased sink.faults_before sink.faults_after → AppendsFront sink.bytes_before sink.bytes_after due → Outcome due status sink WriteFault

-- Nothing was written.
abbrev pub IsSilent : Transfer → Type 0
IsSilent sink = Keeps sink.bytes_before sink.bytes_after

-- The answer was written to the output, or the lines of the refusal to the errors, and nothing to the other one. Without a reply nothing was written.
abbrev pub Delivered : {E : Type 0} → Result Reply E → Transfer → Transfer → Status → Type 0
Delivered (Ok (Answer text)) output errors status = Outcome (string_bytes text) Done output status × IsSilent errors
Delivered (Ok (Refusal told line)) output errors status = Outcome (string_bytes line) told errors status × IsSilent output
Delivered (Err e) output errors status = (status ≡ WantOfMemory) × (IsSilent output × IsSilent errors)
