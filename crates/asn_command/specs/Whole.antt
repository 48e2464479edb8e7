-- What is read and written of whole files.
use Rattle.std.specs.Prelude.{◌≡◌, ℕ, List, ◌++◌, codes, string_bytes, IsUtf8, Some, ⊤}
use Rattle.std.specs.Io.KnownBytes.{Appends}
use Rattle.asn_replies.specs.declared.reply.Reply.{Reply}
use Rattle.asn_replies.specs.declared.reply.Reply.TheVariants.{Answer, Refusal}
use Rattle.asn_replies.specs.declared.status.Status.{Status}
use Rattle.asn_replies.specs.declared.status.Status.TheVariants.{Refused, ReadFault, TooLong, NotText}
use Rattle.asn_streams.specs.Faults.{AppendsFront, Increased}
use Rattle.asn_streams.specs.Input.{ReadPastLimit, ReadWhole}
use Rattle.asn_streams.specs.Transfer.{Transfer}

-- Bytes with P were written.
pub record Wrote (sink : Transfer) (P : List ℕ → Type 0) : Type 0 where
  pub bytes : List ℕ
  pub has : P bytes
  pub appended : Appends sink.bytes_before sink.bytes_after bytes

-- A front part of bytes with P was written.
pub record WroteFront (sink : Transfer) (P : List ℕ → Type 0) : Type 0 where
  pub bytes : List ℕ
  pub has : P bytes
  pub front : AppendsFront sink.bytes_before sink.bytes_after bytes

-- Contracts see that the source has these bytes.
abbrev pub IsKnown : Transfer → List ℕ → Type 0
IsKnown source input = source.bytes_before ≡ Some input

-- The line that says that a file of this name can't be read.
abbrev pub fault_line : List ℕ → List ℕ
fault_line file = file ++ codes ": can't be read\n"

-- The line that says that it has too many bytes.
abbrev pub length_line : List ℕ → List ℕ
length_line file = file ++ codes ": has more than 16777216 bytes\n"

-- The line that says that it isn't UTF-8.
abbrev pub no_text_line : List ℕ → List ℕ
no_text_line file = file ++ codes ": isn't UTF-8\n"

-- Where the file isn't read, the line that says why was written.
abbrev pub IsTold : List ℕ → Transfer → Status → Type 0
IsTold file errors ReadFault = Appends errors.bytes_before errors.bytes_after (fault_line file)
IsTold file errors TooLong = Appends errors.bytes_before errors.bytes_after (length_line file)
IsTold file errors NotText = Appends errors.bytes_before errors.bytes_after (no_text_line file)
IsTold file errors status = ⊤

-- The lines refuse the text of the file by R, or say why it isn't read.
abbrev pub IsWholeRefusal : (List ℕ → List ℕ → Type 0) → List ℕ → Transfer → List ℕ → Status
    → Type 0
IsWholeRefusal R file source lines Refused = ReadWhole source (λ input. R input lines)
IsWholeRefusal R file source lines ReadFault =
    Increased source.faults_before source.faults_after × (lines ≡ fault_line file)
IsWholeRefusal R file source lines TooLong = ReadPastLimit source × (lines ≡ length_line file)
IsWholeRefusal R file source lines NotText =
    ReadWhole source (λ input. IsUtf8 input → ⊥) × (lines ≡ no_text_line file)
IsWholeRefusal R file source lines status = ⊥

-- The reply answers the text of the file by A, or refuses it by R, or says why it isn't read.
abbrev pub IsWholeReply : (List ℕ → List ℕ → Type 0) → (List ℕ → List ℕ → Type 0) → List ℕ
    → Transfer → Reply → Type 0
IsWholeReply A R file source (Answer due) = ReadWhole source (λ input. A input (string_bytes due))
IsWholeReply A R file source (Refusal told lines) =
    IsWholeRefusal R file source (string_bytes lines) told
