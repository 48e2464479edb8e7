-- What is reported of a file that isn't read to its end.
use Rattle.std.specs.Prelude.{◌⊎◌, ℕ, List, ◌++◌, codes, decimal, ⊤, IfOk, Result}
use Rattle.asn_core.specs.declared.memory.OutOfMemory.{OutOfMemory}
use Rattle.asn_lines.specs.Answers.{LineAnswers}
use Rattle.asn_lines.specs.Lines.{text_lines, whole_lines}
use Rattle.asn_lines.specs.Run.{Answered, ReadSoFar, StoppedAt}
use Rattle.asn_replies.specs.Reading.{IsRefusal, IsUnreadReply}
use Rattle.asn_replies.specs.declared.read.Unread.TheVariants as unread
use Rattle.asn_replies.specs.declared.reply.Reply.{Reply}
use Rattle.asn_replies.specs.declared.status.Status.TheVariants as status
use Rattle.asn_streams.specs.Faults.{Increased}
use Rattle.asn_streams.specs.Transfer.{Transfer}

-- The line that says that the line of this number is too long.
abbrev pub long_line : List ℕ → ℕ → List ℕ
long_line file number =
    (file ++ (codes ":" ++ decimal number)) ++ codes ": has more than 16777216 bytes\n"

-- A read failed. Each line that was read up to its line feed is answered, and the reply says that
-- the file can't be read.
pub record IsUnreadHere (answers : LineAnswers) (file : List ℕ) (source output errors : Transfer)
    (reply : Result Reply OutOfMemory)
    : Type 0 where
  pub failed : Increased source.faults_before source.faults_after
  pub so_far : ReadSoFar source
      (λ input. Answered answers output errors (λ _. ⊤) (whole_lines input))
  pub told : IfOk reply (IsUnreadReply file unread.Fault)

-- A line is past a limit. The lines before it are answered, and the reply tells its number.
pub record IsTooLongHere (answers : LineAnswers) (file : List ℕ) (source output errors : Transfer)
    (reply : Result Reply OutOfMemory)
    : Type 0 where
  pub number : ℕ
  pub so_far : ReadSoFar source (λ input. StoppedAt answers output errors number (text_lines input))
  pub told : IfOk reply (IsRefusal status.TooLong (long_line file number))

-- The file isn't read to its end, and the reply says why.
abbrev pub IsUnreadAfter : LineAnswers → List ℕ → Transfer → Transfer → Transfer
    → Result Reply OutOfMemory → Type 0
IsUnreadAfter answers file source output errors reply =
    IsUnreadHere answers file source output errors reply
    ⊎ IsTooLongHere answers file source output errors reply
