-- What lines come to.
use Rattle.std.specs.Prelude.{ℕ, ◌+◌, List, [], ◌∷◌, ◌++◌, String, string_bytes}
use Rattle.std.specs.Global.{Global}
use Rattle.asn_lines.specs.declared.work.LineReply.{LineReply}
use Rattle.asn_lines.specs.declared.work.LineReply.TheVariants.{Answer, Refusal}

-- Relates the number of a line and its bytes to what it comes to.
abbrev pub LineAnswers : Type 1
LineAnswers = ℕ → List ℕ → LineReply → Type 0

-- The lines, of which the first has this number, come to these bytes for the output and these for the errors, and so many of them are refused. Of each line that is answered the text is in the output, and of each other one in the errors, in the order of the lines.
pub data AnswersLines (answers : LineAnswers) : ℕ → List (List ℕ) → List ℕ → List ℕ → ℕ → Type 0 where
  no_line : (number : ℕ) → AnswersLines answers number [] [] [] 0
  answered : (number : ℕ) (line : List ℕ) (text : String Global) (lines : List (List ℕ)) (output errors : List ℕ) (refused : ℕ)
      → answers number line (Answer text) → AnswersLines answers (number + 1) lines output errors refused → AnswersLines answers number (line ∷ lines) (string_bytes text ++ output) errors refused
  refused : (number : ℕ) (line : List ℕ) (text : String Global) (lines : List (List ℕ)) (output errors : List ℕ) (refused : ℕ)
      → answers number line (Refusal text) → AnswersLines answers (number + 1) lines output errors refused → AnswersLines answers number (line ∷ lines) output (string_bytes text ++ errors) (refused + 1)
