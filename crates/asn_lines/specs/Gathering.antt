-- What is gathered of the lines of a piece.
use Rattle.std.specs.Prelude.{◌≡◌, ℕ, ◌+◌, List, [], ◌++◌, All, length}
use Rattle.asn_lines.specs.Answers.{AnswersLines, LineAnswers}
use Rattle.asn_lines.specs.Lines.{IsShort, last_part}
use Rattle.asn_lines.specs.Splits.{Splits}
use Rattle.asn_lines.specs.declared.gathered.Gathered.{Gathered}

-- Nothing but the line that isn't whole has changed.
pub record Keeps (old new : Gathered) : Type 0 where
  pub output : new.output.items ≡ old.output.items
  pub errors : new.errors.items ≡ old.errors.items
  pub lines : new.lines ≡ old.lines
  pub refused : new.refused ≡ old.refused

-- What was gathered grew by what these lines come to.
pub record Gathers (answers : LineAnswers) (old new : Gathered) (whole : List (List ℕ)) : Type 0 where
  pub answer_bytes : List ℕ
  pub refusal_bytes : List ℕ
  pub refusals : ℕ
  pub replies : AnswersLines answers (old.lines + 1) whole answer_bytes refusal_bytes refusals
  pub output : new.output.items ≡ old.output.items ++ answer_bytes
  pub errors : new.errors.items ≡ old.errors.items ++ refusal_bytes
  pub lines : new.lines ≡ old.lines + length whole
  pub refused : new.refused ≡ old.refused + refusals
  pub short : All IsShort whole

-- The lines that the piece ends are answered, and what stands after them is the line that isn't whole.
pub record TakesPiece (answers : LineAnswers) (old new : Gathered) (piece : List ℕ) : Type 0 where
  pub whole : List (List ℕ)
  pub splits : Splits (old.line.items ++ piece) whole new.line.items
  pub gathers : Gathers answers old new whole

-- The line that isn't whole is answered as the last one, unless it is empty.
pub record TakesEnd (answers : LineAnswers) (old new : Gathered) : Type 0 where
  pub gathers : Gathers answers old new (last_part old.line.items)
  pub empty : new.line.items ≡ []

-- Some of the lines that the piece ends are answered, and what stands after them has P behind so many lines.
pub record Stops (answers : LineAnswers) (old new : Gathered) (piece : List ℕ) (P : ℕ → List ℕ → Type 0) : Type 0 where
  pub whole : List (List ℕ)
  pub rest : List ℕ
  pub splits : Splits (old.line.items ++ piece) whole rest
  pub gathers : Gathers answers old new whole
  pub has : P new.lines rest
