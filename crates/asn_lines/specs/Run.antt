-- What a run reads and writes.
use Rattle.std.specs.Prelude.{◌≡◌, ◌⊎◌, ℕ, ◌+◌, ◌<◌, List, ◌∷◌, ◌++◌, All, ⊤, length}
use Rattle.std.specs.Io.KnownBytes.{Appends, Consumes, IsAtEnd}
use Rattle.asn_lines.specs.Answers.{AnswersLines, LineAnswers}
use Rattle.asn_lines.specs.Lines.{IsShort}
use Rattle.asn_lines.specs.declared.limits.TheConstants.{MOST_LINES}
use Rattle.asn_streams.specs.Faults.{AppendsFront}
use Rattle.asn_streams.specs.Input.{input_limit}
use Rattle.asn_streams.specs.Transfer.{Transfer}

-- Bytes with P were read.
pub record ReadSoFar (source : Transfer) (P : List ℕ → Type 0) : Type 0 where
  pub input : List ℕ
  pub taken : Consumes source.bytes_before source.bytes_after input
  pub has : P input

-- The whole input was read, and has P.
pub record ReadToEnd (source : Transfer) (P : List ℕ → Type 0) : Type 0 where
  pub so_far : ReadSoFar source P
  pub ended : IsAtEnd source.bytes_after

-- The lines, the first of an input, are answered: what they come to was written, and nothing else. Each is within the limit, and the number of those that are refused has P.
pub record Answered (answers : LineAnswers) (output errors : Transfer) (P : ℕ → Type 0) (lines : List (List ℕ)) : Type 0 where
  pub answer_bytes : List ℕ
  pub refusal_bytes : List ℕ
  pub refused : ℕ
  pub replies : AnswersLines answers 1 lines answer_bytes refusal_bytes refused
  pub to_output : Appends output.bytes_before output.bytes_after answer_bytes
  pub to_errors : Appends errors.bytes_before errors.bytes_after refusal_bytes
  pub has : P refused
  pub short : All IsShort lines

-- The first of the lines are answered.
pub record AnsweredFront (answers : LineAnswers) (output errors : Transfer) (lines : List (List ℕ)) : Type 0 where
  pub first : List (List ℕ)
  pub others : List (List ℕ)
  pub joined : lines ≡ first ++ others
  pub answered : Answered answers output errors (λ _. ⊤) first

-- The lines before the one of this number are answered, and that one has more bytes than the limit, or a number above the limit.
pub record StoppedAt (answers : LineAnswers) (output errors : Transfer) (number : ℕ) (lines : List (List ℕ)) : Type 0 where
  pub first : List (List ℕ)
  pub line : List ℕ
  pub others : List (List ℕ)
  pub joined : lines ≡ first ++ line ∷ others
  pub counted : number ≡ length first + 1
  pub past_limit : (input_limit < length line) ⊎ (MOST_LINES < number)
  pub answered : Answered answers output errors (λ _. ⊤) first

-- What was written to either sink is a front part of what the first of the lines come to.
pub record CutShort (answers : LineAnswers) (output errors : Transfer) (lines : List (List ℕ)) : Type 0 where
  pub first : List (List ℕ)
  pub others : List (List ℕ)
  pub joined : lines ≡ first ++ others
  pub answer_bytes : List ℕ
  pub refusal_bytes : List ℕ
  pub refused : ℕ
  pub replies : AnswersLines answers 1 first answer_bytes refusal_bytes refused
  pub to_output : AppendsFront output.bytes_before output.bytes_after answer_bytes
  pub to_errors : AppendsFront errors.bytes_before errors.bytes_after refusal_bytes
