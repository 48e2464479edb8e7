-- What one line adds.
use Rattle.std.proofs.Common.{arith, ◌≡◌, ◌+◌, ◌∷◌, ◌++◌, ℕ, List, [], String, string_bytes, sym, ap, ◌∙◌, append-nil}
use Rattle.std.specs.Global.{Global}
use Rattle.std.proofs.lemmas.List.Elements.{All-cons, All-nil}
use Rattle.asn_lines.specs.Answers.{AnswersLines, LineAnswers}
use Rattle.asn_lines.specs.Gathering.{Gathers}
use Rattle.asn_lines.specs.Lines.{IsShort}
use Rattle.asn_lines.specs.declared.gathered.Gathered.{Gathered}
use Rattle.asn_lines.specs.declared.work.LineReply.TheVariants.{Answer, Refusal}

-- No line comes to nothing.
pub nothing_gathers : (answers : LineAnswers) (old : Gathered) → Gathers answers old old []
nothing_gathers answers old = record {
  answer_bytes = [];
  refusal_bytes = [];
  refusals = 0;
  replies = AnswersLines.no_line (old.lines + 1);
  output = sym (append-nil old.output.items);
  errors = sym (append-nil old.errors.items);
  lines = omega arith;
  refused = omega arith;
  short = All-nil IsShort;
}

module _ (answers : LineAnswers) (old new : Gathered) where
  module _ (line : List ℕ) (text : String Global) (short : IsShort line) (counted : new.lines ≡ old.lines + 1) where
    -- The line is answered.
    pub answered_gathers : answers (old.lines + 1) line (Answer text) → new.output.items ≡ old.output.items ++ string_bytes text → new.errors.items ≡ old.errors.items → new.refused ≡ old.refused
        → Gathers answers old new (line ∷ [])
    answered_gathers is output errors refused = record {
      answer_bytes = string_bytes text ++ [];
      refusal_bytes = [];
      refusals = 0;
      replies = AnswersLines.answered (old.lines + 1) line text [] [] [] 0 is (AnswersLines.no_line (old.lines + 1 + 1));
      output = output ∙ ap (λ t. old.output.items ++ t) (sym (append-nil (string_bytes text)));
      errors = errors ∙ sym (append-nil old.errors.items);
      lines = omega (arith, counted);
      refused = omega (arith, refused);
      short = All-cons IsShort line [] short (All-nil IsShort);
    }

    -- The line is refused.
    pub refused_gathers : answers (old.lines + 1) line (Refusal text) → new.output.items ≡ old.output.items → new.errors.items ≡ old.errors.items ++ string_bytes text → new.refused ≡ old.refused + 1
        → Gathers answers old new (line ∷ [])
    refused_gathers is output errors refused = record {
      answer_bytes = [];
      refusal_bytes = string_bytes text ++ [];
      refusals = 0 + 1;
      replies = AnswersLines.refused (old.lines + 1) line text [] [] [] 0 is (AnswersLines.no_line (old.lines + 1 + 1));
      output = output ∙ sym (append-nil old.output.items);
      errors = errors ∙ ap (λ t. old.errors.items ++ t) (sym (append-nil (string_bytes text)));
      lines = omega (arith, counted);
      refused = omega (arith, refused);
      short = All-cons IsShort line [] short (All-nil IsShort);
    }
