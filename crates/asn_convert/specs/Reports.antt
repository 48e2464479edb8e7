-- What is reported on a text that is cut.
use Rattle.std.specs.Prelude.{◌≡◌, ◌<◌, ℕ, List, [], ◌∷◌, ◌++◌, codes, decimal, length, Bool, true, false}
use Rattle.std.specs.List.{AllByRecursion, flat_map}
use Rattle.asn_core.specs.declared.codec.Codec.{Codec}
use Rattle.asn_dynamic.specs.Converting.{convert_error_text}
use Rattle.asn_dynamic.specs.declared.conversion.ConvertError.{ConvertError}
use Rattle.asn_filter.specs.Kept.{Filtered, IsKept}
use Rattle.asn_filter.specs.Lines.{text_lines}
use Rattle.asn_growth.specs.Differences.{differences_of, growth_of}
use Rattle.asn_growth.specs.Grows.{Grows}
use Rattle.asn_growth.specs.declared.reasons.Growth.TheVariants.{Differs}
use Rattle.asn_growth.specs.declared.reasons.Reason.{Reason}
use Rattle.asn_model.specs.Shape.{Shape}

-- The line that states why the line of a number isn't kept.
abbrev pub refusal_line : ℕ × ConvertError → List ℕ
refusal_line (number, fault) = codes "line " ++ (decimal number ++ (codes ": " ++ (convert_error_text fault ++ 10 ∷ [])))

-- Each line can be kept.
abbrev pub AreKept : Codec → Shape → Shape → List (List ℕ) → Type 0
AreKept from old new lines = AllByRecursion (λ line. (output : List ℕ) × IsKept from old new line output) lines

-- The newer shape is a later version of the older one, and each line of the text can be kept.
pub record CanKeepAll (from : Codec) (old new : Shape) (text : List ℕ) : Type 0 where
  pub grown : Grows old new
  pub lines : AreKept from old new (text_lines text)

-- The bytes are the lines of the text, all of them kept.
pub record IsKeeping (from : Codec) (old new : Shape) (text due : List ℕ) : Type 0 where
  pub grown : Grows old new
  pub filtered : Filtered from old new 1 (text_lines text) due []

-- The newer shape is no later version of the older one, and the bytes say which node of that one is the first that differs; or they are the lines that are kept, and behind them a line for each that isn't.
pub data IsKeepingRefusal (from : Codec) (old new : Shape) (text : List ℕ) : List ℕ → Type 0 where
  not_grown : (place : ℕ) (reason : Reason) → growth_of (differences_of old new 0) ≡ Differs place reason → IsKeepingRefusal from old new text (codes "refused: shapes differ at " ++ (decimal place ++ 10 ∷ []))
  some_refused : (kept : List ℕ) (refused : List (ℕ × ConvertError)) → Grows old new → Filtered from old new 1 (text_lines text) kept refused → 0 < length refused → IsKeepingRefusal from old new text (kept ++ flat_map refusal_line refused)

-- The bytes are the report on the text, of which every line is kept or not.
abbrev pub IsReport : Codec → Shape → Shape → List ℕ → List ℕ → Bool → Type 0
IsReport from old new text due true = IsKeeping from old new text due
IsReport from old new text due false = IsKeepingRefusal from old new text due
