-- What lines of a newer version of a type are cut to.
use Rattle.std.specs.Prelude.{◌≡◌, ◌⊎◌, ℕ, List, [], ◌∷◌, ◌++◌, string_bytes, IsUtf8, false}
use Rattle.std.specs.Borrow.{Bor}
use Rattle.asn_core.specs.declared.codec.Codec.{Codec}
use Rattle.asn_dynamic.specs.declared.conversion.ConvertError.{ConvertError}
use Rattle.asn_filter.specs.Kept.{IsKept, IsRefused}
use Rattle.asn_lines.specs.declared.work.LineReply.{LineReply}
use Rattle.asn_lines.specs.declared.work.LineReply.TheVariants as line
use Rattle.asn_model.specs.Shape.{Shape}
use Rattle.asn_value_refusals.specs.Lines.{IsRefusalLines, line_origin, not_text_line}
use Rattle.asn_value_refusals.specs.declared.origin.Origin.{Origin}

-- The line is UTF-8, and this is the JSON text of what the older version knows of its value, with a
-- line feed after it.
pub record IsKeptLine (from : Codec) (old new : Shape) (bytes due : List ℕ) : Type 0 where
  pub utf8 : IsUtf8 bytes
  pub output : List ℕ
  pub kept : IsKept from old new bytes output
  pub is : due ≡ output ++ 10 ∷ []

-- The line of this origin is UTF-8, and these are the lines of an error by which it isn't kept.
pub record IsUnkeptLine (from : Codec) (old new : Shape) (o : Origin) (bytes due : List ℕ)
    : Type 0 where
  pub utf8 : IsUtf8 bytes
  pub error : ConvertError
  pub refused : IsRefused from old new bytes error
  pub lines : IsRefusalLines o error bytes false due

-- The line of the number is kept so; or it isn't kept, or isn't UTF-8.
abbrev pub IsLineKept : Codec → Shape → Shape → Bor (List ℕ) → ℕ → List ℕ → LineReply → Type 0
IsLineKept from old new file number bytes (line.Answer due) =
    IsKeptLine from old new bytes (string_bytes due)
IsLineKept from old new file number bytes (line.Refusal due) =
    IsUnkeptLine from old new (line_origin file number) bytes (string_bytes due)
    ⊎ ((IsUtf8 bytes → ⊥) × (string_bytes due ≡ not_text_line (line_origin file number)))
