-- The lines that say why a text isn't converted.
use Rattle.std.specs.Prelude.{◌≡◌, ℕ, List, [], ◌∷◌, ◌++◌, Bool, true, false, codes, decimal, is_some, not, IsCharBoundary, take, string_bytes, MatchBool, Option, Some, None}
use Rattle.std.specs.Borrow.{Bor}
use Rattle.std.specs.List.{flat_map}
use Rattle.asn_dynamic.specs.declared.conversion.ConvertError.{ConvertError}
use Rattle.asn_dynamic.specs.declared.conversion.ConvertError.TheVariants.{Read, Write}
use Rattle.asn_dynamic_faults.specs.Texts.{dyn_kind_text}
use Rattle.asn_dynamic_faults.specs.declared.errors.DynKind.{DynKind}
use Rattle.asn_dynamic_faults.specs.declared.errors.Step.{Step}
use Rattle.asn_dynamic_faults.specs.declared.errors.Step.TheVariants.{Field, Alternative, Element}
use Rattle.asn_dynamic_faults.specs.declared.errors.DynKind.TheVariants.{Other}
use Rattle.asn_fault.specs.Texts.{encode_kind_text}
use Rattle.asn_fault.specs.declared.avn.AvnDecodeErrorKind.TheVariants.{UnexpectedToken}
use Rattle.asn_fault.specs.declared.codec_specific.CodecDecodeError.TheVariants.{Avn}
use Rattle.asn_fault.specs.declared.decode.DecodeErrorKind.{DecodeErrorKind}
use Rattle.asn_fault.specs.declared.decode.DecodeErrorKind.TheVariants.{CodecSpecific, Parser}
use Rattle.asn_lexer.specs.Places.{column_after, line_after}
use Rattle.asn_value_refusals.specs.Excerpts.{IsExcerpt}
use Rattle.asn_value_refusals.specs.Visible.{on_one_line}
use Rattle.asn_value_refusals.specs.declared.origin.Origin.{Origin}
use Rattle.avn_places.specs.Places.{IsFaultPlace}
use Rattle.serde_json.specs.Read.{read as read_text}

-- The number of a line after a colon, if there is one.
abbrev pub line_text : Option ℕ → List ℕ
line_text None = []
line_text (Some n) = codes ":" ++ decimal n

-- A step after this text: the name of a field or an alternative, or the place of an element.
abbrev pub step_text : List ℕ → Step → List ℕ
step_text point (Field n) = point ++ string_bytes n
step_text point (Alternative n) = point ++ string_bytes n
step_text point (Element i) = codes "[" ++ (decimal i ++ codes "]")

-- The steps on the way, as `head.list[2].item`, and a colon and a blank after them.
abbrev pub path_text : List Step → List ℕ
path_text [] = []
path_text (s ∷ ss) = (step_text [] s ++ flat_map (step_text (codes ".")) ss) ++ codes ": "

-- The way to what is refused and the reason.
abbrev pub reason_text : ConvertError → List ℕ
reason_text (Read e) = path_text e.path.items ++ dyn_kind_text e.kind
reason_text (Write e) = encode_kind_text e.kind

-- What a text comes from: the file, and the number of the line after it in a stream of lines.
abbrev pub origin_text : Origin → List ℕ
origin_text o = o.file.now ++ line_text o.line

-- A line of the file, of this number.
abbrev pub line_origin : Bor (List ℕ) → ℕ → Origin
line_origin file number = record { file = file; line = Some number }

-- The line that says that a text of this origin isn't UTF-8.
abbrev pub not_text_line : Origin → List ℕ
not_text_line o = origin_text o ++ codes ": isn't UTF-8\n"

-- A text is refused with this since it is no JSON, or no value notation: the text itself is at
-- fault, and not its value.
abbrev pub is_syntax_kind : List ℕ → DecodeErrorKind → Bool
is_syntax_kind text (Parser msg) = not (is_some (read_text text))
is_syntax_kind text (CodecSpecific (Avn (UnexpectedToken found))) = true
is_syntax_kind text _ = false

abbrev pub is_syntax_fault : List ℕ → DynKind → Bool
is_syntax_fault text (Other kind) = is_syntax_kind text kind
is_syntax_fault text _ = false

abbrev pub is_text_at_fault : List ℕ → ConvertError → Bool
is_text_at_fault text (Read e) = is_syntax_fault text e.kind
is_text_at_fault text (Write e) = false

-- The line of a place after this front of a text: in a stream of lines, that of the stream.
abbrev pub line_from : Option ℕ → List ℕ → ℕ
line_from None front = line_after front
line_from (Some n) front = n

-- The file, and the line and the column of the place after this front of a text.
abbrev pub place_text : Origin → List ℕ → List ℕ
place_text o front =
    o.file.now
    ++ (codes ":" ++ (decimal (line_from o.line front) ++ (codes ":" ++ decimal (column_after front))))

-- The place of the text is shown, where that is asked for, and nothing else.
abbrev pub IsExplanation : Bool → List ℕ → ℕ → List ℕ → Type 0
IsExplanation explain text offset more = MatchBool explain (IsExcerpt text offset more) (more ≡ [])

-- The line of a refusal for its reason, after what the text comes from.
abbrev pub refusal_line : List ℕ → ConvertError → List ℕ
refusal_line front e = on_one_line (front ++ (codes ": " ++ reason_text e)) ++ codes "\n"

-- The place at which the text is said to be at fault: in value notation that of what can't stand
-- there.
abbrev pub IsPlaceOf : DecodeErrorKind → List ℕ → ℕ → Type 0
IsPlaceOf (CodecSpecific (Avn (UnexpectedToken found))) text offset = IsFaultPlace text offset
IsPlaceOf _ text offset = IsCharBoundary text offset

abbrev pub IsPlaceOfKind : DynKind → List ℕ → ℕ → Type 0
IsPlaceOfKind (Other kind) text offset = IsPlaceOf kind text offset
IsPlaceOfKind _ text offset = IsCharBoundary text offset

abbrev pub IsPlace : ConvertError → List ℕ → ℕ → Type 0
IsPlace (Read e) text offset = IsPlaceOfKind e.kind text offset
IsPlace (Write e) text offset = IsCharBoundary text offset

-- The lines of a refusal of a text that is at fault itself: after its place in the text, with what
-- stands at this very place if that is asked for.
pub record IsTextRefusal (o : Origin) (e : ConvertError) (text : List ℕ) (explain : Bool)
    (lines : List ℕ)
    : Type 0 where
  pub offset : ℕ
  pub more : List ℕ
  pub place : IsPlace e text offset
  pub shown : IsExplanation explain text offset more
  pub is : lines ≡ refusal_line (place_text o (take offset text)) e ++ more

-- The lines that say why the text of this origin is refused with this error.
abbrev pub IsRefusalLines : Origin → ConvertError → List ℕ → Bool → List ℕ → Type 0
IsRefusalLines o e text explain lines =
    MatchBool (is_text_at_fault text e) (IsTextRefusal o e text explain lines)
    (lines ≡ refusal_line (origin_text o) e)
