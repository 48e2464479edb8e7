-- What the lines of a text are cut to.
use Rattle.std.specs.Prelude.{◌≡◌, ◌↔◌, ℕ, ◌+◌, List, [], ◌∷◌, ◌++◌, String, string_bytes, Result, Ok, Err}
use Rattle.std.specs.Global.{Global}
use Rattle.avn_grammar.specs.declared.limits.TheConstants.{LEVEL_LIMIT}
use Rattle.asn_codec.specs.Texts.{IsDecodeFailure, IsUnencodable, TextDecodesTo}
use Rattle.asn_core.specs.declared.codec.Codec.{Codec}
use Rattle.asn_core.specs.declared.codec.Codec.TheVariants.{Jer}
use Rattle.asn_dynamic.specs.declared.conversion.ConvertError.{ConvertError}
use Rattle.asn_dynamic.specs.declared.conversion.ConvertError.TheVariants.{Read, Write}
use Rattle.asn_dynamic_faults.specs.DynFailure.{dyn_failure}
use Rattle.asn_dynamic_faults.specs.declared.errors.DynError.{DynError}
use Rattle.asn_fault.specs.EncodeCause.{encode_cause}
use Rattle.asn_fault.specs.declared.encode.EncodeError.{EncodeError}
use Rattle.asn_filter.specs.declared.fault.FilterFault.{FilterFault}
use Rattle.asn_filter.specs.declared.fault.FilterFault.TheVariants.{NotGrown}
use Rattle.asn_growth.specs.Adapted.{project}
use Rattle.asn_growth.specs.ComesUpon.{IsUnknown, Known}
use Rattle.asn_growth.specs.Differences.{differences_of, growth_of}
use Rattle.asn_growth.specs.declared.reasons.Growth.TheVariants.{Differs}
use Rattle.asn_growth.specs.declared.reasons.Reason.{Reason}
use Rattle.asn_model.specs.Canonical.{canonical_text}
use Rattle.asn_model.specs.Notation.{Notation, notation_of}
use Rattle.asn_model.specs.Shape.{Shape}
use Rattle.asn_model.specs.Value.{Value}
use Rattle.asn_model.specs.Writable.{Writable}
use Rattle.asn_upgrades.specs.Apart.{IsApart}

-- The line is kept as this text: it decodes to a value by the newer shape, has no alternative or item that a reader of the older one looks at and lacks, and the text is the JSON of the value without what the older shape lacks.
pub record IsKept (from : Codec) (old new : Shape) (line output : List ℕ) : Type 0 where
  pub value : Value
  pub read : TextDecodesTo LEVEL_LIMIT (notation_of from) new line value
  pub known : Known (notation_of from) old read.tree
  pub writable : Writable Notation.jer (project old value)
  pub text : output ≡ canonical_text Notation.jer (project old value)

-- The line isn't kept, for the first of these reasons that there is: the newer shape doesn't read it; the older one comes upon an alternative or item that it lacks; what it has of the value isn't written in JSON.
pub data IsRefused (from : Codec) (old new : Shape) (line : List ℕ) : ConvertError → Type 0 where
  unread : (e : DynError) → IsDecodeFailure LEVEL_LIMIT from new line (dyn_failure e) → IsRefused from old new line (Read e)
  unknown : (e : DynError) (value : Value) (read : TextDecodesTo LEVEL_LIMIT (notation_of from) new line value)
      → IsApart (notation_of from) old read.tree IsUnknown (dyn_failure e) → IsDecodeFailure LEVEL_LIMIT from old line (dyn_failure e) → IsRefused from old new line (Read e)
  unwritten : (e : EncodeError) (value : Value) (read : TextDecodesTo LEVEL_LIMIT (notation_of from) new line value)
      → Known (notation_of from) old read.tree → IsUnencodable Jer (project old value) (encode_cause e.kind) → e.codec ≡ Jer → IsRefused from old new line (Write e)

-- The line is kept as the text, or isn't kept for the reason.
abbrev pub IsCut : Codec → Shape → Shape → List ℕ → Result (String Global) ConvertError → Type 0
IsCut from old new line (Ok output) = IsKept from old new line (string_bytes output)
IsCut from old new line (Err fault) = IsRefused from old new line fault

-- The lines, of which the first has this number, come to this text and these refusals. Each line that is kept is in the text, with a line feed after it; each other one is in the refusals, by its number.
pub data Filtered (from : Codec) (old new : Shape) : ℕ → List (List ℕ) → List ℕ → List (ℕ × ConvertError) → Type 0 where
  no_line : (number : ℕ) → Filtered from old new number [] [] []
  line_kept : (number : ℕ) (line output : List ℕ) (lines : List (List ℕ)) (text : List ℕ) (refused : List (ℕ × ConvertError))
      → IsKept from old new line output → Filtered from old new (number + 1) lines text refused → Filtered from old new number (line ∷ lines) (output ++ (10 ∷ text)) refused
  line_refused : (number : ℕ) (line : List ℕ) (fault : ConvertError) (lines : List (List ℕ)) (text : List ℕ) (refused : List (ℕ × ConvertError))
      → IsRefused from old new line fault → Filtered from old new (number + 1) lines text refused → Filtered from old new number (line ∷ lines) text ((number, fault) ∷ refused)

-- The result is `NotGrown` exactly where the newer shape is no later version of the older one, and states the first difference.
abbrev pub StatesDifference : {T : Type 0} → Shape → Shape → Result T FilterFault → Type 0
StatesDifference old new result = (place : ℕ) (reason : Reason) → (result ≡ Err (NotGrown place reason)) ↔ (growth_of (differences_of old new 0) ≡ Differs place reason)

-- What a line adds to the text.
abbrev pub kept_part : Result (String Global) ConvertError → List ℕ
kept_part (Ok output) = string_bytes output ++ 10 ∷ []
kept_part (Err fault) = []

-- What the line of this number adds to the refusals.
abbrev pub refused_part : ℕ → Result (String Global) ConvertError → List (ℕ × ConvertError)
refused_part number (Ok output) = []
refused_part number (Err fault) = (number, fault) ∷ []
