-- What errors tell.
use Rattle.std.specs.Prelude.{◌≡◌, ℕ, List, ◌++◌, codes, decimal, length, take, String, string_bytes, Option, Some, None, option_map}
use Rattle.std.specs.Global.{Global}
use Rattle.std.specs.Str.{IsUtf8}
use Rattle.asn_modules_grammar.specs.declared.headers.fault.Expected.{Expected}
use Rattle.asn_lexer.specs.Places.{line_after, column_after}
use Rattle.asn_lexer.specs.declared.place.Place.{Place}
use Rattle.asn_lexer.specs.declared.token.Token.{Token}
use Rattle.asn_modules_errors.specs.Causes.{cause_text}
use Rattle.asn_modules_errors.specs.LeftOuts.{left_out}
use Rattle.asn_modules_errors.specs.Slices.{text_of}
use Rattle.asn_modules_errors.specs.declared.cause.Cause.{Cause}
use Rattle.asn_modules_errors.specs.declared.cause.Cause.TheVariants as cause
use Rattle.asn_modules_errors.specs.declared.error.ModuleError.{ModuleError}
use Rattle.asn_modules_errors.specs.declared.error.ModuleError.TheVariants as error

-- The text of an error.
abbrev pub error_text : ModuleError → List ℕ
error_text (error.Refused file place cause) =
    string_bytes file
    ++ (codes ":" ++ (decimal place.line ++ (codes ":" ++ (decimal place.column ++ (codes ": " ++ cause_text cause)))))
error_text error.OutOfMemory = codes "Out of memory"

-- The line and column of what begins so many bytes from the beginning of the text.
abbrev pub place_at : List ℕ → ℕ → Place
place_at text offset =
    record { line = line_after (take offset text); column = column_after (take offset text) }

-- The error refuses the text of this name at a place and for a cause of which P holds, unless
-- memory ran out.
abbrev pub Refuses : List ℕ → (Place → Cause → Type 0) → ModuleError → Type 0
Refuses file P (error.Refused f place cause) = (string_bytes f ≡ file) × P place cause
Refuses file P error.OutOfMemory = Unit {0}

-- The string shows the token; the end of the text is shown by none.
abbrev pub Shows : List ℕ → Option Token → Option (String Global) → Type 0
Shows text None None = Unit {0}
Shows text (Some t) (Some s) = IsUtf8 (text_of text t) → string_bytes s ≡ text_of text t
Shows text t s = ⊥

-- Where the token begins; the end of the text where there is none.
abbrev pub start_of : List ℕ → Option Token → ℕ
start_of text None = length text
start_of text (Some t) = t.start

-- The cause is that this token was met where something else was expected: a part that isn't read
-- shows there, or both are reported.
abbrev pub IsUnexpected : List ℕ → Option Token → Expected → Cause → Type 0
IsUnexpected text met e (cause.LeftOut part) = left_out (option_map (λ t. t.kind) met) e ≡ Some part
IsUnexpected text met e (cause.Unexpected shown expected) =
    (left_out (option_map (λ t. t.kind) met) e ≡ None) × (expected ≡ e) × Shows text met shown
IsUnexpected text met e c = ⊥
