-- Object identifiers as JSON has them.
use Rattle.std.specs.Prelude.{◌≡◌, ℕ, List, Option, Some, None, Ok, Err}
use Rattle.serde_json.specs.Data.{Data}
use Rattle.serde_json.specs.Written.{compact_text}
use Rattle.asn_fault.specs.Failure.{Cause}
use Rattle.asn_traits.specs.Arcs.{dotted_identifier}
use Rattle.asn_traits.specs.Value.{Value}

-- What is wrong with a text that is no object identifier.
abbrev pub no_identifier : List ℕ → Cause
no_identifier text = Cause.invalid_oid_string (compact_text (Data.string text))

-- The text is the object identifier of these arcs, or none.
abbrev pub IsDotted : List ℕ → Option (List ℕ) → Type 0
IsDotted text (Some arcs) = dotted_identifier text ≡ Ok (Value.arcs arcs)
IsDotted text None = dotted_identifier text ≡ Err (no_identifier text)
