-- Names that break a rule, and the errors that tell them.
use Rattle.std.specs.Prelude.{◌≡◌, ℕ, List, Option, Some, None, Result, Ok, Err, string_bytes}
use Rattle.std.specs.Str.{IsUtf8}
use Rattle.asn_lexer.specs.declared.place.Place.{Place}
use Rattle.asn_modules_errors.specs.Errors.{Refuses, place_at}
use Rattle.asn_modules_errors.specs.declared.cause.Cause.{Cause}
use Rattle.asn_modules_errors.specs.declared.cause.Cause.TheVariants as cause
use Rattle.asn_modules_errors.specs.declared.cause.NameRule.{NameRule}
use Rattle.asn_modules_errors.specs.declared.error.ModuleError.{ModuleError}
use Rattle.asn_modules_errors.specs.declared.error.ModuleError.TheVariants as error
use Rattle.asn_modules_names.specs.Mentions.{Mention, name_of}

-- A name that breaks the rule.
pub record Fault : Type 0 where
  pub rule : NameRule
  pub name : Mention

abbrev pub fault_of : NameRule → Mention → Fault
fault_of r m = record { rule = r; name = m }

-- The cause is that this name breaks the rule.
abbrev pub IsNameCause : Fault → Cause → Type 0
IsNameCause f (cause.Name rule name) =
    (rule ≡ f.rule) × (IsUtf8 (name_of f.name) → string_bytes name ≡ name_of f.name)
IsNameCause f c = ⊥

-- The error tells the fault where it stands, unless memory ran out. Where there is none, memory
-- did.
abbrev pub Tells : Option Fault → ModuleError → Type 0
Tells (Some f) e =
    Refuses f.name.file
    (λ place c. (place ≡ place_at f.name.text f.name.token.start) × IsNameCause f c) e
Tells None (error.Refused file place c) = ⊥
Tells None error.OutOfMemory = Unit {0}

-- A check succeeds where there is no fault, and else tells it.
abbrev pub Checks : {A : Type 0} → Option Fault → Result A ModuleError → Type 0
Checks fault (Ok x) = fault ≡ None
Checks fault (Err e) = Tells fault e
