-- What is reported of modules that are refused.
use Rattle.std.specs.Prelude.{◌≡◌, ◌≢◌, ◌⊎◌, ℕ, List, ◌++◌, codes, string_bytes}
use Rattle.asn_modules.specs.Modules.{Modules}
use Rattle.asn_modules.specs.Reading.{AreModules, IsModulesRefusal}
use Rattle.asn_modules_errors.specs.Errors.{error_text}
use Rattle.asn_modules_errors.specs.declared.error.ModuleError.{ModuleError}
use Rattle.asn_modules_errors.specs.declared.error.ModuleError.TheVariants.{OutOfMemory}
use Rattle.asn_modules_names.specs.sources.Reading.{Named}
use Rattle.asn_replies.specs.declared.reply.Reply.{Reply}
use Rattle.asn_replies.specs.declared.reply.Reply.TheVariants.{Answer, Refusal}
use Rattle.asn_replies.specs.declared.status.Status.TheVariants.{Refused}

-- The reply refuses texts for the error, by its text and a line feed.
abbrev pub IsReplyTo : ModuleError → Reply → Type 0
IsReplyTo e (Answer due) = ⊥
IsReplyTo e (Refusal status line) =
    (e ≢ OutOfMemory) × ((status ≡ Refused) × (string_bytes line ≡ error_text e ++ codes "\n"))

-- The reply refuses these texts for an error of theirs.
pub record IsModulesReply (texts : List Named) (reply : Reply) : Type 0 where
  pub error : ModuleError
  pub refusal : IsModulesRefusal texts error
  pub told : IsReplyTo error reply

-- The bytes are what this says of the modules that the texts are.
pub record IsModulesText (text : Modules → List ℕ) (texts : List Named) (due : List ℕ)
    : Type 0 where
  pub modules : Modules
  pub read : AreModules texts modules
  pub is : due ≡ text modules

-- The reply is what this says of them.
abbrev pub IsModulesAnswer : (Modules → List ℕ) → List Named → Reply → Type 0
IsModulesAnswer text texts (Answer due) = IsModulesText text texts (string_bytes due)
IsModulesAnswer text texts (Refusal status line) = ⊥

-- The reply is what this says of the modules that the texts are, or refuses the texts.
abbrev pub IsReport : (Modules → List ℕ) → List Named → Reply → Type 0
IsReport text texts reply = IsModulesAnswer text texts reply ⊎ IsModulesReply texts reply
