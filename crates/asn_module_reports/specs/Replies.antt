-- What is written of the module that a text stands for.
use Rattle.std.specs.Prelude.{◌≡◌, ◌≢◌, ℕ, List, String, string_bytes, Result, Ok, Err}
use Rattle.std.specs.Global.{Global}
use Rattle.asn_module.specs.declared.fault.ModuleFault.{ModuleFault}
use Rattle.asn_module.specs.declared.fault.ModuleFault.TheVariants.{OutOfMemory}
use Rattle.asn_module_reports.specs.Reports.{fault_line}
use Rattle.asn_module_reports.specs.declared.reply.Reply.{Reply}
use Rattle.asn_module_reports.specs.declared.reply.Reply.TheVariants.{Answer, Refusal}

-- The bytes of an answer are of the first kind, and those of a refusal of the second.
abbrev pub IsReply : (List ℕ → Type 0) → (List ℕ → Type 0) → Reply → Type 0
IsReply IsAnswer IsRefusal (Answer text) = IsAnswer (string_bytes text)
IsReply IsAnswer IsRefusal (Refusal line) = IsRefusal (string_bytes line)

-- Nothing is refused.
abbrev pub IsAnswered : Reply → Type 0
IsAnswered (Answer text) = Unit {0}
IsAnswered (Refusal line) = ⊥

-- The reply has the report, or the line of the fault that comes in its place. Want of memory has no line.
abbrev pub IsReplyWith : Result (String Global) ModuleFault → Reply → Type 0
IsReplyWith (Ok report) (Answer text) = string_bytes text ≡ string_bytes report
IsReplyWith (Err fault) (Refusal line) = (fault ≢ OutOfMemory) × (string_bytes line ≡ fault_line fault)
IsReplyWith report reply = ⊥
