-- A reply is what its report or its fault makes it.
use Rattle.std.proofs.Common.{◌≡◌, ◌≢◌, ℕ, List, String, Global, string_bytes, Result, Ok, Err, IfOk, IfErr, refl, sym, subst}
use Rattle.std.specs.Str.{chars}
use Rattle.asn_module.specs.Faults.{IsRefusal}
use Rattle.asn_module.specs.declared.fault.ModuleFault.{ModuleFault}
use Rattle.asn_module.specs.declared.fault.ModuleFault.TheVariants.{OutOfMemory}
use Rattle.asn_notation.specs.declared.limits.TheConstants.{NESTING_LIMIT}
use Rattle.asn_module_reports.specs.Replies.{IsAnswered, IsReply, IsReplyWith}
use Rattle.asn_module_reports.specs.Reports.{GrowthFails, IsGrowthRefusal, IsPrintingRefusal, fault_line}
use Rattle.asn_module_reports.specs.declared.reply.Reply.{Reply}
use Rattle.asn_module_reports.specs.declared.reply.Reply.TheVariants.{Answer, Refusal}

-- An answer is as the report is, and a refusal as the line of a fault.
pub replied : {E : Type 0} (P Q : List ℕ → Type 0) (report : Result (String Global) ModuleFault) (reply : Result Reply E)
    → IfOk report (λ s. P (string_bytes s)) → IfErr report (λ e. e ≢ OutOfMemory → Q (fault_line e)) → IfOk reply (IsReplyWith report) → IfOk reply (IsReply P Q)
replied P Q report (Err e) p q h = tt
replied P Q (Ok s) (Ok (Answer text)) p q h = subst P (sym h) p
replied P Q (Ok s) (Ok (Refusal line)) p q h = absurd h
replied P Q (Err e) (Ok (Answer text)) p q h = absurd h
replied P Q (Err e) (Ok (Refusal line)) p q h = subst Q (sym h.1) (q h.0)

-- Where memory alone keeps the report away, nothing is refused.
pub answered : {E : Type 0} (report : Result (String Global) ModuleFault) (reply : Result Reply E)
    → IfErr report (λ e. e ≡ OutOfMemory) → IfOk reply (IsReplyWith report) → IfOk reply IsAnswered
answered report (Err e) m h = tt
answered (Ok s) (Ok (Answer text)) m h = tt
answered (Ok s) (Ok (Refusal line)) m h = absurd h
answered (Err e) (Ok (Answer text)) m h = absurd h
answered (Err e) (Ok (Refusal line)) m h = absurd (h.0 m)

-- The line of a fault for which a text stands for no module refuses to print it.
pub printing_refused : (text : List ℕ) (report : Result (String Global) ModuleFault) → IfErr report (λ e. IsRefusal NESTING_LIMIT (chars text) e)
    → IfErr report (λ e. e ≢ OutOfMemory → IsPrintingRefusal text (fault_line e))
printing_refused text (Ok s) h = tt
printing_refused text (Err e) h = λ stated. record { fault = e; reason = h; stated = stated; is = refl }

-- The line of a fault for which there is no report on growth refuses it.
pub growth_refused : (old new text : List ℕ) (report : Result (String Global) ModuleFault) → IfErr report (λ e. GrowthFails old new text e)
    → IfErr report (λ e. e ≢ OutOfMemory → IsGrowthRefusal old new text (fault_line e))
growth_refused old new text (Ok s) h = tt
growth_refused old new text (Err e) h = λ stated. record { fault = e; reason = h; stated = stated; is = refl }
