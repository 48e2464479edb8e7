-- Where the shapes differ, the result states it, and nowhere else.
use Rattle.std.proofs.Common.{◌≡◌, ℕ, Ok, Err}
use Rattle.asn_filter.specs.Kept.{StatesDifference}
use Rattle.asn_filter.specs.declared.fault.FilterFault.TheVariants.{NotGrown, OutOfMemory}
use Rattle.asn_growth.specs.Differences.{differences_of, growth_of}
use Rattle.asn_growth.specs.declared.reasons.Growth.TheVariants.{Differs, Grows}
use Rattle.asn_growth.specs.declared.reasons.Reason.{Reason}
use Rattle.asn_model.specs.Shape.{Shape}

pub differing_stated : {T : Type 0} (old new : Shape) (place : ℕ) (reason : Reason) → growth_of (differences_of old new 0) ≡ Differs place reason → StatesDifference {T = T} old new (Err (NotGrown place reason))
differing_stated old new place reason is = λ p r. ((λ e. (cc)), (λ f. (cc)))

pub grown_kept : {T : Type 0} (old new : Shape) (x : T) → growth_of (differences_of old new 0) ≡ Grows → StatesDifference old new (Ok x)
grown_kept old new x is = λ p r. ((λ e. (cc)), (λ f. (cc)))

pub grown_memory : {T : Type 0} (old new : Shape) → growth_of (differences_of old new 0) ≡ Grows → StatesDifference {T = T} old new (Err OutOfMemory)
grown_memory old new is = λ p r. ((λ e. (cc)), (λ f. (cc)))
