-- A counted fault is a cause.
use Rattle.std.proofs.Common.{◌≡◌, ◌≤◌, ℕ, Err, ap, ◌∙◌, subst, sym, arith}
use Rattle.asn_streams.specs.Faults.{HasCause, next_count}
use Rattle.asn_streams.specs.declared.memory.Calls.{Calls}
use Rattle.asn_streams.specs.declared.io.Failed.{Failed}

pub counted_cause : (old mid new : Calls) (f : Failed) (made : ℕ) → mid ≡ record old { made = made } → new ≡ record mid { faults = next_count mid.faults } → mid.faults ≤ new.faults → HasCause {T = ℕ} old.faults new.faults (Err f)
counted_cause old mid new f made e k later =
    let same : mid.faults ≡ old.faults = ap (λ r. r.faults) e in
    let count : new.faults ≡ next_count old.faults = ap (λ r. r.faults) k ∙ ap next_count same in
    record { later = subst (λ n. n ≤ new.faults) same later; failed = subst (λ n. next_count old.faults ≤ n) (sym count) (omega arith); steady = tt }
