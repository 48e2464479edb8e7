-- Answers that are told as the codec's.
use Rattle.std.proofs.Common.{◌≡◌, Result, Ok, Err, IfOk, subst}
use Rattle.std.specs.Prelude.{OnOk}

-- A fact of an answer is one of the same answer of the codec.
pub told : {T E F P Q : Type 0} (answer : Result T E) (r : Result T F) → IfOk r (λ x. answer ≡ Ok x) → (P → Q) → OnOk answer P → OnOk r Q
told {P = P} answer (Ok x) same f p = f (subst (λ a. OnOk a P) same p)
told answer (Err e) same f p = tt

-- Two facts of an answer are one of the same answer of the codec.
pub both_told : {T E F P Q S : Type 0} (answer : Result T E) (r : Result T F) → IfOk r (λ x. answer ≡ Ok x) → (P → Q → S) → OnOk answer P → OnOk answer Q → OnOk r S
both_told {P = P} {Q = Q} answer (Ok x) same f p q = f (subst (λ a. OnOk a P) same p) (subst (λ a. OnOk a Q) same q)
both_told answer (Err e) same f p q = tt

-- What holds is a fact of each answer.
pub of_any : (P : Type 0) {T E : Type 0} (r : Result T E) → P → OnOk r P
of_any P (Ok x) p = p
of_any P (Err e) p = tt
