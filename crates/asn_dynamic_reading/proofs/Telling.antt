-- An error refuses for the same reason with its fields under another codec.
use Rattle.std.proofs.Common.{◌≡◌, refl, ap, sym, ◌∙◌, subst, ℕ, List, [], ◌∷◌, inl, inr, map}
use Rattle.asn_core.specs.declared.codec.Codec.{Codec}
use Rattle.asn_fault.specs.Failure.{Cause, Failure, Level, is_out_of_memory_at}
use Rattle.asn_model.specs.FailsWith.{Path}
use Rattle.asn_model.specs.Notation.{Notation, notation_of}
use Rattle.asn_coding.specs.Answer.{OfLevels, Refuses}
use Rattle.asn_coding.proofs.Refusing.{out_of_memory}
use Rattle.asn_coding.proofs.Steps.{within_refuses}
use Rattle.asn_dynamic_faults.specs.DynFailure.{IsTold, IsWithin, recoded, recoded_levels}

same-names : (c : Codec) (ls : List Level) → map (λ (l : Level). l.name) (recoded_levels c ls) ≡ map (λ (l : Level). l.name) ls
same-names c [] = refl
same-names c (l ∷ ls) = ap (λ ns. l.name ∷ ns) (same-names c ls)

own-levels : {n : Notation} (c : Codec) → notation_of c ≡ n → (ls : List Level) → OfLevels n (recoded_levels c ls)
own-levels c of [] = tt
own-levels c of (l ∷ ls) = (of, own-levels c of ls)

same-memory : (c : Codec) (ls : List Level) (w : Cause) → is_out_of_memory_at (recoded_levels c ls) w ≡ is_out_of_memory_at ls w
same-memory c [] w = refl
same-memory c (l ∷ ls) w = refl

recoded-refuses : {n : Notation} {P : Path → Cause → Type 0} (c : Codec) (f : Failure) → notation_of c ≡ n → Refuses n P f → Refuses n P (recoded c f)
recoded-refuses c f of (Refuses.no_memory m) = Refuses.no_memory (same-memory c f.path f.cause ∙ m.0, m.1)
recoded-refuses {n} {P} c f of (Refuses.stopped h l k) = Refuses.stopped (subst (λ p. P p f.cause) (sym (same-names c f.path)) h) (own-levels c of f.path) k
recoded-refuses c f of (Refuses.refuses_free o) = Refuses.refuses_free o

-- What is told refuses for the same reason.
pub told-refuses : {n : Notation} {P : Path → Cause → Type 0} (c : Codec) (f g : Failure) → notation_of c ≡ n → IsTold c f g → Refuses n P f → Refuses n P g
told-refuses {n} {P} c f g of (inl is) h = subst (Refuses n P) (sym is) (recoded-refuses c f of h)
told-refuses {n} {P} c f g of (inr is) h = out_of_memory {n = n} {P = P} c g is of

-- What is told within a field refuses for a reason within it.
pub within-told : {n : Notation} {P Q : Path → Cause → Type 0} (name : List ℕ) (c : Codec) → notation_of c ≡ n → ((p : Path) (w : Cause) → P p w → Q (name ∷ p) w)
    → (f g : Failure) → IsWithin c name f g → Refuses n P f → Refuses n Q g
within-told {n} {P} {Q} name c of step f g is h = within_refuses {n = n} {P = P} {Q = Q} name c of step (recoded c f) g is (recoded-refuses c f of h)
