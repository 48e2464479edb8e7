-- Levels of an error within one more field.
use Rattle.std.proofs.Common.{◌≡◌, refl, ap, sym, ◌∙◌, ℕ, List, [], ◌∷◌, inl, inr, Bool, true, false, if◌then◌else◌, String, Global, string_bytes}
use Rattle.asn_core.specs.declared.codec.Codec.{Codec}
use Rattle.asn_fault.specs.Failure.{Cause, Failure, Level, at_root, is_out_of_memory, is_out_of_memory_at, within, wrapped}
use Rattle.asn_dynamic_faults.specs.DynFailure.{IsTold, IsWithin, levels_of, recoded, recoded_levels}

-- Whether memory ran out doesn't depend on the codec of the fields.
pub same_memory : (c : Codec) (ls : List Level) (w : Cause) → is_out_of_memory_at (recoded_levels c ls) w ≡ is_out_of_memory_at ls w
same_memory c [] w = refl
same_memory c (l ∷ ls) w = refl

recode_levels : (c d : Codec) (ns : List (String Global)) → levels_of c ns ≡ recoded_levels c (levels_of d ns)
recode_levels c d [] = refl
recode_levels c d (n ∷ ns) = ap (λ ls. record { name = string_bytes n; codec = c } ∷ ls) (recode_levels c d ns)

recode_twice : (c d : Codec) (ls : List Level) → recoded_levels c (recoded_levels d ls) ≡ recoded_levels c ls
recode_twice c d [] = refl
recode_twice c d (l ∷ ls) = ap (λ ls. record { name = l.name; codec = c } ∷ ls) (recode_twice c d ls)

not_memory : (name : List ℕ) (c : Codec) (f : Failure) → is_out_of_memory f ≡ false → wrapped name c f ≡ within name c f
not_memory name c f e = ap (λ b. if b then at_root Cause.out_of_memory c else within name c f) e

of_memory : (name : List ℕ) (c : Codec) (f : Failure) → is_out_of_memory f ≡ true → wrapped name c f ≡ at_root Cause.out_of_memory c
of_memory name c f e = ap (λ b. if b then at_root Cause.out_of_memory c else within name c f) e

abbrev failure_at : List Level → Cause → Codec → Failure
failure_at ls w k = record { path = ls; cause = w; codec = k }

-- One name more in front.
pub within_more : (c d k : Codec) (name : String Global) (ns : List (String Global)) (w : Cause) → is_out_of_memory_at (levels_of d ns) w ≡ false
    → failure_at (levels_of c (name ∷ ns)) w k ≡ wrapped (string_bytes name) c (recoded c (failure_at (levels_of d ns) w k))
within_more c d k name ns w e =
    ap (λ ls. failure_at (record { name = string_bytes name; codec = c } ∷ ls) w k) (recode_levels c d ns)
    ∙ sym (not_memory (string_bytes name) c (recoded c (failure_at (levels_of d ns) w k)) (same_memory c (levels_of d ns) w ∙ e))

-- A nested error that is told is told within its field.
pub told_within : (c d : Codec) (name : List ℕ) (f h g : Failure) → IsTold c f h → IsWithin c name h g → IsTold c (within name d f) g
told_within c d name f h g told (inr out) = inr out
told_within c d name f h g (inr out) (inl is) = inr (is ∙ ap (λ x. wrapped name c (recoded c x)) out ∙ of_memory name c (at_root Cause.out_of_memory c) refl)
told_within c d name f h g (inl told) (inl is) = by (is_out_of_memory f) refl
  where
    twice : recoded c h ≡ recoded c f
    twice = ap (recoded c) told ∙ ap (λ ls. failure_at ls f.cause f.codec) (recode_twice c c f.path)

    by : (b : Bool) → is_out_of_memory f ≡ b → IsTold c (within name d f) g
    by true e = inr (is ∙ ap (wrapped name c) twice ∙ of_memory name c (recoded c f) (same_memory c f.path f.cause ∙ e))
    by false e = inl (is ∙ ap (wrapped name c) twice ∙ not_memory name c (recoded c f) (same_memory c f.path f.cause ∙ e))
