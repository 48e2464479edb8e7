-- Values of a CHOICE, as the elements of a SET OF, are equal exactly where their alternatives and their payloads are.
use Rattle.std.proofs.Common.{◌≡◌, ◌↔◌, ◌∙◌, ℕ, List, Bool, true, false, ap, sym, true≢false}
use Rattle.std.specs.Str.{bytes_eq}
use Rattle.asn_traits.specs.Value.{Value}

the_payload : Value → Value
the_payload (Value.choice name v) = v
the_payload v = v

is_named : List ℕ → Value → Bool
is_named name (Value.choice other v) = bytes_eq name other
is_named name v = false

-- Two of one alternative.
pub same_alternative : {E : Type 0} (name : List ℕ) (v w : Value) → (E ↔ (v ≡ w)) → E ↔ (Value.choice name v ≡ Value.choice name w)
unfolding the_payload
same_alternative name v w h = (λ e. ap (Value.choice name) (h.0 e), λ e. h.1 (ap the_payload e))

-- Two of different alternatives.
pub other_alternative : (name other : List ℕ) (v w : Value) → bytes_eq name name ≡ true → bytes_eq name other ≡ false → (false ≡ true) ↔ (Value.choice name v ≡ Value.choice other w)
unfolding is_named
other_alternative name other v w itself differs = (λ e. absurd (true≢false (sym e)), λ e. absurd (true≢false (sym itself ∙ ap (is_named name) e ∙ differs)))
