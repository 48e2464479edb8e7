-- The values that DEFAULT states, by the kind of their shape.
use Rattle.std.proofs.Common.{◌≡◌, ℕ, ℤ, List, true, false, if◌then◌else◌, Option, sym, ap}
use Rattle.asn_model.specs.Shape.{Shape}
use Rattle.asn_modules_names.specs.Assigned.{first_found}
use Rattle.asn_modules_grammar.specs.declared.notation.value.Value.{Value}
use Rattle.asn_modules_types.specs.Defaults.{default_of, is_numeric, number_default, number_plain, plain_in, suited}
use Rattle.asn_modules_types.specs.Scopes.{Scope}

module _ (s : Scope) (numbers : List ℕ → Option (Option ℤ)) (shape : Shape) (v : Value) where
  pub default_number : is_numeric shape ≡ true → suited shape (number_plain (number_default s numbers v)) ≡ default_of s numbers shape v
  default_number e = sym (ap (λ b. if b then suited shape (number_plain (number_default s numbers v)) else first_found (λ x. suited shape (plain_in shape x.0 x.1)) (s.values false v)) e)

  pub default_other : is_numeric shape ≡ false → first_found (λ x. suited shape (plain_in shape x.0 x.1)) (s.values false v) ≡ default_of s numbers shape v
  default_other e = sym (ap (λ b. if b then suited shape (number_plain (number_default s numbers v)) else first_found (λ x. suited shape (plain_in shape x.0 x.1)) (s.values false v)) e)
