use Rattle.std.proofs.Common.{◌≡◌, ℕ, drop}
use Rattle.asn_traits.specs.Digits.{digits, digits_after}
use Rattle.avn_rules.specs.Numbers.{Counts}
use Rattle.avn_rules.proofs.avn.numbers.magnitude_of.Given as goal

-- The digits that are left follow those of a number, which is the count.
abbrev pub invariant-loop-digit : goal.invariant-loop-digit
invariant-loop-digit l = (n : ℕ) × (digits l.digits ≡ digits_after n (drop l.digit-index l.digits)) × Counts n l.magnitude
