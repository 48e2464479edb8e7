use Rattle.std.proofs.Common.{◌≡◌, drop}
use Rattle.asn_traits.specs.Digits.{digits, digits_after}
use Rattle.avn_rules.proofs.avn.numbers.short_magnitude.Given as goal

-- The digits that are left follow those of the number so far.
abbrev pub invariant-loop-digit : goal.invariant-loop-digit
invariant-loop-digit l = digits l.digits ≡ digits_after l.magnitude (drop l.digit-index l.digits)
