-- What two sizes leave of so many bytes.
use Rattle.std.proofs.Common.{◌≡◌, ◌+◌, ℕ, Option, Some, None, sym, ap, ◌∙◌}
use Rattle.std.specs.Option.{option_and_then}
use Rattle.asn_modules_rules.proofs.sizes.Past.{past_both}
use Rattle.asn_modules_rules.specs.sizes.Sizes.{past}

pub past_on : (a b left rest : ℕ) (r : Option ℕ) → Some rest ≡ past left a → r ≡ past rest b → r ≡ past left (a + b)
past_on a b left rest r some is = is ∙ ap (option_and_then (λ l. past l b)) some ∙ sym (past_both left a b)

pub past_none : (a b left : ℕ) → None ≡ past left a → None ≡ past left (a + b)
past_none a b left none = ap (option_and_then (λ l. past l b)) none ∙ sym (past_both left a b)
