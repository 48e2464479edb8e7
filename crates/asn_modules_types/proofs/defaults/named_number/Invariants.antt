use Rattle.std.proofs.Common.{◌≡◌, ℕ, drop}
use Rattle.asn_modules_types.specs.Known.{scope_view}
use Rattle.asn_modules_types.specs.Numbers.{named_number}
use Rattle.asn_modules_types.proofs.defaults.named_number.Given as goal

abbrev pub invariant-loop-entry : goal.invariant-loop-entry
invariant-loop-entry l = (limit : ℕ) → named_number (scope_view limit l.scope) l.named l.word ≡ named_number (scope_view limit l.scope) (drop l.entry-index l.named) l.word
