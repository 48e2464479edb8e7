use Rattle.std.proofs.Common.{◌≡◌, map, take}
use Rattle.asn_modules_names.proofs.lookup.entries.by_name.Given as goal

abbrev pub invariant-loop-entry : goal.invariant-loop-entry
invariant-loop-entry l = l.entries.items ≡ map (λ e. (e.0.1, e.1)) (take l.entry-index l.keys)
