use Rattle.std.proofs.Common.{ap, ◌∙◌}
use Rattle.std.specs.Option.{option_and_then}
use Rattle.asn_modules_names.specs.lookup.Lookup.{assigned, last_of, same_key}
use Rattle.asn_modules_names.proofs.lookup.index.Index.in_module.Goals as goal

pub returns-in-Some : goal.returns-in-Some
returns-in-Some c = λ sort ss is. c.assigned.ensures sort ss is ∙ ap (option_and_then (λ k. last_of same_key (assigned sort ss) (k, c.args.name.now))) (c.in-Some.ensures sort ss is)

pub returns-in-None : goal.returns-in-None
returns-in-None c = λ sort ss is. ap (option_and_then (λ k. last_of same_key (assigned sort ss) (k, c.args.name.now))) (c.in-None.ensures sort ss is)
