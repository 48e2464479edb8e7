use Rattle.std.proofs.Common.{ap, ◌∙◌}
use Rattle.std.specs.Option.{option_and_then, option_or}
use Rattle.asn_modules_names.specs.lookup.Lookup.{in_module, only}
use Rattle.asn_modules_names.proofs.lookup.index.Index.imported.Goals as goal

pub returns-in_default : goal.returns-in_default
returns-in_default c = λ sort ss is. ap (option_and_then (λ home. option_or (in_module sort ss home c.args.name.now) (only sort ss c.args.name.now))) (c.in_default.ensures sort ss is)

pub returns-in-Some-in_module : goal.returns-in-Some-in_module
returns-in-Some-in_module c = λ sort ss is.
    ap (λ o. option_or o (only sort ss c.args.name.now)) (c.in-Some-in_module.ensures sort ss is)
    ∙ ap (option_and_then (λ home. option_or (in_module sort ss home c.args.name.now) (only sort ss c.args.name.now))) (c.in-Some.ensures sort ss is)

pub returns-in-None : goal.returns-in-None
returns-in-None c = λ sort ss is.
    c.only.ensures sort ss is ∙ ap (λ o. option_or o (only sort ss c.args.name.now)) (c.in-None.ensures sort ss is)
    ∙ ap (option_and_then (λ home. option_or (in_module sort ss home c.args.name.now) (only sort ss c.args.name.now))) (c.in-Some.ensures sort ss is)
