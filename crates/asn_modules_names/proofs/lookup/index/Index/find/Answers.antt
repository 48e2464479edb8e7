use Rattle.std.proofs.Common.{ap, sym, ◌∙◌}
use Rattle.std.specs.Option.{option_map, option_or}
use Rattle.asn_modules_names.specs.lookup.Lookup.{found, imported}
use Rattle.asn_modules_names.proofs.lookup.index.Index.find.Goals as goal

pub returns-in-Some : goal.returns-in-Some
returns-in-Some c = λ sort ss is. c.in_module.ensures sort ss is ∙ ap (λ o. found sort ss c.args.number (option_map (λ m. m.now) o) c.args.name.now) (sym c.in-Some.is)

pub returns-in-Some-assigned : goal.returns-in-Some-assigned
returns-in-Some-assigned c = λ sort ss is.
    ap (λ o. option_or o (imported sort ss c.args.number c.args.name.now)) (c.in-Some-assigned.ensures sort ss is)
    ∙ ap (λ o. found sort ss c.args.number (option_map (λ m. m.now) o) c.args.name.now) (sym c.in_default.is)

pub returns-in-None : goal.returns-in-None
returns-in-None c = λ sort ss is.
    c.imported.ensures sort ss is ∙ ap (λ o. option_or o (imported sort ss c.args.number c.args.name.now)) (c.in-None.ensures sort ss is)
    ∙ ap (λ o. found sort ss c.args.number (option_map (λ m. m.now) o) c.args.name.now) (sym c.in_default.is)
