use Rattle.std.proofs.Common.{◌++◌, ap, map, refl, subst, sym, ◌∙◌, arith}
use Rattle.asn_modules_rules.specs.included.TooLarge.{too_large_from}
use Rattle.asn_modules_rules.specs.included.Types.{type_view}
use Rattle.asn_modules_rules.proofs.included.Telling.{counted, name_passed, name_told, names_end, told_from}
use Rattle.asn_modules_names.specs.Faults.{Tells}
use Rattle.asn_modules_names.specs.Mentions.{mention_view}
use Rattle.asn_modules_rules.proofs.included.check.check_type.Goals as goal

pub loop-name-init : goal.loop-name-init
loop-name-init c = λ ss is others. refl

pub loop-name-preserved : goal.loop-name-preserved
loop-name-preserved c = λ ss is others.
    let ts = map type_view c.args.types.now in
    let t = type_view c.args.within.now in
    let names = c.as_slice-names.result.now in
    name_passed ss ts t others (told_from ss ts t others names c.args.left) names c.loop-name.name-index c.loop-name.rest c.in-Some.fewer _ c.loop-name-test.true (c.loop-name.invariant ss is others) (c.in-Some.ensures ss is)

pub returns-in_default : goal.returns-in_default
returns-in_default c = λ ss is others.
    let ts = map type_view c.args.types.now in
    let t = type_view c.args.within.now in
    let names = c.as_slice-names.result.now in
    subst (λ l. Tells (too_large_from ss ts c.args.left (map (counted ss ts t others) l ++ others)) c.broken.result) c.as_slice-names.ensures.value
    (name_told ss ts t others (told_from ss ts t others names c.args.left) names c.loop-name.name-index c.loop-name.rest _ (mention_view c.mention_of-mention.result) c.broken.result c.loop-name-test.true (c.loop-name.invariant ss is others) (c.in_default.ensures ss is) c.mention_of-mention.ensures c.broken.ensures)

pub returns : goal.returns
returns c = λ ss is others.
    let ts = map type_view c.args.types.now in
    let t = type_view c.args.within.now in
    let names = c.as_slice-names.result.now in
    ap (λ l. too_large_from ss ts c.args.left (map (counted ss ts t others) l ++ others)) (sym c.as_slice-names.ensures.value)
    ∙ names_end ss ts t others (told_from ss ts t others names c.args.left) names c.loop-name.name-index c.loop-name.rest (omega (arith, c.loop-name-test.false)) (c.loop-name.invariant ss is others)
