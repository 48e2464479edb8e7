use Rattle.std.proofs.Common.{refl, arith}
use Rattle.asn_modules_names.specs.lookup.Homes.{home_view}
use Rattle.asn_modules_names.proofs.references.Unknowns.{all_known, known_passed, unknown_told}
use Rattle.asn_modules_names.proofs.references.check.check_names.Goals as goal

pub loop-name-init : goal.loop-name-init
loop-name-init c = λ sort ss is. refl

pub returns-then-not-is_known : goal.returns-then-not-is_known
returns-then-not-is_known c = λ sort ss is.
    unknown_told sort ss c.args.number (home_view c.args.home) c.args.names.now c.loop-name.name-index _ c.loop-name-test.true c.is_known.result c.text_of.result.now c.broken.result _
    (c.is_known.ensures sort ss is) c.text_of.ensures c.if-not-is_known.true (c.loop-name.invariant sort ss is) c.mention_of.ensures c.broken.ensures

pub loop-name-preserved : goal.loop-name-preserved
loop-name-preserved c = λ sort ss is.
    known_passed sort ss c.args.number (home_view c.args.home) c.args.names.now c.loop-name.name-index _ c.loop-name-test.true c.is_known.result c.text_of.result.now
    (c.is_known.ensures sort ss is) c.text_of.ensures c.if-not-is_known.false (c.loop-name.invariant sort ss is)

pub returns : goal.returns
returns c = λ sort ss is. all_known sort ss c.args.number (home_view c.args.home) c.args.names.now c.loop-name.name-index (omega (arith, c.loop-name-test.false)) (c.loop-name.invariant sort ss is)
