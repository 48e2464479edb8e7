use Rattle.std.proofs.Common.{arith}
use Rattle.std.proofs.lemmas.Result.{err_from_is_err_and}
use Rattle.asn_modules_names.proofs.sources.Reading.{none_read, read_all, read_next, refused_first}
use Rattle.asn_modules_names.proofs.sources.sources.read_sources.Goals as goal

pub returns-in_err-source-clause-refused : goal.returns-in_err-source-clause-refused
returns-in_err-source-clause-refused c =
    let p = err_from_is_err_and c.from_residual.result c.from_residual.ensures.1 in
    rw (p.1, p.2) (refused_first c.args.texts.now c.loop-named.named-index _ c.loop-named-test.true c.loop-named.sources.items _ c.loop-named.invariant c.in_err-source.ensures.refused)

pub returns-in_err-source-clause-none : goal.returns-in_err-source-clause-none
returns-in_err-source-clause-none c =
    let p = err_from_is_err_and c.from_residual.result c.from_residual.ensures.1 in
    rw (p.1, p.2) (none_read c.args.texts.now c.loop-named.named-index _ c.loop-named-test.true _ c.in_err-source.ensures.none)

pub loop-named-preserved : goal.loop-named-preserved
loop-named-preserved c =
    let was = c.in_ok-source.ensures in
    read_next c.args.texts.now c.loop-named.named-index _ c.loop-named-test.true c.loop-named.sources.items c.push.new.self.items c.in_ok-source.source c.loop-named.invariant
    (record { file = was.kept.0; text = was.kept.1; modules = was.ok }) c.in_ok-push.ensures.items

pub returns-clause-ok : goal.returns-clause-ok
returns-clause-ok c = read_all c.args.texts.now c.loop-named.named-index c.loop-named.sources.items (omega (arith, c.loop-named-test.false)) c.loop-named.invariant
