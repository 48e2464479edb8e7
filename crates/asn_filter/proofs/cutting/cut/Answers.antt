use Rattle.std.proofs.Common.{sym, subst}
use Rattle.asn_filter.specs.Kept.{IsRefused}
use Rattle.asn_filter.proofs.Outcomes.{line_kept, line_read, line_unconverted, line_unread}
use Rattle.asn_model.specs.ShapeView.{shape_view}
use Rattle.asn_filter.proofs.cutting.cut.Goals as goal

pub returns-in-Err : goal.returns-in-Err
returns-in-Err c =
    let old = shape_view c.args.old.now in
    let new = shape_view c.args.new.now in
    subst (IsRefused c.args.from old new c.args.line.now) (sym c.in_ok-unless_memory.ensures.same)
    (line_unread c.args.from old new c.args.line.now c.in-Err.error c.in-Err.ensures.refused c.in_ok-unless_memory.ensures.other)

pub returns-in-Ok : goal.returns-in-Ok
returns-in-Ok c =
    let old = shape_view c.args.old.now in
    let new = shape_view c.args.new.now in
    let k = line_read c.args.from new c.args.line.now c.read.result c.read.ensures.value c.in_default.not-Err in
    line_kept c.args.from old new c.args.line.now c.requires.readable_old c.requires.grown k.0 k.1 _ c.in-Ok.ensures.converted

pub returns-in_ok-unless_memory-in-Err-convert : goal.returns-in_ok-unless_memory-in-Err-convert
returns-in_ok-unless_memory-in-Err-convert c =
    let old = shape_view c.args.old.now in
    let new = shape_view c.args.new.now in
    let k = line_read c.args.from new c.args.line.now c.read.result c.read.ensures.value c.in_default.not-Err in
    subst (IsRefused c.args.from old new c.args.line.now) (sym c.in_ok-unless_memory-in-Err-convert.ensures.same)
    (line_unconverted c.args.from old new c.args.line.now c.requires.readable_old c.requires.grown k.0 k.1 c.in-Err-convert.fault c.in-Err-convert.ensures.refused c.in_ok-unless_memory-in-Err-convert.ensures.other)
