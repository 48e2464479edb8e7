use Rattle.std.proofs.Common.{refl, arith}
use Rattle.asn_model.specs.ShapeView.{shape_view}
use Rattle.asn_growth.specs.Differences.{differences_of}
use Rattle.asn_growth.specs.Parts.{node_count}
use Rattle.asn_growth.proofs.Growing.{grown-none, no-difference}
use Rattle.asn_growth.proofs.Ordered.{answer-below, below-of}
use Rattle.asn_growth.proofs.Steps.{no-first}
use Rattle.asn_growth.proofs.check.grows_check.Goals as goal

pub returns-in-Ok-clause-grows : goal.returns-in-Ok-clause-grows
returns-in-Ok-clause-grows c = (λ e. no-difference (shape_view c.args.old.now) (shape_view c.args.new.now) 0 c.in-Ok.ensures.1, λ g. refl)

pub returns-in-Err-clause-grows : goal.returns-in-Err-clause-grows
returns-in-Err-clause-grows c = (λ e. cc e, λ g. absurd (no-first (differences_of (shape_view c.args.old.now) (shape_view c.args.new.now) 0) _ (grown-none 0 g) c.in-Err.ensures))

pub returns-in-Err-clause-within : goal.returns-in-Err-clause-within
returns-in-Err-clause-within c =
    let s = shape_view c.args.old.now in
    let r = shape_view c.args.new.now in
    omega (arith, below-of (node_count s) (differences_of s r 0) _ (answer-below s r) c.in-Err.ensures, c.in-Err.place-is)
