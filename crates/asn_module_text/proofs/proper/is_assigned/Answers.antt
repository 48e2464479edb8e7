use Rattle.std.proofs.Common.{refl, sym, ap, ◌∙◌, map, arith}
use Rattle.std.proofs.lemmas.List.{drop_all}
use Rattle.std.specs.Str.{bytes_eq}
use Rattle.asn_model.specs.Shape.{is_item}
use Rattle.asn_notation.specs.Names.{assigned_names}
use Rattle.asn_notation.specs.View.{assignment_view}
use Rattle.asn_module_text.proofs.Properness.{item_here, item_behind}
use Rattle.asn_module_text.proofs.proper.is_assigned.Goals as goal

pub loop-assignment-init : goal.loop-assignment-init
loop-assignment-init c = refl

pub returns-then-eq : goal.returns-then-eq
returns-then-eq c =
    sym (c.loop-assignment.invariant ∙ item_here c.args.assignments.now c.loop-assignment.assignment-index c.assignment-item.result c.args.name.now c.loop-assignment-test.true c.assignment-item.is
    (ap (bytes_eq c.args.name.now) (sym c.as_str.ensures.value) ∙ sym c.eq.ensures ∙ c.if-eq.true))

pub loop-assignment-preserved : goal.loop-assignment-preserved
loop-assignment-preserved c =
    c.loop-assignment.invariant ∙ item_behind c.args.assignments.now c.loop-assignment.assignment-index c.assignment-item.result c.args.name.now c.loop-assignment-test.true c.assignment-item.is
    (ap (bytes_eq c.args.name.now) (sym c.as_str.ensures.value) ∙ sym c.eq.ensures ∙ c.if-eq.false)

pub returns : goal.returns
returns c = sym (c.loop-assignment.invariant ∙ ap (λ xs. is_item (assigned_names (map assignment_view xs)) c.args.name.now) (drop_all c.loop-assignment.assignment-index c.args.assignments.now (omega (arith, c.loop-assignment-test.false))))
