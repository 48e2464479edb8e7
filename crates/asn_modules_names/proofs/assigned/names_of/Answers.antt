use Rattle.std.proofs.Common.{refl, ap, sym, ◌∙◌, ◌++◌, map, drop, arith}
use Rattle.asn_modules_names.specs.Mentions.{mention_in, mention_view, source_view}
use Rattle.asn_modules_names.proofs.Founds.{listed_all}
use Rattle.asn_modules_names.proofs.Naming.{assigned, assigned_added, assigned_end}
use Rattle.asn_modules_names.proofs.assigned.names_of.Goals as goal

pub loop-assignment-init : goal.loop-assignment-init
loop-assignment-init c = ap (λ l. map mention_view l ++ assigned (source_view c.args.source.now) c.args.assignments.now) (sym c.new-names.ensures.items)

pub loop-assignment-preserved : goal.loop-assignment-preserved
loop-assignment-preserved c =
    let s = source_view c.args.source.now in
    assigned_added (assigned s c.args.assignments.now) c.loop-assignment.names.items c.push.new.self.items c.mention_of.result s c.args.assignments.now c.loop-assignment.assignment-index c.assignment-item.result
    c.loop-assignment-test.true c.assignment-item.is c.loop-assignment.invariant (c.mention_of.ensures ∙ ap (mention_in s) c.name_of.ensures) c.in_ok-push.ensures.items

pub returns : goal.returns
returns c =
    let s = source_view c.args.source.now in
    sym (listed_all (assigned s c.args.assignments.now) (map mention_view c.loop-assignment.names.items) (assigned s (drop c.loop-assignment.assignment-index c.args.assignments.now)) c.loop-assignment.invariant
    (assigned_end s c.args.assignments.now c.loop-assignment.assignment-index (omega (arith, c.loop-assignment-test.false))))
