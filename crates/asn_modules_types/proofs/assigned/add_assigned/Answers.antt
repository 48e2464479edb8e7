use Rattle.std.proofs.Common.{refl, ap, sym, ◌∙◌, ◌++◌, map, drop, arith}
use Rattle.asn_modules_names.specs.lookup.Homes.{home_view}
use Rattle.asn_modules_names.proofs.Founds.{listed_all}
use Rattle.asn_modules_types.specs.Known.{assigned_view}
use Rattle.asn_modules_types.proofs.Listing.{listed, listed_added, listed_end, listed_passed}
use Rattle.asn_modules_types.proofs.assigned.add_assigned.Goals as goal
use Rattle.asn_modules_types.proofs.assigned.add_assigned.Goals.{then-is_of_sort+in_ok-push, else-is_of_sort}

pub loop-assignment-preserved : goal.loop-assignment-preserved
loop-assignment-preserved c =
    let h = home_view c.args.home in
    let xs = c.args.assignments.now in
    let all = map assigned_view c.args.found.now.items ++ listed c.args.sort c.args.number h xs in
    elim c.if-is_of_sort.branch [
      | then-is_of_sort+in_ok-push w ↦ listed_added all c.loop-assignment.found.items c.if-is_of_sort.found.items _ c.args.sort c.args.number h xs c.loop-assignment.assignment-index c.assignment-item.result
          c.loop-assignment-test.true c.assignment-item.is c.loop-assignment.invariant (sym c.is_of_sort.ensures ∙ w.if-is_of_sort.true) refl (ap (λ v. v.items) w.found-is ∙ w.in_ok-push.ensures.items)
      | else-is_of_sort w ↦ listed_passed all (map assigned_view c.if-is_of_sort.found.items) c.args.sort c.args.number h xs c.loop-assignment.assignment-index c.assignment-item.result
          c.loop-assignment-test.true c.assignment-item.is (c.loop-assignment.invariant ∙ ap (λ v. map assigned_view v.items ++ listed c.args.sort c.args.number h (drop c.loop-assignment.assignment-index xs)) (sym w.found-is)) (sym c.is_of_sort.ensures ∙ w.if-is_of_sort.false)
    ]

pub returns : goal.returns
returns c =
    let h = home_view c.args.home in
    sym (listed_all (map assigned_view c.args.found.now.items ++ listed c.args.sort c.args.number h c.args.assignments.now) (map assigned_view c.loop-assignment.found.items) (listed c.args.sort c.args.number h (drop c.loop-assignment.assignment-index c.args.assignments.now)) c.loop-assignment.invariant
    (listed_end c.args.sort c.args.number h c.args.assignments.now c.loop-assignment.assignment-index (omega (arith, c.loop-assignment-test.false))))
