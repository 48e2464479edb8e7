use Rattle.std.proofs.Common.{refl, ap, sym, ◌∙◌, ◌++◌, map, drop, arith}
use Rattle.asn_modules_names.specs.lookup.Homes.{home_view}
use Rattle.asn_modules_names.specs.lookup.Views.{key_view}
use Rattle.asn_modules_names.proofs.Founds.{listed_all}
use Rattle.asn_modules_names.proofs.lookup.Listing.{keyed, keyed_added, keyed_end, keyed_passed}
use Rattle.asn_modules_names.proofs.lookup.entries.add_keys.Goals as goal
use Rattle.asn_modules_names.proofs.lookup.entries.add_keys.Goals.{in-Some+in_ok-push, in_default}

pub loop-assignment-init : goal.loop-assignment-init
loop-assignment-init c = refl

pub loop-assignment-preserved : goal.loop-assignment-preserved
loop-assignment-preserved c =
    let h = home_view c.args.home in
    let xs = c.args.assignments.now in
    let all = map key_view c.args.keys.now.items ++ keyed c.args.sort c.args.number h xs in
    elim c.match-name_as.branch [
      | in-Some+in_ok-push w ↦ keyed_added all c.loop-assignment.keys.items c.match-name_as.keys.items w.text_of.result c.args.sort c.args.number h w.in-Some.name xs c.loop-assignment.assignment-index c.assignment-item.result
          c.loop-assignment-test.true c.assignment-item.is c.loop-assignment.invariant (sym w.in-Some.ensures) w.text_of.ensures (ap (λ v. v.items) w.keys-is ∙ w.in_ok-push.ensures.items)
      | in_default w ↦ keyed_passed all (map key_view c.match-name_as.keys.items) c.args.sort c.args.number h xs c.loop-assignment.assignment-index c.assignment-item.result
          c.loop-assignment-test.true c.assignment-item.is (c.loop-assignment.invariant ∙ ap (λ v. map key_view v.items ++ keyed c.args.sort c.args.number h (drop c.loop-assignment.assignment-index xs)) (sym w.keys-is)) (sym w.in_default.ensures)
    ]

pub returns : goal.returns
returns c =
    let h = home_view c.args.home in
    sym (listed_all (map key_view c.args.keys.now.items ++ keyed c.args.sort c.args.number h c.args.assignments.now) (map key_view c.loop-assignment.keys.items) (keyed c.args.sort c.args.number h (drop c.loop-assignment.assignment-index c.args.assignments.now)) c.loop-assignment.invariant
    (keyed_end c.args.sort c.args.number h c.args.assignments.now c.loop-assignment.assignment-index (omega (arith, c.loop-assignment-test.false))))
