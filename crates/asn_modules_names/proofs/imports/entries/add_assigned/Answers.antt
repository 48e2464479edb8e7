use Rattle.std.proofs.Common.{refl, ap, ◌∙◌, ◌+◌, ◌++◌, map, drop, arith}
use Rattle.std.proofs.lemmas.List.{drop_all}
use Rattle.asn_modules_names.proofs.imports.Listing.{each, each_added, each_listed, name_in}
use Rattle.asn_modules_names.proofs.imports.entries.add_assigned.Goals as goal
use Rattle.asn_modules_names.specs.lookup.Homes.{bytes_in, home_view}
use Rattle.asn_modules_names.specs.lookup.Views.{entry_view}
use Rattle.asn_modules_names.proofs.Founds.{drop_at}
use Rattle.asn_modules_grammar.specs.notation.View.{assignment_view}

pub loop-assignment-init : goal.loop-assignment-init
loop-assignment-init c = refl

pub loop-assignment-preserved : goal.loop-assignment-preserved
loop-assignment-preserved c =
    let h = home_view c.args.home in
    let xs = c.args.assignments.now in
    let i = c.loop-assignment.assignment-index in
    each_added (name_in h) c.args.number (map entry_view c.args.entries.now.items ++ each (name_in h) c.args.number (map assignment_view xs)) c.loop-assignment.entries.items c.push.new.self.items c.text_of.result (assignment_view c.assignment-item.result) (map assignment_view (drop i xs)) (map assignment_view (drop (i + 1) xs))
    (ap (map assignment_view) (drop_at xs i c.assignment-item.result c.loop-assignment-test.true c.assignment-item.is)) c.loop-assignment.invariant (c.text_of.ensures ∙ ap (bytes_in h) c.name_of.ensures) c.in_ok-push.ensures.items

pub returns : goal.returns
returns c =
    let h = home_view c.args.home in
    let xs = c.args.assignments.now in
    let i = c.loop-assignment.assignment-index in
    each_listed (name_in h) c.args.number (map entry_view c.args.entries.now.items ++ each (name_in h) c.args.number (map assignment_view xs)) c.loop-assignment.entries.items (map assignment_view (drop i xs))
    (ap (map assignment_view) (drop_all i xs (omega (arith, c.loop-assignment-test.false)))) c.loop-assignment.invariant
