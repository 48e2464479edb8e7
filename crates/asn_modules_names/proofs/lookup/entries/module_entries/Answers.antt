use Rattle.std.proofs.Common.{ap, sym, ◌∙◌, ◌++◌, map, arith}
use Rattle.asn_modules_names.specs.lookup.Views.{entry_view}
use Rattle.asn_modules_names.proofs.Founds.{listed_all}
use Rattle.asn_modules_names.proofs.lookup.Listing.{headed_added, headed_end, headed_from, headed_passed}
use Rattle.asn_modules_names.proofs.lookup.entries.module_entries.Goals as goal
use Rattle.asn_modules_names.proofs.lookup.entries.module_entries.Goals.{in-Some+in_ok-push, in_default}

pub loop-number-init : goal.loop-number-init
loop-number-init c = ap (λ l. map entry_view l ++ headed_from c.args.homes.now 0) (sym c.new-entries.ensures.items)

pub loop-number-preserved : goal.loop-number-preserved
loop-number-preserved c =
    let hs = c.args.homes.now in
    let h = c.index-homes-number.result in
    let all = headed_from hs 0 in
    elim c.match-module_name.branch [
      | in-Some+in_ok-push w ↦ headed_added all c.loop-number.entries.items c.match-module_name.entries.items w.text_of.result hs c.loop-number.number h w.in-Some.name
          c.loop-number-test.true c.index-homes-number.is c.loop-number.invariant (sym w.in-Some.ensures) w.text_of.ensures (ap (λ v. v.items) w.entries-is ∙ w.in_ok-push.ensures.items)
      | in_default w ↦ headed_passed all (map entry_view c.match-module_name.entries.items) hs c.loop-number.number h
          c.loop-number-test.true c.index-homes-number.is (c.loop-number.invariant ∙ ap (λ v. map entry_view v.items ++ headed_from hs c.loop-number.number) (sym w.entries-is)) (sym w.in_default.ensures)
    ]

pub returns : goal.returns
returns c =
    sym (listed_all (headed_from c.args.homes.now 0) (map entry_view c.loop-number.entries.items) (headed_from c.args.homes.now c.loop-number.number) c.loop-number.invariant
    (headed_end c.args.homes.now c.loop-number.number (omega (arith, c.loop-number-test.false))))
