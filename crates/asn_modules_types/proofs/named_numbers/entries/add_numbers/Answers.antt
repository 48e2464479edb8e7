use Rattle.std.proofs.Common.{refl, sym, ◌++◌, map, drop, arith}
use Rattle.asn_modules_names.proofs.Founds.{listed_all}
use Rattle.asn_modules_types.specs.named_numbers.Entries.{entries_in}
use Rattle.asn_modules_types.specs.named_numbers.Views.{entry_view}
use Rattle.asn_modules_types.proofs.named_numbers.Listing.{number_added, numbers_end}
use Rattle.asn_modules_types.proofs.named_numbers.entries.add_numbers.Goals as goal

pub loop-entry-init : goal.loop-entry-init
loop-entry-init c = refl

pub loop-entry-preserved : goal.loop-entry-preserved
loop-entry-preserved c =
    number_added (map entry_view c.args.entries.now.items ++ entries_in c.args.number c.args.text.now c.args.named.now) c.loop-entry.entries.items c.push.new.self.items c.args.number c.args.text.now c.text_of.result c.args.named.now c.loop-entry.entry-index _
    c.loop-entry-test.true c.loop-entry.invariant c.text_of.ensures c.in_ok-push.ensures.items

pub returns : goal.returns
returns c =
    sym (listed_all (map entry_view c.args.entries.now.items ++ entries_in c.args.number c.args.text.now c.args.named.now) (map entry_view c.loop-entry.entries.items) (entries_in c.args.number c.args.text.now (drop c.loop-entry.entry-index c.args.named.now)) c.loop-entry.invariant
    (numbers_end c.args.number c.args.text.now c.args.named.now c.loop-entry.entry-index (omega (arith, c.loop-entry-test.false))))
