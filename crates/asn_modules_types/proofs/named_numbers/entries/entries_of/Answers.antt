use Rattle.std.proofs.Common.{ap, sym, ◌∙◌, ◌++◌, map, arith}
use Rattle.asn_modules_names.proofs.Founds.{listed_all}
use Rattle.asn_modules_types.specs.named_numbers.Entries.{entries_in}
use Rattle.asn_modules_types.specs.named_numbers.Views.{entry_view}
use Rattle.asn_modules_types.proofs.named_numbers.Listing.{entries_from, types_added, types_end}
use Rattle.asn_modules_types.proofs.named_numbers.entries.entries_of.Goals as goal

pub loop-number-init : goal.loop-number-init
loop-number-init c = ap (λ l. map entry_view l ++ entries_from c.args.types.now 0) (sym c.new-entries.ensures.items)

pub loop-number-preserved : goal.loop-number-preserved
loop-number-preserved c =
    let t = c.index-types-number.result in
    types_added (entries_from c.args.types.now 0) (map entry_view c.loop-number.entries.items) (map entry_view c.add_numbers.new.entries.items) c.args.types.now c.loop-number.number t
    c.loop-number-test.true c.index-types-number.is c.loop-number.invariant
    (c.in_ok-add_numbers.ensures ∙ ap (λ ns. map entry_view c.loop-number.entries.items ++ entries_in c.loop-number.number t.text.now ns) c.numbers_in-named.ensures)

pub returns : goal.returns
returns c =
    sym (listed_all (entries_from c.args.types.now 0) (map entry_view c.loop-number.entries.items) (entries_from c.args.types.now c.loop-number.number) c.loop-number.invariant
    (types_end c.args.types.now c.loop-number.number (omega (arith, c.loop-number-test.false))))
