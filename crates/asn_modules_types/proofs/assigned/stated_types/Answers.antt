use Rattle.std.proofs.Common.{ap, sym, ◌++◌, map, arith}
use Rattle.asn_modules_names.specs.lookup.Homes.{home_view}
use Rattle.asn_modules_types.specs.named_numbers.Named.{StatedType}
use Rattle.asn_modules_types.specs.named_numbers.Views.{type_view}
use Rattle.asn_modules_names.proofs.Founds.{listed_all}
use Rattle.asn_modules_grammar.specs.notation.Notation.{Notation}
use Rattle.asn_modules_types.proofs.Numbering.{stated_added, stated_end, stated_from}
use Rattle.asn_modules_types.proofs.assigned.stated_types.Goals as goal

pub loop-assigned-init : goal.loop-assigned-init
loop-assigned-init c = ap (λ l. map type_view l ++ stated_from c.args.types.now 0) (sym c.new-stated.ensures.items)

pub loop-assigned-preserved : goal.loop-assigned-preserved
loop-assigned-preserved c =
    let t = c.assigned-item.result in
    let in_text : Notation → StatedType = λ n. record { text = (home_view t.home).source.text; notation = n } in
    stated_added (stated_from c.args.types.now 0) c.loop-assigned.stated.items c.push.new.self.items _ c.args.types.now c.loop-assigned.assigned-index t
    c.loop-assigned-test.true c.assigned-item.is c.loop-assigned.invariant (ap in_text c.notation_of.ensures) c.in_ok-push.ensures.items

pub returns : goal.returns
returns c =
    sym (listed_all (stated_from c.args.types.now 0) (map type_view c.loop-assigned.stated.items) (stated_from c.args.types.now c.loop-assigned.assigned-index) c.loop-assigned.invariant
    (stated_end c.args.types.now c.loop-assigned.assigned-index (omega (arith, c.loop-assigned-test.false))))
