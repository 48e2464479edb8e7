use Rattle.std.proofs.Common.{refl, string_bytes, arith}
use Rattle.asn_module_text.proofs.Printing.{items_step, items_end}
use Rattle.asn_module_text.proofs.write.write_item_run.Goals as goal

pub loop-item-init : goal.loop-item-init
loop-item-init c = λ rest. refl

pub loop-item-preserved : goal.loop-item-preserved
loop-item-preserved c =
    items_step (string_bytes c.args.out.now) (string_bytes c.loop-item.out) (string_bytes c.write_comma.new.out) (string_bytes c.write_word.new.out) c.args.first c.loop-item.is_first c.args.items.now c.loop-item.item-index c.item-item.result c.as_str.result.now
    c.loop-item-test.true c.item-item.is c.as_str.ensures.value c.loop-item.invariant c.in_ok-write_comma.ensures c.in_ok-write_word.ensures

pub returns : goal.returns
returns c = items_end (string_bytes c.args.out.now) (string_bytes c.loop-item.out) c.args.first c.loop-item.is_first c.args.items.now c.loop-item.item-index (omega (arith, c.loop-item-test.false)) c.loop-item.invariant
