use Rattle.std.proofs.Common.{string_bytes}
use Rattle.asn_module_text.proofs.Printing.{ItemsLeft}
use Rattle.asn_module_text.proofs.write.write_item_run.Given as goal

abbrev pub invariant-loop-item : goal.invariant-loop-item
invariant-loop-item l = ItemsLeft (string_bytes l.fn.out) (string_bytes l.out) l.first l.is_first l.items l.item-index
