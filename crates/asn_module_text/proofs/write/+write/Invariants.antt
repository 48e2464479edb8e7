use Rattle.std.proofs.Common.{string_bytes}
use Rattle.asn_module_text.proofs.Printing.{ElementsLeft}
use Rattle.asn_module_text.proofs.write.+write.Given as goal

abbrev pub invariant-write_run-loop-component : goal.invariant-write_run-loop-component
invariant-write_run-loop-component l = ElementsLeft (string_bytes l.fn.out) (string_bytes l.out) l.first l.is_first l.components l.component-index
