use Rattle.std.proofs.Common.{◌≡◌, drop}
use Rattle.asn_notation.specs.Proper.{are_items_proper}
use Rattle.asn_module_text.proofs.Printing.{seen}
use Rattle.asn_module_text.proofs.proper.are_words.Given as goal

abbrev pub invariant-loop-item : goal.invariant-loop-item
invariant-loop-item l = are_items_proper (seen l.items) ≡ are_items_proper (seen (drop l.item-index l.items))
