use Rattle.std.proofs.Common.{◌≤◌, length}
use Rattle.asn_notation.specs.Grammar.{ItemsParse}
use Rattle.asn_notation.specs.Notation.{is_item_marker}
use Rattle.asn_module_reader.specs.Productions.{items_read}
use Rattle.asn_module_reader.proofs.Runs.{Going}
use Rattle.asn_module_reader.proofs.read.read_items.Given as goal

abbrev pub invariant-items : goal.invariant-items
invariant-items l = Going is_item_marker ItemsParse l.initial.cursor.rest l.cursor.rest (items_read l.items) × (length l.cursor.rest ≤ length l.initial.cursor.rest)

abbrev pub decreases-items : goal.decreases-items
decreases-items l = length l.cursor.rest
