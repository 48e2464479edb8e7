use Rattle.std.proofs.Common.{◌≡◌, ◌≤◌, length, nat_le, true}
use Rattle.std.specs.List.{count_by}
use Rattle.asn_modules_grammar.specs.notation.Lists.{Listed}
use Rattle.asn_modules_grammar.specs.notation.Numbers.{item_at}
use Rattle.asn_modules_reader.specs.parts.EntryLists.{entries_of, is_marker}
use Rattle.asn_modules_reader.proofs.parts.Runs.{Going}
use Rattle.asn_modules_reader.proofs.parts.item.read_items.Given as goal

abbrev pub invariant-items : goal.invariant-items
invariant-items l = Going (Listed item_at) l.tokens l.rest (entries_of l.items) × (nat_le (count_by is_marker (entries_of l.items)) 1 ≡ true) × (length l.rest ≤ length l.tokens)

abbrev pub decreases-items : goal.decreases-items
decreases-items l = length l.rest
