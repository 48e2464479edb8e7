use Rattle.std.proofs.Common.{◌+◌, ◌*◌, ◌≤◌, length}
use Rattle.asn_notation.specs.Grammar.{ElementsParse}
use Rattle.asn_notation.specs.Notation.{is_marker}
use Rattle.asn_module_reader.specs.Productions.{elements_read}
use Rattle.asn_module_reader.proofs.Runs.{Going}
use Rattle.asn_module_reader.proofs.read.+read.Given as goal

abbrev pub decreases-read_notation : goal.decreases-read_notation
decreases-read_notation l = 2 * length l.cursor.now.rest

abbrev pub decreases-read_members : goal.decreases-read_members
decreases-read_members l = 2 * length l.cursor.now.rest

abbrev pub decreases-read_element : goal.decreases-read_element
decreases-read_element l = 2 * length l.cursor.now.rest

abbrev pub decreases-read_components : goal.decreases-read_components
decreases-read_components l = 2 * length l.cursor.now.rest + 1

abbrev pub invariant-read_components-elements : goal.invariant-read_components-elements
invariant-read_components-elements l =
    Going is_marker (ElementsParse 64 l.level l.allowed) l.initial.cursor.rest l.cursor.rest (elements_read l.elements) × (length l.cursor.rest ≤ length l.initial.cursor.rest)

abbrev pub decreases-read_components-elements : goal.decreases-read_components-elements
decreases-read_components-elements l = length l.cursor.rest
