use Rattle.std.proofs.Common.{◌≤◌, length}
use Rattle.asn_modules_grammar.specs.notation.Tags.{TagsParse}
use Rattle.asn_modules_reader.proofs.parts.Runs.{Going}
use Rattle.asn_modules_reader.proofs.parts.tag.read_tags.Given as goal

abbrev pub invariant-tags : goal.invariant-tags
invariant-tags l = Going TagsParse l.tokens l.rest l.tags.items × (length l.rest ≤ length l.tokens)

abbrev pub decreases-tags : goal.decreases-tags
decreases-tags l = length l.rest
