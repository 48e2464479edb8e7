use Rattle.std.proofs.Common.{length, map}
use Rattle.asn_modules_grammar.specs.notation.View.{module_view}
use Rattle.asn_modules_reader.proofs.ModulesRead.{GoingOn}
use Rattle.asn_modules_reader.proofs.module.read_modules.Given as goal

abbrev pub invariant-modules : goal.invariant-modules
invariant-modules l = GoingOn 64 l.tokens l.rest (map module_view l.modules.items)

abbrev pub decreases-modules : goal.decreases-modules
decreases-modules l = length l.rest
