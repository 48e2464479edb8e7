use Rattle.std.proofs.Common.{map, length}
use Rattle.asn_modules_grammar.specs.headers.Headers.{ImportsReach}
use Rattle.asn_modules_grammar.specs.headers.Views.{import_view}
use Rattle.asn_modules_grammar.proofs.headers.import.read_imports.Given as goal

abbrev pub invariant-imports : goal.invariant-imports
invariant-imports l = ImportsReach l.initial.rest (map import_view l.imports.items) l.rest

abbrev pub decreases-imports : goal.decreases-imports
decreases-imports l = length l.rest
