use Rattle.std.proofs.Common.{◌≡◌, map, string_bytes}
use Rattle.asn_modules.specs.Modules.{modules_view}
use Rattle.asn_command.proofs.show.Naming.{shown_before}
use Rattle.asn_command.proofs.show.names.names_among.Given as goal

abbrev pub invariant-loop-name : goal.invariant-loop-name
invariant-loop-name l = map string_bytes l.found.items ≡ shown_before (modules_view l.modules).names l.names l.name-index
