use Rattle.std.proofs.Common.{◌≡◌, drop}
use Rattle.asn_command.specs.OneLine.{HasNoFeed, laid}
use Rattle.asn_command.specs.declared.one_line.Within.TheVariants.{Line}
use Rattle.asn_command.proofs.Laid.{put}
use Rattle.asn_command.proofs.one_line.laid.Given as goal

abbrev pub invariant-loop-byte : goal.invariant-loop-byte
invariant-loop-byte l = (laid Line l.text ≡ put l.bytes.items (laid l.place (drop l.byte-index l.text))) × HasNoFeed l.bytes.items
