use Rattle.asn_versions.proofs.Parts.{part_grows}
use Rattle.asn_versions.proofs.decode_part.Goals as goal

pub decode_as_older-requires : goal.decode_as_older-requires
decode_as_older-requires c = part_grows
