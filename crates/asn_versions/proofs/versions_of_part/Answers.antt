use Rattle.std.proofs.Common.{refl}
use Rattle.asn_sample_choices.specs.NewPart.{new_part_shape}
use Rattle.asn_sample_choices.specs.OldPart.{old_part_shape}
use Rattle.asn_versions.proofs.Parts.{part_grows}
use Rattle.asn_versions.proofs.versions_of_part.Goals as goal

pub returns : goal.returns
returns c = record {
  forward = λ n t v text h known. let law = c.older_readers_read_newer_texts.ensures in law.known n old_part_shape new_part_shape t v text refl part_grows h known;
  relay = λ n v text fit can. let law = c.relays_keep_texts.ensures in law.text n old_part_shape new_part_shape v text refl refl part_grows fit can;
}
