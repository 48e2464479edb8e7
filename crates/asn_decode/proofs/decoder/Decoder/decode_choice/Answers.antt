use Rattle.asn_coding.proofs.Choices.{choice_by_tag}
use Rattle.asn_decode.proofs.decoder.Decoder.decode_choice.Goals as goal

pub returns-in-Ok : goal.returns-in-Ok
returns-in-Ok g c = choice_by_tag _ g.C.Choice.alternatives g.C.Choice.added _ _ _ _ _ _ c.in-Ok.ensures c.from_tag.ensures
