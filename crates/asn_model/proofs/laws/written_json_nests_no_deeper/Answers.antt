use Rattle.asn_model.proofs.Nesting.{decodes-depth}
use Rattle.asn_model.proofs.laws.written_json_nests_no_deeper.Goals as goal

pub returns : goal.returns
returns c = λ s d v h. decodes-depth h
