use Rattle.asn_upgrades.proofs.agreement.Blocks.{one_cause, written-unrefused}
use Rattle.asn_upgrades.proofs.agreement.writing.one_writing.Goals as goal

pub returns : goal.returns
returns c = record {
  no_refusal = λ codec v cause text can refused. written-unrefused codec v cause text can refused;
  refusals = λ codec v cause other once a b. one_cause codec v cause other once a b;
}
