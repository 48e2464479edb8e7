use Rattle.asn_growth.specs.Adapted.{lift}
use Rattle.asn_growth.proofs.Backward.{taken}
use Rattle.asn_growth.proofs.Relaying.{text-alike}
use Rattle.asn_growth.proofs.laws.relays_keep_texts.Goals as goal

pub returns : goal.returns
returns c = record {
  text = λ n old new v x a b g fit can. let k = taken {n = n} x g a b fit can in text-alike n (lift new v) v x k.alike;
  value = λ n old new v x a b g fit can. let k = taken {n = n} x g a b fit can in k.again;
}
