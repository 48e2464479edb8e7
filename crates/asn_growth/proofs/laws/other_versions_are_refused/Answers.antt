use Rattle.asn_growth.proofs.Unknowns.{fails-upon, one_place}
use Rattle.asn_growth.proofs.laws.other_versions_are_refused.Goals as goal

pub returns : goal.returns
returns c = record {
  refused = λ n s t p w h. fails-upon h;
  no_other = λ n s t p q w x text h k. one_place text h k;
}
