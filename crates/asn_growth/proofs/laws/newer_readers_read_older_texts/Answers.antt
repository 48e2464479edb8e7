use Rattle.asn_model.specs.Notation.{Notation}
use Rattle.asn_growth.proofs.Backward.{taken}
use Rattle.asn_growth.proofs.Unknowns.{missing_at, fails_there}
use Rattle.asn_growth.specs.ComesUpon.{IsMissing}
use Rattle.asn_growth.proofs.laws.newer_readers_read_older_texts.Goals as goal

pub returns : goal.returns
returns c = record {
  jer = λ old new v a b g fit can. let k = taken {n = Notation.jer} tt g a b fit can in k.read;
  avn = λ old new v a b g fit can. let k = taken {n = Notation.avn} tt g a b fit can in k.read;
  jer_refused = λ old new v p y a b g fit can k. let h = taken {n = Notation.jer} tt g a b fit can in missing_at (fails_there IsMissing tt h.read k);
  avn_refused = λ old new v p y a b g fit can k. let h = taken {n = Notation.avn} tt g a b fit can in missing_at (fails_there IsMissing tt h.read k);
}
