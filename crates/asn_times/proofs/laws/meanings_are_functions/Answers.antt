use Rattle.asn_times.proofs.Meant.{day_meant, day_means, generalized_meant, generalized_means, utc_meant, utc_means}
use Rattle.asn_times.proofs.laws.meanings_are_functions.Goals as goal

pub returns : goal.returns
returns c = record {
  day = λ text n. (day_meant text n, day_means text n);
  utc = λ text n. (utc_meant text n, utc_means text n);
  generalized = λ text n. (generalized_meant text n, generalized_means text n);
}
