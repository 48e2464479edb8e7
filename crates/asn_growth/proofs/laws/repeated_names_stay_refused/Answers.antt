use Rattle.asn_growth.proofs.Versions.{repeated-again}
use Rattle.asn_growth.proofs.laws.repeated_names_stay_refused.Goals as goal

pub returns : goal.returns
returns c = λ n kind fs gs added more t look name g e f. repeated-again name g e f
