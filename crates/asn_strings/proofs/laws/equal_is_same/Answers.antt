use Rattle.std.proofs.lemmas.Slice.Eq.{bytes_eq-Decides}
use Rattle.asn_strings.proofs.laws.equal_is_same.Goals as goal

pub returns : goal.returns
returns c = λ one other. bytes_eq-Decides one other
