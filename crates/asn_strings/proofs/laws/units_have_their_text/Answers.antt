use Rattle.std.proofs.lemmas.Str.{encodes-chars, scalars-chars}
use Rattle.asn_strings.proofs.laws.units_have_their_text.Goals as goal

pub returns : goal.returns
returns c = λ text utf8. (scalars-chars text utf8, encodes-chars text utf8)
