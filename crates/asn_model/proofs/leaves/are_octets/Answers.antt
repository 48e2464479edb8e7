use Rattle.std.proofs.Common.{get_or, arith}
use Rattle.std.proofs.lemmas.Bool.{lt-ltb}
use Rattle.avn_grammar.specs.WellFormed.{is_octet}
use Rattle.asn_model.proofs.Elements.{every-at}
use Rattle.asn_model.proofs.leaves.are_octets.Goals as goal

pub returns : goal.returns
returns c = every-at is_octet c.args.octets.now (λ i l. lt-ltb (get_or c.args.octets.now i 0) 256 (omega (arith, c.type_inv.octets i)))
