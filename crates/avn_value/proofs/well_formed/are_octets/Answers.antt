use Rattle.std.proofs.Common.{arith, sym, get_or}
use Rattle.std.proofs.lemmas.Bool.{lt-ltb}
use Rattle.avn_grammar.specs.WellFormed.{is_octet}
use Rattle.avn_value.proofs.Forms.{every-at}
use Rattle.avn_value.proofs.well_formed.are_octets.Goals as goal

pub returns : goal.returns
returns c = sym (every-at is_octet c.args.octets.now (λ i l. lt-ltb (get_or c.args.octets.now i 0) 256 (omega (arith, c.type_inv.octets i))))
