use Rattle.std.proofs.Common.{◌^◌, get_or, arith}
use Rattle.std.proofs.lemmas.Bool.{lt-ltb}
use Rattle.avn_grammar.specs.WellFormed.{is_arc}
use Rattle.asn_model.proofs.Elements.{every-at}
use Rattle.asn_model.proofs.leaves.are_arcs.Goals as goal

pub returns : goal.returns
returns c = every-at is_arc c.args.arcs.now (λ i l. lt-ltb (get_or c.args.arcs.now i 0) (2 ^ 32) (omega (arith, c.type_inv.arcs i)))
