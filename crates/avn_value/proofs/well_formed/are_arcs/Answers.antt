use Rattle.std.proofs.Common.{arith, sym, get_or, ◌^◌}
use Rattle.std.proofs.lemmas.Bool.{lt-ltb}
use Rattle.avn_grammar.specs.WellFormed.{is_arc}
use Rattle.avn_value.proofs.Forms.{every-at}
use Rattle.avn_value.proofs.well_formed.are_arcs.Goals as goal

pub returns : goal.returns
returns c = sym (every-at is_arc c.args.arcs.now (λ i l. lt-ltb (get_or c.args.arcs.now i 0) (2 ^ 32) (omega (arith, c.type_inv.arcs i))))
