use Rattle.std.proofs.Common.{sym, subst, take}
use Rattle.std.specs.Str.{IsAscii}
use Rattle.avn_nodes.proofs.DigitRows.{bits-ascii}
use Rattle.avn_nodes.proofs.digits.write_bits_of.Goals as goal

pub write_digits-requires : goal.write_digits-requires
write_digits-requires g c =
    let n = c.if-at_most-lt8.kept in
    subst (λ x. IsAscii (take n x)) (sym c.binary_digits-digits.ensures) (bits-ascii n c.args.octet)
