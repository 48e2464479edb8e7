use Rattle.std.proofs.Common.{arith, rules}
use Rattle.std.proofs.Output.{has_written_of_eq}
use Rattle.std.proofs.lemmas.Grind.{put_two}
use Rattle.avn_nodes.proofs.DigitRows.{no-bits, bits-more}
use Rattle.avn_nodes.proofs.Rows.{was_ok}
use Rattle.avn_nodes.proofs.digits.write_bits.Goals as goal

pub loop-octet-init : goal.loop-octet-init
loop-octet-init g c = (omega arith, (λ p. has_written_of_eq _ _ _ _ _ (no-bits c.args.at_most) (search rules)))

pub loop-octet-preserved : goal.loop-octet-preserved
loop-octet-preserved g c =
    let was = c.loop-octet.invariant in (
      omega (arith, was.0, c.saturating_sub-left.ensures),
      (λ p.
          let h0 = was.1 p in
          put_two g.W.Write.write_str_gives _ _ _ _ _ _ h0 (c.write_bits_of.ensures h0.plain (was_ok _ _ c.in_ok-write_bits_of.was)) (bits-more c.args.at_most c.loop-octet.left c.args.octets.now c.loop-octet.octet-index c.loop-octet-test.true was.0)),
    )
