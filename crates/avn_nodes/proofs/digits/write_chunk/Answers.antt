use Rattle.std.proofs.Common.{arith, sym, subst, ◌∙◌, ap, take, ◌≡◌, ◌+◌}
use Rattle.std.specs.Prelude.{set}
use Rattle.std.specs.Str.{IsAscii}
use Rattle.std.proofs.lemmas.List.{take_all, length-set}
use Rattle.avn_grammar.specs.Octets.{hex_text}
use Rattle.avn_nodes.proofs.DigitRows.{hex-ascii, hex-more}
use Rattle.avn_nodes.proofs.digits.write_chunk.Goals as goal

pub loop-octet-preserved : goal.loop-octet-preserved
loop-octet-preserved g c =
    let was = c.loop-octet.invariant in
    let d = c.loop-octet.digits in
    let n = c.loop-octet.end in (
      length-set (set d n c.hex_digit.result) (n + 1) c.hex_digit-in-loop-octet.result ∙ length-set d n c.hex_digit.result ∙ was.0,
      omega (arith, was.1),
      hex-more c.args.octets.now d c.loop-octet.octet-index n _ _ c.loop-octet-test.true (omega (arith, was.0, was.1, c.requires, c.loop-octet-test.true)) was.2 c.hex_digit.ensures c.hex_digit-in-loop-octet.ensures,
    )

pub write_digits-requires : goal.write_digits-requires
write_digits-requires g c =
    let xs = c.args.octets.now in
    let e : take c.loop-octet.octet-index xs ≡ xs = take_all c.loop-octet.octet-index xs c.loop-octet-test.false in
    subst IsAscii (sym (c.loop-octet.invariant.2 ∙ ap hex_text e)) (hex-ascii xs (λ i. omega (arith, c.type_inv.octets i)))
