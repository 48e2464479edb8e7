use Rattle.avn_cursor.proofs.BitPairs.{packed_pairs, bit_pairs}
use Rattle.avn_cursor.proofs.bit_pairs.first_octet.Goals as goal

pub returns : goal.returns
returns c =
    let a = c.in_ok-first.ensures in
    let b = c.in_ok-second.ensures in
    let d = c.in_ok-third.ensures in
    let e = c.in_ok-fourth.ensures in
    (bit_pairs c.args.pairs.now a.0 b.0 d.0 e.0, packed_pairs c.args.pairs.now _ _ _ _ c.requires a.1 b.1 d.1 e.1)
