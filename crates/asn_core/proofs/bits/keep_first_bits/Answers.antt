use Rattle.std.proofs.Common.{◌<◌, ◌/◌, ◌%◌, ◌∷◌, [], ℕ, List, arith, ap, ◌∙◌, set, take, length, get_or}
use Rattle.std.specs.Int.{div_ceil}
use Rattle.std.proofs.lemmas.List.{get_or_read, get_or-take}
use Rattle.asn_core.specs.BitStrings.{bits_of, padded}
use Rattle.asn_core.proofs.Padding.{AreOctets}
use Rattle.asn_core.proofs.Cutting.{cut-whole, cut-part}
use Rattle.asn_core.proofs.bits.keep_first_bits.Goals as goal

pub returns-then-whole-len : goal.returns-then-whole-len
returns-then-whole-len c =
    let o = c.args.octets.now.items in
    let n = c.args.count in
    let h : AreOctets o = λ i within. omega arith in
    let cut = c.truncate.ensures.items ∙ ap (λ (k : ℕ). take k o) c.div_ceil.ensures in
    let l : n / 8 < length (take (div_ceil n 8) o) = omega (arith, ap (λ (x : List ℕ). length x) cut, c.truncate.new.self.ok.0) in
    let r = get_or_read (take (div_ceil n 8) o) (n / 8) c.index.result.now l (c.index.ensures ∙ ap (λ x. get_or x (n / 8) c.index.result.now) cut) 0 ∙ get_or-take (div_ceil n 8) o (n / 8) 0 (omega arith) in
    ap (λ x. set x (n / 8) c.first_bits.result) cut
    ∙ cut-part n o c.first_bits.result h l (c.first_bits.ensures ∙ ap (λ x. padded (bits_of (x ∷ []) (n % 8))) r)

pub returns-else-whole-len : goal.returns-else-whole-len
returns-else-whole-len c =
    let o = c.args.octets.now.items in
    let n = c.args.count in
    let h : AreOctets o = λ i within. omega arith in
    let cut = c.truncate.ensures.items ∙ ap (λ (k : ℕ). take k o) c.div_ceil.ensures in
    cut ∙ cut-whole n o h (omega (arith, ap (λ (x : List ℕ). length x) cut, c.truncate.new.self.ok.0))
