use Rattle.std.proofs.Common.{◌≡◌, ◌<◌, ◌+◌, ◌∙◌, arith, length, map}
use Rattle.std.proofs.lemmas.List.{length-map}
use Rattle.asn_coding.proofs.NameRows.{index-numbered, length-identifiers}
use Rattle.asn_coding.proofs.name_tables.IdentifiersNameList.index.Goals as goal

pub returns : goal.returns
returns c =
    let names = map (λ s. s.now) c.args.self.now.0.now in
    let below : c.args.place < length names = omega (arith, c.requires, length-identifiers c.args.self.now.0.now, length-map c.args.self.now.0.now (λ s. s.now)) in
    let zeroth : c.args.place ≡ 0 + c.args.place = omega arith in
    zeroth ∙ index-numbered 0 c.args.place names below
