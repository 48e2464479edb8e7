use Rattle.std.proofs.Common.{◌∙◌, [], ap, arith, get_or, sym}
use Rattle.std.specs.Prelude.{option_map}
use Rattle.asn_model.specs.Shape.{identifiers}
use Rattle.asn_parts.specs.Listed.{alternatives_in}
use Rattle.asn_parts.specs.Parts.{alternative_of}
use Rattle.asn_parts.proofs.NameRows.{identifier-name, identifier-there}
use Rattle.asn_coding.proofs.NameRows.{length-numbered, names-numbered}
use Rattle.asn_parts.proofs.names.AlternativeNamesNameList.name.Goals as goal

pub unreachable-requires : goal.unreachable-requires
unreachable-requires g c =
    let alts = alternatives_in (g.P.Part.shape [] c.args.self.now.part) in
    identifier-there alts c.args.place (omega (arith, c.requires, length-numbered 0 (identifiers alts))) (c.alternative.ensures [] ∙ ap (option_map (alternative_of (g.P.Part.shape []))) c.in-None.is)

pub returns : goal.returns
returns g c =
    let alts = alternatives_in (g.P.Part.shape [] c.args.self.now.part) in
    let shape = g.P.Part.shape [] in
    sym (ap (λ l. get_or l c.args.place []) (names-numbered 0 (identifiers alts)) ∙ identifier-name alts c.args.place (alternative_of shape c.in-Some.alternative) (c.alternative.ensures [] ∙ ap (option_map (alternative_of shape)) c.in-Some.is))
