use Rattle.std.proofs.Common.{sym, ◌∙◌, subst}
use Rattle.asn_document.specs.Meaning.{document_value}
use Rattle.asn_convert.specs.Made.{IsRelayed, TextLengths, made}
use Rattle.asn_convert.proofs.MadeTexts.{made_relayed}
use Rattle.asn_convert.proofs.Relaying.{lines_measured}
use Rattle.asn_convert.proofs.made.report_on.Goals as goal

pub returns : goal.returns
returns c =
    let l = c.in-Ok.lengths in
    let relayed = subst (λ d. IsRelayed (document_value d)) (sym c.in_ok-document.ensures) (made_relayed c.args.entries c.requires) in
    let measured = subst (λ d. TextLengths (document_value d) l.jer l.avn l.back) c.in_ok-document.ensures (c.in-Ok.ensures.lengths relayed) in
    c.in_ok-format.ensures.ok ∙ lines_measured c.args.entries l.jer l.avn l.back (document_value (made c.args.entries)) measured
