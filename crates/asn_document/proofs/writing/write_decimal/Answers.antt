use Rattle.std.proofs.Common.{OnOk, codes, subst}
use Rattle.std.proofs.lemmas.Result.{on_ok_weaker}
use Rattle.std.specs.Fmt.{decimal}
use Rattle.asn_document.specs.Meaning.{document_alternatives}
use Rattle.asn_model.specs.Value.{Value, FitsAlternative}
use Rattle.asn_coding.proofs.Filling.{offered}
use Rattle.asn_coding.specs.Writing.{Offered}
use Rattle.asn_document.proofs.writing.write_decimal.Goals as goal

pub returns-clause-offered : goal.returns-clause-offered
returns-clause-offered g c =
    subst (λ n. OnOk c.put_text.result (Offered g.E.Encoder.holds g.E.Encoder.notation document_alternatives (codes "decimal") (Value.text (decimal n)) c.args.encoder.now c.put_text.new.encoder)) c.in-Some.ensures.1
    (on_ok_weaker c.put_text.result (λ w. offered w (FitsAlternative.fits_later (FitsAlternative.fits_later (FitsAlternative.fits_later (FitsAlternative.fits_here w.fit))))) c.put_text.ensures.written)
