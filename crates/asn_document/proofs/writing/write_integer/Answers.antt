use Rattle.std.proofs.Common.{OnOk, codes, subst, w64, rules, arith}
use Rattle.std.proofs.lemmas.Int.{to_z-of_z}
use Rattle.std.proofs.lemmas.Result.{on_ok_weaker}
use Rattle.asn_document.specs.Meaning.{document_alternatives}
use Rattle.asn_model.specs.Value.{Value, FitsAlternative}
use Rattle.asn_coding.proofs.Filling.{offered}
use Rattle.asn_coding.specs.Writing.{Offered}
use Rattle.asn_document.proofs.writing.write_integer.Goals as goal

pub returns-clause-offered : goal.returns-clause-offered
returns-clause-offered g c =
    subst (λ n. OnOk c.encode_integer.result (Offered g.E.Encoder.holds g.E.Encoder.notation document_alternatives (codes "integer") (Value.int n) c.args.encoder.now c.encode_integer.new.self)) (to_z-of_z w64 c.args.number (search (rules, arith)))
    (on_ok_weaker c.encode_integer.result (λ w. offered w (FitsAlternative.fits_later (FitsAlternative.fits_later (FitsAlternative.fits_here w.fit)))) c.encode_integer.ensures.written)
