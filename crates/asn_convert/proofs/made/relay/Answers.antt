use Rattle.std.proofs.Common.{ap, sym, subst, ◌∙◌, length}
use Rattle.std.proofs.lemmas.Result.{err_from_is_err_and}
use Rattle.avn_grammar.specs.declared.limits.TheConstants.{LEVEL_LIMIT}
use Rattle.asn_codec.specs.Texts.{ReadsBack}
use Rattle.asn_traits.specs.Notation.{Notation}
use Rattle.asn_convert.proofs.Relaying.{IsConverted, first_read, measured, then_read, to_avn, to_jer}
use Rattle.asn_convert.proofs.made.relay.Goals as goal

pub returns-in_err-avn-clause-complete : goal.returns-in_err-avn-clause-complete
returns-in_err-avn-clause-complete g c relayed =
    let s = g.T.AsnType.shape_of in
    let v = g.T.AsnType.value_of c.args.value.now in
    let back = subst (ReadsBack LEVEL_LIMIT Notation.jer v) (sym c.as_str.ensures.value) (c.in-Ok.ensures.reads_back LEVEL_LIMIT) in
    let read = first_read s v c.as_str.result.now g.met.T.AsnType.readable c.in-Ok.ensures.fits relayed back in
    let p = err_from_is_err_and c.from_residual.result c.from_residual.ensures.1 in
    rw (p.1, p.2) (c.in_err-avn.ensures.complete (to_avn s v c.as_str.result.now read relayed))

pub returns-in_err-back-clause-complete : goal.returns-in_err-back-clause-complete
returns-in_err-back-clause-complete g c relayed =
    let s = g.T.AsnType.shape_of in
    let v = g.T.AsnType.value_of c.args.value.now in
    let back = subst (ReadsBack LEVEL_LIMIT Notation.jer v) (sym c.as_str.ensures.value) (c.in-Ok.ensures.reads_back LEVEL_LIMIT) in
    let read = first_read s v c.as_str.result.now g.met.T.AsnType.readable c.in-Ok.ensures.fits relayed back in
    let forth = subst (IsConverted Notation.jer Notation.avn s c.as_str.result.now) (sym c.as_str-2.ensures.value) record { again = c.in_ok-avn.ensures.read_again; equal = c.in_ok-avn.ensures.equal } in
    let second = then_read s v c.as_str.result.now c.as_str-2.result.now read relayed forth in
    let p = err_from_is_err_and c.from_residual-in_err-back.result c.from_residual-in_err-back.ensures.1 in
    rw (p.1, p.2) (c.in_err-back.ensures.complete (to_jer s v c.as_str-2.result.now second relayed))

pub returns-clause-lengths : goal.returns-clause-lengths
returns-clause-lengths g c relayed =
    let s = g.T.AsnType.shape_of in
    let v = g.T.AsnType.value_of c.args.value.now in
    let back = subst (ReadsBack LEVEL_LIMIT Notation.jer v) (sym c.as_str.ensures.value) (c.in-Ok.ensures.reads_back LEVEL_LIMIT) in
    let read = first_read s v c.as_str.result.now g.met.T.AsnType.readable c.in-Ok.ensures.fits relayed back in
    let forth = subst (IsConverted Notation.jer Notation.avn s c.as_str.result.now) (sym c.as_str-2.ensures.value) record { again = c.in_ok-avn.ensures.read_again; equal = c.in_ok-avn.ensures.equal } in
    measured s v c.as_str.result.now c.as_str-2.result.now _ _ _ _ c.in-Ok.ensures.fits relayed (c.as_str.ensures.value ∙ c.in-Ok.ensures.text) read forth
    record { again = c.in_ok-back.ensures.read_again; equal = c.in_ok-back.ensures.equal }
    (ap length (c.as_str-3.ensures.value ∙ sym c.as_str.ensures.value)) (ap length (c.as_str-4.ensures.value ∙ sym c.as_str-2.ensures.value)) (ap length c.as_str-5.ensures.value)
