use Rattle.std.proofs.Common.{ap, ◌∙◌, subst, string_bytes}
use Rattle.asn_traits.specs.Canonical.{canonical_text}
use Rattle.asn_traits.specs.Value.{Fits}
use Rattle.asn_traits.specs.Writable.{Writable}
use Rattle.asn_codec.specs.Texts.{ReadsBack}
use Rattle.asn_codec.proofs.Again.{again, deep_again, equal_texts}
use Rattle.asn_traits.specs.Notation.{notation_of}
use Rattle.asn_codec.proofs.Passing.{refused_writing, refused_reading, writable_same}
use Rattle.asn_codec.proofs.conversion.transcode_within.Goals as goal

pub returns-in-Ok-clause-refused : goal.returns-in-Ok-clause-refused
returns-in-Ok-clause-refused g c = refused_writing c.args.limit _ _ _ _ _ c.in-Err-encode_to_string.error c.in-Ok.ensures.value c.in-Err-encode_to_string.ensures.refused

pub returns-in-Ok-clause-complete : goal.returns-in-Ok-clause-complete
returns-in-Ok-clause-complete g c = λ h. c.in-Err-encode_to_string.ensures.complete h.notation (writable_same (notation_of c.args.to) (g.T.AsnType.value_of c.in-Ok.value) h.value (c.in-Ok.ensures.complete h.value h.says) h.writable)

pub returns-clause-refused : goal.returns-clause-refused
returns-clause-refused g c = refused_reading c.args.limit _ _ _ _ _ c.in-Err.ensures.refused

pub returns-clause-complete : goal.returns-clause-complete
returns-clause-complete g c = λ h. c.in-Err.ensures.complete h.value h.says

pub returns-in-Ok-encode_to_string-clause-read_again : goal.returns-in-Ok-encode_to_string-clause-read_again
returns-in-Ok-encode_to_string-clause-read_again g c =
    let s = g.T.AsnType.shape_of in
    let wrote = c.in-Ok-encode_to_string.ensures in
    λ v says shallow.
    let same = c.in-Ok.ensures.complete v says in
    again c.args.limit (notation_of c.args.from) (notation_of c.args.to) s v c.args.input.now _ g.met.T.AsnType.readable (subst (Fits s) same wrote.fits) (subst (Writable (notation_of c.args.to)) same wrote.writable)
    (subst (λ w. ReadsBack c.args.limit (notation_of c.args.to) w (string_bytes c.in-Ok-encode_to_string.text)) same (wrote.reads_back c.args.limit)) says shallow

pub returns-in-Ok-encode_to_string-clause-too_deep : goal.returns-in-Ok-encode_to_string-clause-too_deep
returns-in-Ok-encode_to_string-clause-too_deep g c =
    λ v says is deep.
    let same = c.in-Ok.ensures.complete v says in
    deep_again c.args.limit c.args.to v _ is (subst (λ w. ReadsBack c.args.limit (notation_of c.args.to) w (string_bytes c.in-Ok-encode_to_string.text)) same (c.in-Ok-encode_to_string.ensures.reads_back c.args.limit)) deep

pub returns-in-Ok-encode_to_string-clause-equal : goal.returns-in-Ok-encode_to_string-clause-equal
returns-in-Ok-encode_to_string-clause-equal g c =
    let s = g.T.AsnType.shape_of in
    let wrote = c.in-Ok-encode_to_string.ensures in
    λ v w says fit can.
    let same = c.in-Ok.ensures.complete v says in
    equal_texts (notation_of c.args.to) s v w _ wrote.notation g.met.T.AsnType.readable (subst (Fits s) same wrote.fits) (subst (Writable (notation_of c.args.to)) same wrote.writable)
    (wrote.text ∙ ap (canonical_text (notation_of c.args.to)) same) fit can
