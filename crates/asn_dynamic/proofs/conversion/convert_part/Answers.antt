use Rattle.std.proofs.Common.{[], ap, ◌∙◌, subst, string_bytes}
use Rattle.asn_codec.specs.Texts.{ReadsBack}
use Rattle.asn_codec.proofs.Again.{again, deep_again, equal_texts}
use Rattle.asn_codec.proofs.Passing.{refused_reading, refused_writing, writable_same}
use Rattle.asn_dynamic_values.specs.DynView.{dyn_value}
use Rattle.asn_model.specs.Canonical.{canonical_text}
use Rattle.asn_model.specs.Notation.{notation_of}
use Rattle.asn_model.specs.Value.{Fits}
use Rattle.asn_model.specs.Writable.{Writable}
use Rattle.avn_grammar.specs.declared.limits.TheConstants.{LEVEL_LIMIT}
use Rattle.asn_dynamic.proofs.conversion.convert_part.Goals as goal

pub returns-in-Ok-clause-refused : goal.returns-in-Ok-clause-refused
returns-in-Ok-clause-refused g c = refused_writing LEVEL_LIMIT _ _ _ _ _ c.in-Err-write_part.error c.in-Ok.ensures.value c.in-Err-write_part.ensures.refused

pub returns-in-Ok-clause-complete : goal.returns-in-Ok-clause-complete
returns-in-Ok-clause-complete g c = λ h. c.in-Err-write_part.ensures.complete h.notation (writable_same (notation_of c.args.to) (dyn_value c.in-Ok.value) h.value (c.in-Ok.ensures.complete h.value h.says) h.writable)

pub returns-clause-refused : goal.returns-clause-refused
returns-clause-refused g c = refused_reading LEVEL_LIMIT _ _ _ _ _ c.in-Err.ensures.refused

pub returns-clause-complete : goal.returns-clause-complete
returns-clause-complete g c = λ h. c.in-Err.ensures.complete h.value h.says

pub returns-in-Ok-write_part-clause-read_again : goal.returns-in-Ok-write_part-clause-read_again
returns-in-Ok-write_part-clause-read_again g c =
    let s = g.P.Part.shape [] c.args.part in
    let to = notation_of c.args.to in
    let wrote = c.in-Ok-write_part.ensures in
    λ v says shallow.
    let same = c.in-Ok.ensures.complete v says in
    again LEVEL_LIMIT (notation_of c.args.from) to s v c.args.input.now _ c.requires (subst (Fits s) same c.in-Ok.ensures.fits) (subst (Writable to) same wrote.writable)
    (subst (λ w. ReadsBack LEVEL_LIMIT to w (string_bytes c.in-Ok-write_part.text)) same (wrote.reads_back LEVEL_LIMIT)) says shallow

pub returns-in-Ok-write_part-clause-too_deep : goal.returns-in-Ok-write_part-clause-too_deep
returns-in-Ok-write_part-clause-too_deep g c =
    λ v says is deep.
    let same = c.in-Ok.ensures.complete v says in
    deep_again LEVEL_LIMIT c.args.to v _ is (subst (λ w. ReadsBack LEVEL_LIMIT (notation_of c.args.to) w (string_bytes c.in-Ok-write_part.text)) same (c.in-Ok-write_part.ensures.reads_back LEVEL_LIMIT)) deep

pub returns-in-Ok-write_part-clause-equal : goal.returns-in-Ok-write_part-clause-equal
returns-in-Ok-write_part-clause-equal g c =
    let s = g.P.Part.shape [] c.args.part in
    let to = notation_of c.args.to in
    let wrote = c.in-Ok-write_part.ensures in
    λ v w says fit can.
    let same = c.in-Ok.ensures.complete v says in
    equal_texts to s v w _ wrote.notation c.requires (subst (Fits s) same c.in-Ok.ensures.fits) (subst (Writable to) same wrote.writable) (wrote.text ∙ ap (canonical_text to) same) fit can
