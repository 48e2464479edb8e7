use Rattle.std.proofs.Common.{◌≡◌, ◌⊎◌, [], codes, subst, sym}
use Rattle.std.specs.Prelude.{IfErr, IfOk}
use Rattle.asn_codec.specs.Refused.{no_text}
use Rattle.asn_codec.specs.Texts.{IsDecodeFailure, TextDecodesTo}
use Rattle.asn_codec.proofs.Naming.{no_tree, other_codec}
use Rattle.asn_dynamic_faults.specs.DynFailure.{dyn_failure}
use Rattle.asn_dynamic_values.specs.DynView.{dyn_value}
use Rattle.asn_fault.specs.Failure.{Cause, at_root, failure_of}
use Rattle.asn_model.specs.Notation.{Notation, notation_of}
use Rattle.avn_grammar.specs.declared.limits.TheConstants.{LEVEL_LIMIT}
use Rattle.asn_dynamic.proofs.Roots.{other-told, text-fits}
use Rattle.asn_dynamic.proofs.reading.read_part.Goals as goal

pub returns-in-Jer-clause-value : goal.returns-in-Jer-clause-value
returns-in-Jer-clause-value g c =
    subst (λ k. IfOk c.read_jer.result (λ v. TextDecodesTo LEVEL_LIMIT (notation_of k) (g.P.Part.shape [] c.args.part) c.args.input.now (dyn_value v))) (sym c.in-Jer.is) c.read_jer.ensures.value

pub returns-in-Jer-clause-fits : goal.returns-in-Jer-clause-fits
returns-in-Jer-clause-fits g c = text-fits c.decoded_values_fit.ensures LEVEL_LIMIT Notation.jer (g.P.Part.shape [] c.args.part) c.args.input.now c.read_jer.result tt c.read_jer.ensures.value c.read_jer.ensures.held

pub returns-in-Jer-clause-refused : goal.returns-in-Jer-clause-refused
returns-in-Jer-clause-refused g c =
    subst (λ k. IfErr c.read_jer.result (λ e. (dyn_failure e ≡ at_root Cause.out_of_memory k) ⊎ IsDecodeFailure LEVEL_LIMIT k (g.P.Part.shape [] c.args.part) c.args.input.now (dyn_failure e))) (sym c.in-Jer.is) c.read_jer.ensures.refused

pub returns-in-Jer-clause-complete : goal.returns-in-Jer-clause-complete
returns-in-Jer-clause-complete g c = λ v h. c.read_jer.ensures.complete v (subst (λ k. TextDecodesTo LEVEL_LIMIT (notation_of k) (g.P.Part.shape [] c.args.part) c.args.input.now v) c.in-Jer.is h)

pub returns-in-Avn-clause-value : goal.returns-in-Avn-clause-value
returns-in-Avn-clause-value g c =
    subst (λ k. IfOk c.read_avn.result (λ v. TextDecodesTo LEVEL_LIMIT (notation_of k) (g.P.Part.shape [] c.args.part) c.args.input.now (dyn_value v))) (sym c.in-Avn.is) c.read_avn.ensures.value

pub returns-in-Avn-clause-fits : goal.returns-in-Avn-clause-fits
returns-in-Avn-clause-fits g c = text-fits c.decoded_values_fit.ensures LEVEL_LIMIT Notation.avn (g.P.Part.shape [] c.args.part) c.args.input.now c.read_avn.result tt c.read_avn.ensures.value c.read_avn.ensures.held

pub returns-in-Avn-clause-refused : goal.returns-in-Avn-clause-refused
returns-in-Avn-clause-refused g c =
    subst (λ k. IfErr c.read_avn.result (λ e. (dyn_failure e ≡ at_root Cause.out_of_memory k) ⊎ IsDecodeFailure LEVEL_LIMIT k (g.P.Part.shape [] c.args.part) c.args.input.now (dyn_failure e))) (sym c.in-Avn.is) c.read_avn.ensures.refused

pub returns-in-Avn-clause-complete : goal.returns-in-Avn-clause-complete
returns-in-Avn-clause-complete g c = λ v h. c.read_avn.ensures.complete v (subst (λ k. TextDecodesTo LEVEL_LIMIT (notation_of k) (g.P.Part.shape [] c.args.part) c.args.input.now v) c.in-Avn.is h)

pub returns-in_default : goal.returns-in_default
returns-in_default g c =
    let h = other_codec c.args.notation c.in_default.not-Jer c.in_default.not-Avn in
    let s = g.P.Part.shape [] c.args.part in
    record {
      value = tt;
      fits = tt;
      refused = other-told LEVEL_LIMIT c.args.notation s c.args.input.now (Cause.custom (no_text c.args.notation (codes "decode_from_binary"))) (failure_of c.no_text_decoded.result) (dyn_failure c.of_decode.result) (IsDecodeFailure.not_text h) c.no_text_decoded.ensures c.of_decode.ensures;
      complete = λ v says. absurd (no_tree (subst (λ n. TextDecodesTo LEVEL_LIMIT n s c.args.input.now v) h says));
    }
