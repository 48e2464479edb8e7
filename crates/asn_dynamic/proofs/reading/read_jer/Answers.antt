use Rattle.std.proofs.Common.{[], refl, Result, Err}
use Rattle.std.specs.Str.{chars}
use Rattle.asn_codec.specs.Texts.{HasTree}
use Rattle.asn_codec.proofs.Naming.{jer_complete, jer_refused}
use Rattle.asn_core.specs.declared.codec.Codec.TheVariants.{Jer}
use Rattle.asn_dynamic_faults.specs.DynFailure.{dyn_failure}
use Rattle.asn_dynamic_faults.specs.declared.errors.DynError.{DynError}
use Rattle.asn_dynamic_values.specs.DynView.{dyn_value}
use Rattle.asn_dynamic_values.specs.declared.value.DynValue.{DynValue}
use Rattle.asn_fault.specs.Failure.{failure_of}
use Rattle.asn_model.specs.Notation.{Notation}
use Rattle.asn_model.specs.Tree.{Tree}
use Rattle.avn_grammar.specs.declared.limits.TheConstants.{LEVEL_LIMIT}
use Rattle.jer_rules.specs.Text.{RefusesText}
use Rattle.jer_rules.proofs.Roots.{text_complete, text_refused}
use Rattle.asn_dynamic.proofs.Roots.{jer-memory, jer-told, part-answer, root-part, text-read}
use Rattle.asn_dynamic.proofs.reading.read_jer.Goals as goal

pub read_value-requires : goal.read_value-requires
read_value-requires g c = root-part g.P.Part.shape c.args.part c.requires

pub returns-in-Ok : goal.returns-in-Ok
returns-in-Ok g c =
    let t = c.in-Ok.ensures.tree in
    let s = g.P.Part.shape [] c.args.part in
    let text = c.args.input.now in
    let r = c.read_value.result in
    let h = part-answer g.P.Part.shape c.args.part Notation.jer (Tree.json t.0) _ _ [] r t.2 c.read_value.ensures.answer in
    record {
      value = text-read LEVEL_LIMIT Notation.jer s text (Tree.json t.0) r (HasTree.json_tree t.1) h;
      held = c.read_value.ensures.held;
      refused = jer_refused dyn_failure LEVEL_LIMIT Jer s text r refl (text_refused dyn_failure s dyn_value text t.0 r t.1 h);
      complete = jer_complete dyn_failure LEVEL_LIMIT s text dyn_value r (text_complete dyn_failure s dyn_value text t.0 r t.1 h);
    }

pub returns-in-Err : goal.returns-in-Err
returns-in-Err g c =
    let s = g.P.Part.shape [] c.args.part in
    let text = c.args.input.now in
    let told = jer-told c.args.input.now (failure_of c.in-Err.error) (dyn_failure c.of_decode.result) c.in-Err.ensures.refused c.of_decode.ensures in
    let r : Result DynValue DynError = Err c.of_decode.result in
    record {
      value = tt;
      held = tt;
      refused = jer_refused dyn_failure LEVEL_LIMIT Jer s text r refl (RefusesText.no_tree told);
      complete = jer_complete dyn_failure LEVEL_LIMIT s text dyn_value r (λ d v is says. jer-memory c.args.input.now (dyn_failure c.of_decode.result) d told is);
    }
