use Rattle.std.proofs.Common.{ap, sym, ◌∙◌, false}
use Rattle.std.proofs.lemmas.Result.{IfOk-weaker}
use Rattle.asn_model.specs.ShapeView.{shape_view}
use Rattle.asn_modules_names.specs.Assigned.{first_found}
use Rattle.asn_modules_grammar.specs.notation.View.{notation_view}
use Rattle.asn_modules_types.specs.Defaults.{number_plain, plain_in, suited}
use Rattle.asn_modules_types.specs.Known.{scope_view, sources_of}
use Rattle.asn_modules_types.specs.Types.{number_in_type}
use Rattle.asn_modules_types.specs.Values.{values_from}
use Rattle.asn_modules_types.specs.declared.limits.TheConstants.{NAME_LIMIT}
use Rattle.asn_modules_types.proofs.Defaulting.{default_number, default_other}
use Rattle.asn_modules_types.proofs.defaults.default_of.Goals as goal

pub returns-then-is_numeric : goal.returns-then-is_numeric
returns-then-is_numeric c =
    let s = scope_view NAME_LIMIT c.args.scope.now in
    let shape = shape_view c.args.shape.now in
    c.suited_number.ensures ∙ ap (λ n. suited shape (number_plain n)) c.number_default.ensures
    ∙ default_number s (number_in_type s (notation_view c.args.notation.now)) shape c.args.value (sym c.is_numeric.ensures ∙ c.if-is_numeric.true)

pub returns : goal.returns
returns c =
    let s = scope_view NAME_LIMIT c.args.scope.now in
    let shape = shape_view c.args.shape.now in
    IfOk-weaker c.default_from.result _ _
    (λ o e. e ∙ ap (λ v. first_found (λ x. suited shape (plain_in shape x.0 x.1)) (values_from (sources_of c.args.scope.now.names.now) false NAME_LIMIT v)) c.stated_here.ensures
    ∙ default_other s (number_in_type s (notation_view c.args.notation.now)) shape c.args.value (sym c.is_numeric.ensures ∙ c.if-is_numeric.false)) c.default_from.ensures
