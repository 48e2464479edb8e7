use Rattle.std.proofs.Common.{◌≡◌, ◌∙◌, None, Some, ap, map, sym}
use Rattle.std.proofs.lemmas.Result.{IfOk-weaker}
use Rattle.asn_model.specs.Shape.{Shape}
use Rattle.asn_model.specs.ShapeView.{shape_view}
use Rattle.asn_modules_types.specs.Known.{assigned_view, sources_of}
use Rattle.asn_modules_types.specs.Linked.{named_type, roots_of, scope_of}
use Rattle.asn_modules_types.specs.Types.{notation_shape}
use Rattle.asn_modules_types.specs.declared.limits.TheConstants.{NAME_LIMIT}
use Rattle.asn_modules_types.proofs.Following.{opened_number}
use Rattle.asn_modules_types.proofs.Seen.{back_viewed}
use Rattle.asn_modules_types.proofs.linked.opened_type.Goals as goal

pub returns-in-Some : goal.returns-in-Some
returns-in-Some c =
    let ss = sources_of c.args.names.now in
    let a = assigned_view c.in-Some.assigned in
    let named : named_type ss NAME_LIMIT c.args.number ≡ Shape.back c.in-Back.place = sym c.in_ok-shape.ensures ∙ ap shape_view c.in-Back.is ∙ back_viewed c.in-Back.place in
    IfOk-weaker c.shape_of.result _ _
    (λ s e. e ∙ ap (notation_shape (roots_of ss NAME_LIMIT a.number a.home) (scope_of ss NAME_LIMIT a.number a.home)) c.notation_of-notation.ensures
    ∙ sym (opened_number ss (named_type ss NAME_LIMIT c.args.number) c.in-Back.place (map assigned_view c.args.names.now.types.now) (Some a) named c.requires.known.types c.in-Some.ensures.there)) c.shape_of.ensures.shape

pub returns-in-None : goal.returns-in-None
returns-in-None c =
    let ss = sources_of c.args.names.now in
    let named : named_type ss NAME_LIMIT c.args.number ≡ Shape.back c.in-Back.place = sym c.in_ok-shape.ensures ∙ ap shape_view c.in-Back.is ∙ back_viewed c.in-Back.place in
    c.no_values.ensures.is
    ∙ sym (opened_number ss (named_type ss NAME_LIMIT c.args.number) c.in-Back.place (map assigned_view c.args.names.now.types.now) None named c.requires.known.types c.in-None.ensures.there)
