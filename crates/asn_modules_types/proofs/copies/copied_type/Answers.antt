use Rattle.std.proofs.Common.{◌∙◌, ap, map, sym}
use Rattle.std.proofs.lemmas.Result.{IfOk-weaker}
use Rattle.asn_modules_grammar.specs.notation.View.{notation_view}
use Rattle.asn_modules_types.specs.Known.{assigned_view, sources_of}
use Rattle.asn_modules_types.specs.Linked.{base_of, copied_base}
use Rattle.asn_modules_types.proofs.Copying.{copied_assigned, copied_missing}
use Rattle.asn_modules_types.proofs.Seen.{back_viewed, notation_out}
use Rattle.asn_modules_types.proofs.copies.copied_type.Goals as goal

pub returns-in-Some : goal.returns-in-Some
returns-in-Some c =
    let a = assigned_view c.in-Some.assigned in
    let n = c.notation_of-notation.result.now in
    IfOk-weaker c.copied_base.result _ _
    (λ s e. e ∙ sym (ap (λ x. copied_base c.args.number a.home (base_of x)) (notation_out n))
    ∙ copied_assigned (sources_of c.args.names.now) c.args.number (map assigned_view c.args.names.now.types.now) c.requires.known.types a (notation_view n) c.in-Some.ensures.there c.notation_of-notation.ensures) c.copied_base.ensures

pub returns-in-None : goal.returns-in-None
returns-in-None c =
    back_viewed c.args.number ∙ copied_missing (sources_of c.args.names.now) c.args.number (map assigned_view c.args.names.now.types.now) c.requires.known.types c.in-None.ensures.there
