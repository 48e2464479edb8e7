use Rattle.std.proofs.Common.{sym, ap, ◌∙◌}
use Rattle.asn_model.specs.Shape.{SeqKind}
use Rattle.asn_model.specs.ShapeView.{kind_view}
use Rattle.asn_modules_grammar.specs.notation.Notation as spec
use Rattle.asn_modules_grammar.specs.notation.View.{notation_view}
use Rattle.asn_modules_reader.proofs.Viewing.{sequence_of_viewed, set_of_viewed}
use Rattle.asn_modules_reader.proofs.bases.list_of.Goals as goal

pub returns-in-Sequence : goal.returns-in-Sequence
returns-in-Sequence c =
    sequence_of_viewed c.in_ok-element.element ∙ ap (λ x. spec.list_of SeqKind.sequence (notation_view x)) c.in_ok-element.ensures.ok
    ∙ ap (λ k. spec.list_of k (notation_view c.args.element)) (sym (ap kind_view c.in-Sequence.is))

pub returns-in-Set : goal.returns-in-Set
returns-in-Set c =
    set_of_viewed c.in_ok-element.element ∙ ap (λ x. spec.list_of SeqKind.set (notation_view x)) c.in_ok-element.ensures.ok
    ∙ ap (λ k. spec.list_of k (notation_view c.args.element)) (sym (ap kind_view c.in-Set.is))
