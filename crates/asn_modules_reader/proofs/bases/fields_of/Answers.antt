use Rattle.std.proofs.Common.{sym, ap, ◌∙◌}
use Rattle.asn_model.specs.ShapeView.{kind_view}
use Rattle.asn_modules_grammar.specs.notation.Notation as spec
use Rattle.asn_modules_grammar.specs.notation.View.{members_view}
use Rattle.asn_modules_reader.proofs.Viewing.{sequence_viewed, set_viewed}
use Rattle.asn_modules_reader.proofs.bases.fields_of.Goals as goal

pub returns-in-Sequence : goal.returns-in-Sequence
returns-in-Sequence c = sequence_viewed c.args.members ∙ ap (λ k. spec.members k (spec.members_of (members_view c.args.members))) (sym (ap kind_view c.in-Sequence.is))

pub returns-in-Set : goal.returns-in-Set
returns-in-Set c = set_viewed c.args.members ∙ ap (λ k. spec.members k (spec.members_of (members_view c.args.members))) (sym (ap kind_view c.in-Set.is))
