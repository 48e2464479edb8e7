use Rattle.std.proofs.Common.{sym, ap, ◌∙◌}
use Rattle.asn_modules_grammar.specs.notation.Notation as spec
use Rattle.asn_modules_grammar.specs.declared.notation.leaf.Closed.TheVariants.{Parameterized}
use Rattle.asn_modules_grammar.specs.declared.notation.leaf.Leaf.TheVariants.{Closed}
use Rattle.asn_modules_reader.specs.Arguments.{arguments_view}
use Rattle.asn_modules_reader.proofs.Viewing.{instance_viewed, leaf_viewed}
use Rattle.asn_modules_reader.proofs.bases.instance_or.Goals as goal

pub returns-in-Some : goal.returns-in-Some
returns-in-Some c = instance_viewed c.args.home c.args.name c.in-Some.arguments ∙ sym (ap (λ ns. spec.instance_or c.args.home c.args.name (arguments_view ns)) c.in-Some.is)

pub returns-in-None : goal.returns-in-None
returns-in-None c = leaf_viewed (Closed Parameterized) ∙ sym (ap (λ ns. spec.instance_or c.args.home c.args.name (arguments_view ns)) c.in-None.is)
