use Rattle.std.proofs.Common.{◌≡◌, ap, refl, ◌∙◌, rules, Ok, Err}
use Rattle.asn_fault.specs.Failure.{Cause}
use Rattle.asn_model.specs.declared.leaves.LeafKind.TheVariants.{Oid}
use Rattle.asn_traits.specs.Arcs.{checked_identifier, listed_text}
use Rattle.asn_traits.specs.Leaf.{or_blame}
use Rattle.avn_rules.proofs.LeafNodes.{cause_refused}
use Rattle.avn_rules.proofs.avn.identifiers.identifier_of.Goals as goal

pub returns-in-Ok-None : goal.returns-in-Ok-None
returns-in-Ok-None c = λ t says.
    let none : checked_identifier (Ok c.args.arcs.now) ≡ Err (Cause.invalid_oid (listed_text c.args.arcs.now)) = search rules in
    cause_refused Oid t _ _ (says ∙ ap or_blame none) refl c.other_arcs.ensures
