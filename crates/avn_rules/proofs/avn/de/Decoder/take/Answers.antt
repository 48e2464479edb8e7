use Rattle.std.proofs.Common.{refl, ap, ◌∙◌, ◌∷◌}
use Rattle.asn_core.specs.declared.codec.Codec.TheVariants.{Avn}
use Rattle.asn_coding.proofs.Refusing.{absent}
use Rattle.avn_rules.proofs.Opened.{taken_held, takes_node, head_absent, no_head}
use Rattle.avn_rules.proofs.avn.de.Decoder.take.Goals.{in-Some-Some, in-Some-None, in-None}
use Rattle.avn_rules.proofs.avn.de.Decoder.take.Goals as goal

pub invariant_of-self : goal.invariant_of-self
invariant_of-self c = taken_held c.self.inside.table c.self.inside.pending c.take.new.self c.take.result c.take.ensures c.self.invariant

pub returns : goal.returns
returns c =
    let later = c.take.new.self in elim c.match-take.branch [
      | in-Some-Some w ↦ rw w.result-is (takes_node _ _ _ c.self.view_is _ later (w.in-Some-Some.ensures ∙ ap (λ slot. slot ∷ later) w.in-Some-Some.field-0-is) c.self.invariant)
      | in-Some-None w ↦ rw w.result-is (λ s. absent s _ Avn _ (head_absent _ _ _ c.self.view_is later (w.in-Some-None.ensures ∙ ap (λ slot. slot ∷ later) w.in-Some-None.field-0-is)) refl w.end_of_input.ensures)
      | in-None w ↦ rw w.result-is (λ s. absent s _ Avn _ (no_head _ _ _ c.self.view_is w.in-None.ensures.0) refl w.end_of_input-in-None.ensures)
    ]
