use Rattle.std.proofs.Common.{ap, ◌∙◌}
use Rattle.std.specs.Prelude.{option_map}
use Rattle.asn_slots.specs.Trees.{trees_of}
use Rattle.asn_traits.specs.Tree.{head_slot}
use Rattle.jer_rules.specs.Pending.{tree_of}
use Rattle.jer_rules.proofs.jer.de.Decoder.take_present.Goals as goal

pub returns-in-Some-None : goal.returns-in-Some-None
returns-in-Some-None c = ap (λ l. head_slot (trees_of tree_of l)) c.in-Some-None.ensures ∙ ap (option_map tree_of) c.in-Some-None.field-0-is

pub returns-in-None : goal.returns-in-None
returns-in-None c = ap (λ l. head_slot (trees_of tree_of l)) c.in-None.ensures.0
