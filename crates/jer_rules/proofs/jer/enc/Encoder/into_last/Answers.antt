use Rattle.std.proofs.Common.{ap, ◌∙◌, sym}
use Rattle.std.specs.Prelude.{option_map}
use Rattle.jer_values.specs.Views.{data_of}
use Rattle.asn_slots.proofs.Trees.{last_same, last_none}
use Rattle.asn_traits.specs.Canonical.{jer_data}
use Rattle.jer_rules.proofs.jer.enc.Encoder.into_last.Goals as goal

pub returns-in-Some-clause-tree : goal.returns-in-Some-clause-tree
returns-in-Some-clause-tree c = λ f fs h. last_same jer_data data_of _ _ _ f fs c.in-Some.ensures.1 h ∙ ap (option_map data_of) (sym c.in-Some.ensures.2)

pub returns-clause-none : goal.returns-clause-none
returns-clause-none c = λ f fs h. last_none jer_data data_of _ _ _ f fs c.in-None.ensures.1 h c.in-None.ensures.2
