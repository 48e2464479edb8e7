-- CHOICE { Wine INTEGER (0..3) }. The range isn't checked, so the shape has every number of eight bits.
use Rattle.std.specs.Prelude.{pos, codes}
use Rattle.asn_traits.specs.Shape.{Shape, Alternatives, closed_choice}
use Rattle.asn_traits.specs.Value.{Value}
use Rattle.asn_coding.specs.Chosen.{Chosen, chosen, chosen_value}
use Rattle.asn_coding.specs.Terms.{context, unsigned}
use Rattle.asn_sample_choices.specs.declared.inner.Inner.{Inner}
use Rattle.asn_sample_choices.specs.declared.inner.Inner.TheVariants.{Wine}

-- The alternatives of Inner.
abbrev pub inner_alternatives : Alternatives
inner_alternatives = Alternatives.alternative (codes "Wine") (context 0) (unsigned 8) Alternatives.no_alternatives

-- The shape of Inner.
abbrev pub inner_shape : Shape
inner_shape = closed_choice inner_alternatives

-- The alternative of an Inner, and its payload.
abbrev pub inner_chosen : Inner → Chosen
inner_chosen (Wine wine) = chosen 0 (codes "Wine") (unsigned 8) (Value.int (pos wine))

-- The value that it stands for.
abbrev pub inner_value : Inner → Value
inner_value x = chosen_value (inner_chosen x)
