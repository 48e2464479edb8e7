-- CHOICE { Test1 INTEGER (0..255), Test2 UTF8String }
use Rattle.std.specs.Prelude.{pos, string_bytes, codes}
use Rattle.asn_traits.specs.Shape.{Shape, Alternatives, closed_choice}
use Rattle.asn_traits.specs.Value.{Value}
use Rattle.asn_coding.specs.Chosen.{Chosen, chosen}
use Rattle.asn_coding.specs.Terms.{context, unsigned, utf8_string}
use Rattle.asn_sample_choices.specs.declared.simple_choice.SimpleChoice.{SimpleChoice}
use Rattle.asn_sample_choices.specs.declared.simple_choice.SimpleChoice.TheVariants.{Test1, Test2}

-- The alternatives of SimpleChoice.
abbrev pub simple_choice_alternatives : Alternatives
simple_choice_alternatives =
    Alternatives.alternative (codes "Test1") (context 0) (unsigned 8)
    (Alternatives.alternative (codes "Test2") (context 1) utf8_string
    Alternatives.no_alternatives)

-- The shape of SimpleChoice.
abbrev pub simple_choice_shape : Shape
simple_choice_shape = closed_choice simple_choice_alternatives

-- The alternative of a SimpleChoice, and its payload.
abbrev pub simple_choice_chosen : SimpleChoice → Chosen
simple_choice_chosen (Test1 number) = chosen 0 (codes "Test1") (unsigned 8) (Value.int (pos number))
simple_choice_chosen (Test2 text) = chosen 1 (codes "Test2") utf8_string (Value.text (string_bytes text))
