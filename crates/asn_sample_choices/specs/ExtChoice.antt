-- CHOICE { Test1 INTEGER (0..255), Test2 UTF8String, ..., Test3 BOOLEAN }
use Rattle.std.specs.Prelude.{pos, string_bytes, codes}
use Rattle.asn_traits.specs.Shape.{Shape, Alternatives, AlternativeAdditions}
use Rattle.asn_traits.specs.Value.{Value}
use Rattle.asn_coding.specs.Chosen.{Chosen, chosen}
use Rattle.asn_coding.specs.Terms.{context, unsigned, utf8_string}
use Rattle.asn_sample_choices.specs.declared.ext_choice.ExtChoice.{ExtChoice}
use Rattle.asn_sample_choices.specs.declared.ext_choice.ExtChoice.TheVariants.{Test1, Test2, Test3}

-- The alternatives of ExtChoice before the extension marker.
abbrev pub ext_choice_alternatives : Alternatives
ext_choice_alternatives =
    Alternatives.alternative (codes "Test1") (context 0) (unsigned 8)
    (Alternatives.alternative (codes "Test2") (context 1) utf8_string
    Alternatives.no_alternatives)

-- The alternatives of ExtChoice after the extension marker.
abbrev pub ext_choice_added : Alternatives
ext_choice_added = Alternatives.alternative (codes "Test3") (context 2) Shape.boolean Alternatives.no_alternatives

-- The shape of ExtChoice.
abbrev pub ext_choice_shape : Shape
ext_choice_shape = Shape.choice ext_choice_alternatives (AlternativeAdditions.extended_alternatives ext_choice_added)

-- The alternative of an ExtChoice, and its payload.
abbrev pub ext_choice_chosen : ExtChoice → Chosen
ext_choice_chosen (Test1 number) = chosen 0 (codes "Test1") (unsigned 8) (Value.int (pos number))
ext_choice_chosen (Test2 text) = chosen 1 (codes "Test2") utf8_string (Value.text (string_bytes text))
ext_choice_chosen (Test3 flag) = chosen 2 (codes "Test3") Shape.boolean (Value.boolean flag)
