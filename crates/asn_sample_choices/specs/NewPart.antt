-- CHOICE { code INTEGER (0..255), text UTF8String, ..., flag BOOLEAN }
use Rattle.std.specs.Prelude.{pos, string_bytes, codes}
use Rattle.asn_traits.specs.Shape.{Shape, Alternatives, AlternativeAdditions}
use Rattle.asn_traits.specs.Value.{Value}
use Rattle.asn_coding.specs.Chosen.{Chosen, chosen, chosen_value}
use Rattle.asn_coding.specs.Terms.{context, unsigned, utf8_string}
use Rattle.asn_sample_choices.specs.declared.new_part.NewPart.{NewPart}
use Rattle.asn_sample_choices.specs.declared.new_part.NewPart.TheVariants.{Code, Text, Flag}

-- The alternatives of NewPart before the extension marker.
abbrev pub new_part_alternatives : Alternatives
new_part_alternatives =
    Alternatives.alternative (codes "code") (context 0) (unsigned 8)
    (Alternatives.alternative (codes "text") (context 1) utf8_string
    Alternatives.no_alternatives)

-- The alternatives of NewPart after the extension marker.
abbrev pub new_part_added : Alternatives
new_part_added = Alternatives.alternative (codes "flag") (context 2) Shape.boolean Alternatives.no_alternatives

-- The shape of NewPart.
abbrev pub new_part_shape : Shape
new_part_shape = Shape.choice new_part_alternatives (AlternativeAdditions.extended_alternatives new_part_added)

-- The alternative of a NewPart, and its payload.
abbrev pub new_part_chosen : NewPart → Chosen
new_part_chosen (Code number) = chosen 0 (codes "code") (unsigned 8) (Value.int (pos number))
new_part_chosen (Text text) = chosen 1 (codes "text") utf8_string (Value.text (string_bytes text))
new_part_chosen (Flag flag) = chosen 2 (codes "flag") Shape.boolean (Value.boolean flag)

-- The value that it stands for.
abbrev pub new_part_value : NewPart → Value
new_part_value x = chosen_value (new_part_chosen x)
