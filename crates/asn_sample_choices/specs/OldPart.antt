-- CHOICE { code INTEGER (0..255), text UTF8String, ... }
use Rattle.std.specs.Prelude.{pos, string_bytes, codes}
use Rattle.asn_traits.specs.Shape.{Shape, Alternatives, AlternativeAdditions}
use Rattle.asn_traits.specs.Value.{Value}
use Rattle.asn_coding.specs.Chosen.{Chosen, chosen, chosen_value}
use Rattle.asn_coding.specs.Terms.{context, unsigned, utf8_string}
use Rattle.asn_sample_choices.specs.declared.old_part.OldPart.{OldPart}
use Rattle.asn_sample_choices.specs.declared.old_part.OldPart.TheVariants.{Code, Text}

-- The alternatives of OldPart before the extension marker. After it there are none.
abbrev pub old_part_alternatives : Alternatives
old_part_alternatives =
    Alternatives.alternative (codes "code") (context 0) (unsigned 8)
    (Alternatives.alternative (codes "text") (context 1) utf8_string
    Alternatives.no_alternatives)

-- The shape of OldPart.
abbrev pub old_part_shape : Shape
old_part_shape = Shape.choice old_part_alternatives (AlternativeAdditions.extended_alternatives Alternatives.no_alternatives)

-- The alternative of an OldPart, and its payload.
abbrev pub old_part_chosen : OldPart → Chosen
old_part_chosen (Code number) = chosen 0 (codes "code") (unsigned 8) (Value.int (pos number))
old_part_chosen (Text text) = chosen 1 (codes "text") utf8_string (Value.text (string_bytes text))

-- The value that it stands for.
abbrev pub old_part_value : OldPart → Value
old_part_value x = chosen_value (old_part_chosen x)
