use Rattle.std.proofs.Common.{◌≡◌, ◌++◌, drop, map, string_bytes}
use Rattle.asn_model.specs.ShapeView.{alternative_views, field_views}
use Rattle.asn_type_printing.specs.Levels.{level_of}
use Rattle.asn_type_printing.specs.Printed.{alternative_lines, field_lines}
use Rattle.asn_type_printing.proofs.write.+write.Given as goal

-- What is written and the lines of the fields that are left are all.
abbrev pub invariant-write_fields-loop-field : goal.invariant-write_fields-loop-field
invariant-write_fields-loop-field l =
    string_bytes l.out ++ field_lines (map string_bytes l.names) (level_of l.level) l.is_first (field_views (drop l.field-index l.fields)) ≡ string_bytes l.fn.out ++ field_lines (map string_bytes l.names) (level_of l.level) l.first (field_views l.fields)

-- The same of alternatives.
abbrev pub invariant-write_alternatives-loop-alternative : goal.invariant-write_alternatives-loop-alternative
invariant-write_alternatives-loop-alternative l =
    string_bytes l.out ++ alternative_lines (map string_bytes l.names) (level_of l.level) l.is_first (alternative_views (drop l.alternative-index l.alternatives))
    ≡ string_bytes l.fn.out ++ alternative_lines (map string_bytes l.names) (level_of l.level) l.first (alternative_views l.alternatives)
