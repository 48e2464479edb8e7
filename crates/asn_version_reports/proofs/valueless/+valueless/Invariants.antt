use Rattle.std.proofs.Common.{◌≡◌, ◌++◌, map, string_bytes, drop}
use Rattle.asn_model.specs.ShapeView.{alternative_views, field_views}
use Rattle.asn_version_reports.specs.Paths.{behind, path_steps, path_text}
use Rattle.asn_version_reports.specs.Valueless.{alternative_valueless, field_valueless}
use Rattle.asn_version_reports.proofs.valueless.+valueless.Given as goal

-- What is found so far and is in the fields that are left is all.
abbrev pub invariant-add_valueless_fields-loop-field : goal.invariant-add_valueless_fields-loop-field
invariant-add_valueless_fields-loop-field l =
    map string_bytes l.found.items ++ map path_text (behind (path_steps l.path) (field_valueless (field_views (drop l.field-index l.fields))))
    ≡ map string_bytes l.fn.found.items ++ map path_text (behind (path_steps l.path) (field_valueless (field_views l.fields)))

-- The same of alternatives.
abbrev pub invariant-add_valueless_alternatives-loop-alternative : goal.invariant-add_valueless_alternatives-loop-alternative
invariant-add_valueless_alternatives-loop-alternative l =
    map string_bytes l.found.items ++ map path_text (behind (path_steps l.path) (alternative_valueless (alternative_views (drop l.alternative-index l.alternatives))))
    ≡ map string_bytes l.fn.found.items ++ map path_text (behind (path_steps l.path) (alternative_valueless (alternative_views l.alternatives)))
