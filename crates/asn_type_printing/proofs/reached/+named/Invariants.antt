use Rattle.std.proofs.Common.{◌≡◌, drop}
use Rattle.asn_model.specs.ShapeView.{alternative_views, field_views}
use Rattle.asn_type_printing.specs.Reached.{alternative_names, field_names_of, with_numbers}
use Rattle.asn_type_printing.proofs.reached.+named.Given as goal

-- With the numbers that the fields which are left name, all are found.
abbrev pub invariant-add_field_names-loop-field : goal.invariant-add_field_names-loop-field
invariant-add_field_names-loop-field l =
    with_numbers l.count l.found.keys (field_names_of (field_views (drop l.field-index l.fields))) ≡ with_numbers l.count l.fn.found.keys (field_names_of (field_views l.fields))

-- The same of alternatives.
abbrev pub invariant-add_alternative_names-loop-alternative : goal.invariant-add_alternative_names-loop-alternative
invariant-add_alternative_names-loop-alternative l =
    with_numbers l.count l.found.keys (alternative_names (alternative_views (drop l.alternative-index l.alternatives))) ≡ with_numbers l.count l.fn.found.keys (alternative_names (alternative_views l.alternatives))
