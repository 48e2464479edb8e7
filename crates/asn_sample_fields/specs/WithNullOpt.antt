-- SEQUENCE { name UTF8String, flag NULL OPTIONAL }
use Rattle.std.specs.Prelude.{[], ◌∷◌, Some, option_map, string_bytes, codes}
use Rattle.asn_traits.specs.Shape.{Shape, Fields, Presence, closed_seq}
use Rattle.asn_traits.specs.Value.{Value}
use Rattle.asn_coding.specs.Writing.{Frame}
use Rattle.asn_coding.specs.Terms.{context, utf8_string}
use Rattle.asn_sample_fields.specs.declared.with_null_opt.WithNullOpt.{WithNullOpt}

-- The fields of WithNullOpt.
abbrev pub with_null_opt_fields : Fields
with_null_opt_fields =
    Fields.field (codes "name") (context 0) Presence.required utf8_string
    (Fields.field (codes "flag") (context 1) Presence.optional Shape.null
    Fields.no_fields)

-- The shape of WithNullOpt.
abbrev pub with_null_opt_shape : Shape
with_null_opt_shape = closed_seq with_null_opt_fields

-- The values of the fields of a WithNullOpt, in order.
abbrev pub with_null_opt_slots : WithNullOpt → Frame
with_null_opt_slots x = Some (Value.text (string_bytes x.name)) ∷ option_map (λ u. Value.null) x.flag ∷ []
