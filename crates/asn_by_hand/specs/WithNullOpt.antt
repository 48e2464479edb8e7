-- WithNullOpt, decoded field by field.
use Rattle.asn_model.specs.Shape.{FieldAdditions, all_fields}
use Rattle.asn_model.specs.Value.{Value}
use Rattle.asn_sample_fields.specs.WithNullOpt.{with_null_opt_fields, with_null_opt_slots}
use Rattle.asn_sample_fields.specs.declared.with_null_opt.WithNullOpt.{WithNullOpt}
use Rattle.asn_coding.specs.Writing.{members_value}

-- The value of a WithNullOpt.
abbrev pub with_null_opt_value : WithNullOpt → Value
with_null_opt_value x = members_value (all_fields with_null_opt_fields FieldAdditions.closed_fields) (with_null_opt_slots x)
