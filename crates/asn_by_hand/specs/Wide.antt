-- A SEQUENCE of nine fields, which are those of three groups.
use Rattle.std.specs.Prelude.{◌++◌}
use Rattle.asn_traits.specs.Shape.{Fields, join_fields}
use Rattle.asn_coding.specs.Writing.{Frame}
use Rattle.asn_by_hand.specs.Groups.{names_fields, names_slots, numbers_fields, numbers_slots, flags_fields, flags_slots}
use Rattle.asn_by_hand.specs.declared.wide.Rest.{Rest}
use Rattle.asn_by_hand.specs.declared.wide.Wide.{Wide}

-- The fields of Rest, a group of two.
abbrev pub rest_fields : Fields
rest_fields = join_fields numbers_fields flags_fields

-- The values of the fields of Rest, in order.
abbrev pub rest_slots : Rest → Frame
rest_slots x = numbers_slots x.numbers ++ flags_slots x.flags

-- The fields of Wide.
abbrev pub wide_fields : Fields
wide_fields = join_fields names_fields rest_fields

-- The values of the fields of a Wide, in order.
abbrev pub wide_slots : Wide → Frame
wide_slots x = names_slots x.names ++ rest_slots x.rest
