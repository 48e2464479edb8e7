-- SET { mark [1] INTEGER (-2^63..2^63-1), note [0] UTF8String OPTIONAL, ..., extra [2] BOOLEAN OPTIONAL }
use Rattle.std.specs.Prelude.{[], ◌∷◌, Some, option_map, string_bytes, codes}
use Rattle.asn_traits.specs.Shape.{Shape, Fields, FieldAdditions, Presence}
use Rattle.asn_traits.specs.Value.{Value}
use Rattle.asn_coding.specs.Writing.{Frame}
use Rattle.asn_coding.specs.Terms.{context, signed, utf8_string}
use Rattle.asn_by_hand.specs.declared.growing_set.GrowingSet.{GrowingSet}

-- The fields of the root of GrowingSet, as it lists them.
abbrev pub growing_set_fields : Fields
growing_set_fields =
    Fields.field (codes "mark") (context 1) Presence.required (signed 64)
    (Fields.field (codes "note") (context 0) Presence.optional utf8_string
    Fields.no_fields)

-- Its extension addition.
abbrev pub growing_set_added : FieldAdditions
growing_set_added =
    FieldAdditions.extended_fields
    (Fields.field (codes "extra") (context 2) Presence.optional Shape.boolean Fields.no_fields)

-- The values of the fields of a GrowingSet, as it lists them, the extension addition last.
abbrev pub growing_set_slots : GrowingSet → Frame
growing_set_slots x =
    Some (Value.int x.mark) ∷ option_map (λ t. Value.text (string_bytes t)) x.note
    ∷ option_map Value.boolean x.extra ∷ []
