-- The fields of Wide, in three groups.
use Rattle.std.specs.Prelude.{[], ◌∷◌, Some, option_map, pos, string_bytes, codes}
use Rattle.asn_traits.specs.Shape.{Shape, Fields, Presence}
use Rattle.asn_traits.specs.Value.{Value}
use Rattle.asn_coding.specs.Writing.{Frame}
use Rattle.asn_coding.specs.Terms.{context, signed, unsigned, utf8_string}
use Rattle.asn_by_hand.specs.declared.groups.Names.{Names}
use Rattle.asn_by_hand.specs.declared.groups.Numbers.{Numbers}
use Rattle.asn_by_hand.specs.declared.groups.Flags.{Flags}

-- The fields of Names.
abbrev pub names_fields : Fields
names_fields =
    Fields.field (codes "family") (context 0) Presence.required utf8_string
    (Fields.field (codes "given") (context 1) Presence.required utf8_string
    (Fields.field (codes "nick") (context 2) Presence.optional utf8_string
    Fields.no_fields))

-- The values of the fields of Names, in order.
abbrev pub names_slots : Names → Frame
names_slots x =
    Some (Value.text (string_bytes x.family)) ∷ Some (Value.text (string_bytes x.given))
    ∷ option_map (λ t. Value.text (string_bytes t)) x.nick ∷ []

-- The fields of Numbers.
abbrev pub numbers_fields : Fields
numbers_fields =
    Fields.field (codes "age") (context 3) Presence.required (unsigned 8)
    (Fields.field (codes "code") (context 4) Presence.required (signed 64)
    (Fields.field (codes "size") (context 5) Presence.optional (unsigned 8)
    Fields.no_fields))

-- The values of the fields of Numbers, in order.
abbrev pub numbers_slots : Numbers → Frame
numbers_slots x =
    Some (Value.int (pos x.age)) ∷ Some (Value.int x.code)
    ∷ option_map (λ n. Value.int (pos n)) x.size ∷ []

-- The fields of Flags.
abbrev pub flags_fields : Fields
flags_fields =
    Fields.field (codes "active") (context 6) Presence.required Shape.boolean
    (Fields.field (codes "hidden") (context 7) Presence.optional Shape.boolean
    (Fields.field (codes "mark") (context 8) Presence.optional Shape.null
    Fields.no_fields))

-- The values of the fields of Flags, in order.
abbrev pub flags_slots : Flags → Frame
flags_slots x =
    Some (Value.boolean x.active) ∷ option_map Value.boolean x.hidden
    ∷ option_map (λ u. Value.null) x.mark ∷ []
