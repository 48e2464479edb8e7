-- The fields of MarkSet, decoded one at a time.
use Rattle.std.specs.Prelude.{ℕ, Option, Some, codes, option_map, string_bytes}
use Rattle.asn_model.specs.Components.{Component, Standing}
use Rattle.asn_model.specs.Shape.{FieldAdditions, Presence, all_fields}
use Rattle.asn_model.specs.Value.{Value}
use Rattle.asn_sample_fields.specs.MarkSet.{mark_set_fields, mark_set_slots}
use Rattle.asn_sample_fields.specs.declared.mark_set.MarkSet.{MarkSet}
use Rattle.asn_coding.specs.Terms.{context, signed, utf8_string}
use Rattle.asn_coding.specs.Writing.{members_value}
use Rattle.asn_by_hand.specs.declared.mark_fields.MarkField.{MarkField}
use Rattle.asn_by_hand.specs.declared.mark_fields.MarkField.TheVariants.{Mark, Note}

-- The field `mark` as a component.
abbrev pub mark_component : Component
mark_component = record { name = codes "mark"; tag = context 1; presence = Presence.required; shape = signed 64; standing = Standing.root }

-- The field `note` as a component.
abbrev pub note_component : Component
note_component = record { name = codes "note"; tag = context 0; presence = Presence.optional; shape = utf8_string; standing = Standing.root }

-- The place of a field that was decoded.
abbrev pub mark_number : MarkField → ℕ
mark_number (Mark n) = 0
mark_number (Note s) = 1

-- Its slot.
abbrev pub mark_slot : MarkField → Option Value
mark_slot (Mark n) = Some (Value.int n)
mark_slot (Note s) = option_map (λ t. Value.text (string_bytes t)) s

-- The value of a MarkSet.
abbrev pub mark_set_value : MarkSet → Value
mark_set_value x = members_value (all_fields mark_set_fields FieldAdditions.closed_fields) (mark_set_slots x)
