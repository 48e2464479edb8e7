-- Why two shapes differ at a node, aside from what their parts are.
use Rattle.std.specs.Prelude.{ℕ, List, [], ◌∷◌, length, Bool, true, false, ◌&&◌, nat_eq, not, Option, Some, None}
use Rattle.std.specs.Ordering.{int_eq}
use Rattle.std.specs.Str.{bytes_eq}
use Rattle.asn_model.specs.CharacterStrings.{alphabet_number}
use Rattle.asn_model.specs.Shape.{Shape, SeqKind, Fields, FieldAdditions, Alternatives, AlternativeAdditions, Plain, Presence, field_names, identifiers, tags, tag_eq}
use Rattle.asn_growth.specs.Parts.{added_alternatives, added_fields, added_items, field_tags, presences, root_alternatives, root_fields, root_items}
use Rattle.asn_growth.specs.declared.reasons.Reason.{Reason}
use Rattle.asn_growth.specs.declared.reasons.Reason.TheVariants as reason

-- The place of a shape's kind among the kinds.
abbrev pub kind_number : Shape → ℕ
kind_number Shape.null = 0
kind_number Shape.boolean = 1
kind_number (Shape.int least greatest width) = 2
kind_number (Shape.bits size) = 3
kind_number Shape.octets = 4
kind_number Shape.any = 5
kind_number Shape.oid = 6
kind_number (Shape.text a) = 7
kind_number Shape.bmp = 8
kind_number Shape.utc = 9
kind_number Shape.gen = 10
kind_number Shape.day = 11
kind_number Shape.decimal = 12
kind_number (Shape.enum items added) = 13
kind_number (Shape.seq kind fs added) = 14
kind_number (Shape.list_of s) = 15
kind_number (Shape.set_of s) = 16
kind_number (Shape.table s) = 17
kind_number (Shape.choice alts added) = 18
kind_number (Shape.loop s) = 19
kind_number (Shape.back k) = 20

-- The kind is that of a SET.
abbrev pub is_set_kind : SeqKind → Bool
is_set_kind SeqKind.sequence = false
is_set_kind SeqKind.set = true

-- The shape is that of a SET, and not of a SEQUENCE.
abbrev pub is_set : Shape → Bool
is_set (Shape.seq kind fs added) = is_set_kind kind
is_set s = false

-- Both hold, or neither does.
abbrev pub same_flag : Bool → Bool → Bool
same_flag true c = c
same_flag false c = not c

-- The kinds are the same. SEQUENCE and SET are two.
abbrev pub same_kind : Shape → Shape → Bool
same_kind s t = nat_eq (kind_number s) (kind_number t) && same_flag (is_set s) (is_set t)

-- The sizes are the same, or there is none.
abbrev pub same_size : Option ℕ → Option ℕ → Bool
same_size None None = true
same_size (Some n) (Some m) = nat_eq n m
same_size n m = false

-- Shapes of one kind have the same bounds and width, the same fixed size, the same alphabet, or mean the same loop.
abbrev pub same_numbers : Shape → Shape → Bool
same_numbers (Shape.int least greatest width) (Shape.int low high bits) = (int_eq least low && int_eq greatest high) && nat_eq width bits
same_numbers (Shape.bits n) (Shape.bits m) = same_size n m
same_numbers (Shape.text a) (Shape.text b) = nat_eq (alphabet_number a) (alphabet_number b)
same_numbers (Shape.back j) (Shape.back k) = nat_eq j k
same_numbers s t = true

-- The second list begins with the first.
abbrev pub begins : {A : Type 0} → (A → A → Bool) → List A → List A → Bool
begins same [] ys = true
begins same (x ∷ xs) [] = false
begins same (x ∷ xs) (y ∷ ys) = same x y && begins same xs ys

-- The lists are the same.
abbrev pub alike : {A : Type 0} → (A → A → Bool) → List A → List A → Bool
alike same xs ys = nat_eq (length xs) (length ys) && begins same xs ys

-- The values of two DEFAULTs are the same.
abbrev pub same_plain : Plain → Plain → Bool
same_plain (Plain.boolean b) (Plain.boolean c) = same_flag b c
same_plain (Plain.int n) (Plain.int m) = int_eq n m
same_plain (Plain.text t) (Plain.text u) = bytes_eq t u
same_plain (Plain.item i) (Plain.item j) = bytes_eq i j
same_plain p q = false

-- Both have to be present, or both may be absent and the same stands for them.
abbrev pub same_presence : Presence → Presence → Bool
same_presence Presence.required Presence.required = true
same_presence Presence.optional Presence.optional = true
same_presence (Presence.default p) (Presence.default q) = same_plain p q
same_presence p q = false

-- The root has the same names, identifiers or items.
abbrev pub same_names : Shape → Shape → Bool
same_names s t =
    alike bytes_eq (root_items s) (root_items t)
    && (alike bytes_eq (field_names (root_fields s)) (field_names (root_fields t)) && alike bytes_eq (identifiers (root_alternatives s)) (identifiers (root_alternatives t)))

-- The root has the same tags.
abbrev pub same_tags : Shape → Shape → Bool
same_tags s t = alike tag_eq (field_tags (root_fields s)) (field_tags (root_fields t)) && alike tag_eq (tags (root_alternatives s)) (tags (root_alternatives t))

-- The root has the same fields that may be absent, and the same stands for them.
abbrev pub same_presences : Shape → Shape → Bool
same_presences s t = alike same_presence (presences (root_fields s)) (presences (root_fields t))

-- There is an extension marker.
abbrev pub is_extensible : Shape → Bool
is_extensible (Shape.enum items (Some added)) = true
is_extensible (Shape.seq kind fs (FieldAdditions.extended_fields added)) = true
is_extensible (Shape.choice alts (AlternativeAdditions.extended_alternatives added)) = true
is_extensible s = false

-- Both have an extension marker, or neither has.
abbrev pub same_marker : Shape → Shape → Bool
same_marker s t = same_flag (is_extensible s) (is_extensible t)

-- The added fields begin with those that were added before, each with its name, tag and presence.
abbrev pub begins_fields : Fields → Fields → Bool
begins_fields fs gs = begins bytes_eq (field_names fs) (field_names gs) && (begins tag_eq (field_tags fs) (field_tags gs) && begins same_presence (presences fs) (presences gs))

-- The added alternatives begin with those that were added before, each with its identifier and tag.
abbrev pub begins_alternatives : Alternatives → Alternatives → Bool
begins_alternatives alts bs = begins bytes_eq (identifiers alts) (identifiers bs) && begins tag_eq (tags alts) (tags bs)

-- The additions begin with those that were added before.
abbrev pub begins_additions : Shape → Shape → Bool
begins_additions s t = begins bytes_eq (added_items s) (added_items t) && (begins_fields (added_fields s) (added_fields t) && begins_alternatives (added_alternatives s) (added_alternatives t))

-- The reason where the test fails, and else the next one.
abbrev pub unless : Bool → Reason → Option Reason → Option Reason
unless true r next = next
unless false r next = Some r

-- The first reason for which the second shape is no later version of the first, aside from their parts.
abbrev pub reason_of : Shape → Shape → Option Reason
reason_of s t =
    unless (same_kind s t) reason.Kind
    (unless (same_numbers s t) reason.Numbers
    (unless (same_names s t) reason.Names
    (unless (same_tags s t) reason.Tags
    (unless (same_presences s t) reason.Presence
    (unless (same_marker s t) reason.Extensible
    (unless (begins_additions s t) reason.Additions None))))))
