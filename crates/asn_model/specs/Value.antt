-- What a Rust value of an ASN.1 type stands for, and what values a shape has.
use Rattle.std.specs.Prelude.{◌≡◌, ℕ, ℤ, pos, ◌+◌, ◌&&◌, nat_eq, List, [], ◌∷◌, ◌++◌, Bool, true, false, not, if◌then◌else◌, Option, Some, None}
use Rattle.std.specs.Str.{bytes_eq}
use Rattle.std.specs.declared.cmp.Ordering.{Ordering}
use Rattle.std.specs.Ordering.{int_cmp, int_eq, match_ordering, nat_cmp, on}
use Rattle.std.specs.Cmp.Lexicographic.{slice_cmp}
use Rattle.avn_grammar.specs.Chars.{all}
use Rattle.avn_grammar.specs.WellFormed.{is_octet, is_arc}
use Rattle.asn_core.specs.ObjectIdentifiers.{is_object_identifier}
use Rattle.asn_core.specs.declared.tag.Tag.{Tag}
use Rattle.asn_strings.specs.Alphabets.{all_within, is_bmp}
use Rattle.asn_times.specs.Held.{is_held_day, is_held_nanosecond, is_held_second}
use Rattle.asn_model.specs.CharacterStrings.{is_string_of}
use Rattle.asn_model.specs.Decimals.{is_decimal}
use Rattle.asn_model.specs.Range.{is_between}
use Rattle.asn_model.specs.Sorting.{sort}
use Rattle.asn_model.specs.Shape.{Shape, SeqKind, Fields, FieldAdditions, Alternatives, AlternativeAdditions, Plain, Presence, all_fields, all_items, all_alternatives, unfold_loop, is_item}

mutual
  -- The abstract value of an ASN.1 type.
  pub data Value : Type 0 where
    null : Value
    boolean : Bool → Value
    int : ℤ → Value
    -- With the size that the type fixes, or none.
    bits : List Bool → Option ℕ → Value
    octets : List ℕ → Value
    arcs : List ℕ → Value
    -- The bytes of a character string.
    text : List ℕ → Value
    -- The 16-bit units of a BMPString.
    units : List ℕ → Value
    -- Seconds since 1970-01-01T00:00:00 in UTC.
    utc : ℤ → Value
    -- Nanoseconds since 1970-01-01T00:00:00 in UTC.
    gen : ℤ → Value
    -- Days since 1970-01-01.
    day : ℤ → Value
    item : List ℕ → Value
    members : Slots → Value
    list : Values → Value
    -- Sorted, repeats kept.
    bag : Values → Value
    choice : List ℕ → Value → Value

  -- The elements of a list, in order.
  pub data Values : Type 0 where
    no_values : Values
    value : Value → Values → Values

  -- The members of a sequence, in order, each absent or present.
  pub data Slots : Type 0 where
    no_slots : Slots
    absent : List ℕ → Slots → Slots
    present : List ℕ → Value → Slots → Slots

-- The number of parts of a value, itself included.
abbrev mutual
  pub nodes : Value → ℕ
  nodes Value.null = 1
  nodes (Value.boolean b) = 1
  nodes (Value.int n) = 1
  nodes (Value.bits bs n) = 1
  nodes (Value.octets o) = 1
  nodes (Value.arcs a) = 1
  nodes (Value.text t) = 1
  nodes (Value.units u) = 1
  nodes (Value.utc n) = 1
  nodes (Value.gen n) = 1
  nodes (Value.day n) = 1
  nodes (Value.item i) = 1
  nodes (Value.members ms) = 1 + nodes_slots ms
  nodes (Value.list vs) = 1 + nodes_values vs
  nodes (Value.bag vs) = 1 + nodes_values vs
  nodes (Value.choice i v) = 1 + nodes v

  -- The nodes of all elements.
  pub nodes_values : Values → ℕ
  nodes_values Values.no_values = 0
  nodes_values (Values.value v vs) = nodes v + nodes_values vs

  -- The nodes of all present members.
  pub nodes_slots : Slots → ℕ
  nodes_slots Slots.no_slots = 0
  nodes_slots (Slots.absent n ms) = nodes_slots ms
  nodes_slots (Slots.present n v ms) = nodes v + nodes_slots ms

-- The bits with this size as the one that their type fixes.
abbrev pub marked : Option ℕ → Value → Value
marked n (Value.bits bs m) = Value.bits bs n
marked n v = v

-- The value of a type of this shape under constraints that fix this size, or none.
abbrev pub value_under : Option ℕ → Shape → Value → Value
value_under n (Shape.bits m) v = marked n v
value_under n s v = v

-- The values that f gives of the items.
abbrev pub values : {A : Type 0} → (A → Value) → List A → Values
values f [] = Values.no_values
values f (x ∷ xs) = Values.value (f x) (values f xs)

-- The elements as a list.
abbrev pub elements : Values → List Value
elements Values.no_values = []
elements (Values.value v vs) = v ∷ elements vs

-- A flag as a number.
abbrev pub flag_number : Bool → ℤ
flag_number b = if b then pos 1 else pos 0

-- Numbers one after another: 1 before each, and 0 after the last, so that a list comes before its extensions.
abbrev pub number_row : List ℕ → List ℤ
number_row [] = pos 0 ∷ []
number_row (n ∷ ns) = pos 1 ∷ pos n ∷ number_row ns

-- Bits in the same way.
abbrev pub bit_row : List Bool → List ℤ
bit_row [] = pos 0 ∷ []
bit_row (b ∷ bs) = pos 1 ∷ flag_number b ∷ bit_row bs

-- A size: 0 where there is none, and else 1 and the size.
abbrev pub size_row : Option ℕ → List ℤ
size_row None = pos 0 ∷ []
size_row (Some n) = pos 1 ∷ pos n ∷ []

abbrev mutual
  -- A value as a row of whole numbers: the number of its kind, and then its contents from left to right.
  pub value_row : Value → List ℤ
  value_row Value.null = pos 0 ∷ []
  value_row (Value.boolean b) = pos 1 ∷ flag_number b ∷ []
  value_row (Value.int n) = pos 2 ∷ n ∷ []
  value_row (Value.bits bs size) = pos 3 ∷ (bit_row bs ++ size_row size)
  value_row (Value.octets o) = pos 4 ∷ number_row o
  value_row (Value.arcs a) = pos 5 ∷ number_row a
  value_row (Value.text t) = pos 6 ∷ number_row t
  value_row (Value.units u) = pos 7 ∷ number_row u
  value_row (Value.utc n) = pos 8 ∷ n ∷ []
  value_row (Value.gen n) = pos 9 ∷ n ∷ []
  value_row (Value.day n) = pos 10 ∷ n ∷ []
  value_row (Value.item i) = pos 11 ∷ number_row i
  value_row (Value.members ms) = pos 12 ∷ member_row ms
  value_row (Value.list vs) = pos 13 ∷ element_row vs
  value_row (Value.bag vs) = pos 14 ∷ element_row vs
  value_row (Value.choice i v) = pos 15 ∷ (number_row i ++ value_row v)

  -- Elements one after another: 1 before each, and 0 after the last.
  pub element_row : Values → List ℤ
  element_row Values.no_values = pos 0 ∷ []
  element_row (Values.value v vs) = pos 1 ∷ (value_row v ++ element_row vs)

  -- Members in the same way: the name, and then 0 where the member is absent, and 1 before one that is present.
  pub member_row : Slots → List ℤ
  member_row Slots.no_slots = pos 0 ∷ []
  member_row (Slots.absent n ms) = pos 1 ∷ (number_row n ++ pos 0 ∷ member_row ms)
  member_row (Slots.present n v ms) = pos 1 ∷ (number_row n ++ pos 1 ∷ (value_row v ++ member_row ms))

-- The one total order on values: by kind, then by contents from left to right, numbers by size, absent before present, and a list before its extensions.
unfoldable pub value_cmp : Value → Value → Ordering
value_cmp = on value_row (slice_cmp int_cmp)

-- The values in an order, repeats kept.
abbrev pub ordered_by : (Value → Value → Ordering) → Values → Values
ordered_by cmp vs = values (λ v. v) (sort cmp (elements vs))

-- The values in their own order, repeats kept.
abbrev pub sort_values : Values → Values
sort_values vs = ordered_by value_cmp vs

-- The value of a SET OF with these elements, in whatever order they are.
abbrev pub bag_of : Values → Value
bag_of vs = Value.bag (sort_values vs)

-- The key of a table's entry: the text of its first member.
abbrev pub key_of : Value → List ℕ
key_of (Value.members (Slots.present n (Value.text key) ms)) = key
key_of v = []

-- Entries in byte order of their keys, with e at the place of its key, where it takes the place of one that has the same key.
abbrev pub put_entry : Value → Values → Values
put_entry e Values.no_values = Values.value e Values.no_values
put_entry e (Values.value f fs) = match_ordering (slice_cmp nat_cmp (key_of e) (key_of f)) (Values.value e (Values.value f fs)) (Values.value e fs) (Values.value f (put_entry e fs))

-- The entries, with these put at their keys one after another.
abbrev pub put_entries : Values → Values → Values
put_entries found Values.no_values = found
put_entries found (Values.value e es) = put_entries (put_entry e found) es

-- The last entry of each key, in byte order of keys: what a table decodes to of what its list decodes to.
abbrev pub table_of : Values → Values
table_of es = put_entries Values.no_values es

-- The key of each entry is above this one.
abbrev pub are_above : List ℕ → Values → Bool
are_above key Values.no_values = true
are_above key (Values.value e es) = match_ordering (slice_cmp nat_cmp key (key_of e)) true false false && are_above key es

-- The keys rise strictly, by bytes: each has one entry, and entries are in their order.
abbrev pub keys_rise : Values → Bool
keys_rise Values.no_values = true
keys_rise (Values.value e es) = are_above (key_of e) es && keys_rise es

-- The value is the one that a DEFAULT names.
abbrev pub is_plain : Plain → Value → Bool
is_plain (Plain.boolean true) (Value.boolean c) = c
is_plain (Plain.boolean false) (Value.boolean c) = not c
is_plain (Plain.int m) (Value.int n) = int_eq m n
is_plain (Plain.text s) (Value.text t) = bytes_eq s t
is_plain (Plain.item i) (Value.item j) = bytes_eq i j
is_plain _ _ = false

-- A field with this value is written and not left out.
abbrev pub is_kept : Presence → Value → Bool
is_kept (Presence.default d) v = not (is_plain d v)
is_kept p v = true

-- A field may be absent.
abbrev pub may_lack : Presence → Bool
may_lack Presence.required = false
may_lack _ = true

-- The members with a field's value in front, which is absent where it is the field's default.
abbrev pub with_field : Presence → List ℕ → Value → Slots → Slots
with_field p name v vs = if is_kept p v then Slots.present name v vs else Slots.absent name vs

-- The sizes are the same, or there is none in either place.
abbrev pub is_same_size : Option ℕ → Option ℕ → Bool
is_same_size None None = true
is_same_size (Some m) (Some n) = nat_eq m n
is_same_size m n = false

-- The value is one of the shape, whose values have no parts.
abbrev pub is_leaf_of : Shape → Value → Bool
is_leaf_of Shape.null Value.null = true
is_leaf_of Shape.boolean (Value.boolean b) = true
is_leaf_of (Shape.int least greatest width) (Value.int n) = is_between least greatest n
is_leaf_of (Shape.text a) (Value.text t) = is_string_of a t
is_leaf_of Shape.bmp (Value.units u) = all_within is_bmp u
is_leaf_of Shape.utc (Value.utc n) = is_held_second n
is_leaf_of Shape.gen (Value.gen n) = is_held_nanosecond n
is_leaf_of Shape.day (Value.day n) = is_held_day n
is_leaf_of Shape.decimal (Value.text t) = is_decimal t
is_leaf_of (Shape.enum items added) (Value.item i) = is_item (all_items items added) i
is_leaf_of Shape.octets (Value.octets o) = all is_octet o
is_leaf_of Shape.any (Value.octets o) = all is_octet o
is_leaf_of Shape.oid (Value.arcs a) = all is_arc a && is_object_identifier a
is_leaf_of (Shape.bits m) (Value.bits bs n) = is_same_size m n
is_leaf_of s v = false

mutual
  -- The value is one of the shape.
  pub data Fits : Shape → Value → Type 0 where
    fits_leaf : {s : Shape} {v : Value} → is_leaf_of s v ≡ true → Fits s v
    fits_members : {kind : SeqKind} {fs : Fields} {added : FieldAdditions} {ms : Slots} → FitsFields (all_fields fs added) ms → Fits (Shape.seq kind fs added) (Value.members ms)
    fits_list : {s : Shape} {vs : Values} → FitsEach s vs → Fits (Shape.list_of s) (Value.list vs)
    -- Each multiset is one value, whose elements are in order.
    fits_set : {s : Shape} {vs : Values} → FitsEach s vs → sort_values vs ≡ vs → Fits (Shape.set_of s) (Value.bag vs)
    fits_table : {s : Shape} {vs : Values} → FitsEach s vs → keys_rise vs ≡ true → Fits (Shape.table s) (Value.list vs)
    fits_choice : {alts : Alternatives} {added : AlternativeAdditions} {i : List ℕ} {v : Value} → FitsAlternative (all_alternatives alts added) i v → Fits (Shape.choice alts added) (Value.choice i v)
    fits_loop : {b : Shape} {v : Value} → Fits (unfold_loop b) v → Fits (Shape.loop b) v

  -- Each element is a value of the shape.
  pub data FitsEach : Shape → Values → Type 0 where
    fits_none : {s : Shape} → FitsEach s Values.no_values
    fits_one : {s : Shape} {v : Value} {vs : Values} → Fits s v → FitsEach s vs → FitsEach s (Values.value v vs)

  -- Each field's slot is absent where it may be, or has a value of the field's shape that isn't its default.
  pub data FitsFields : Fields → Slots → Type 0 where
    fits_end : FitsFields Fields.no_fields Slots.no_slots
    fits_present : {n : List ℕ} {t : Tag} {p : Presence} {s : Shape} {fs : Fields} {v : Value} {ms : Slots} → Fits s v → is_kept p v ≡ true → FitsFields fs ms
        → FitsFields (Fields.field n t p s fs) (Slots.present n v ms)
    fits_absent : {n : List ℕ} {t : Tag} {p : Presence} {s : Shape} {fs : Fields} {ms : Slots} → may_lack p ≡ true → FitsFields fs ms → FitsFields (Fields.field n t p s fs) (Slots.absent n ms)

  -- The payload is a value of the alternative of that identifier.
  pub data FitsAlternative : Alternatives → List ℕ → Value → Type 0 where
    fits_here : {i : List ℕ} {t : Tag} {s : Shape} {alts : Alternatives} {v : Value} → Fits s v → FitsAlternative (Alternatives.alternative i t s alts) i v
    fits_later : {i j : List ℕ} {t : Tag} {s : Shape} {alts : Alternatives} {v : Value} → FitsAlternative alts i v → FitsAlternative (Alternatives.alternative j t s alts) i v
