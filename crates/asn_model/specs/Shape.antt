-- The shape of a type: what ASN.1 says of its values.
use Rattle.std.specs.Prelude.{ℕ, zero, suc, ℤ, List, [], ◌∷◌, ◌++◌, Bool, true, false, nat_eq, ◌&&◌, if◌then◌else◌, Option, Some, None, option_map}
use Rattle.std.specs.Str.{bytes_eq}
use Rattle.asn_core.specs.declared.tag.Class.{Class}
use Rattle.asn_core.specs.declared.tag.Class.TheVariants.{Universal, Application, Context, Private}
use Rattle.asn_core.specs.declared.tag.Tag.{Tag}

-- The characters of a string type.
pub data Alphabet : Type 0 where
  numeric : Alphabet
  printable : Alphabet
  visible : Alphabet
  ia5 : Alphabet
  utf8 : Alphabet
  universal : Alphabet
  general : Alphabet
  graphic : Alphabet

-- Whether fields come in their order or by their tags.
pub data SeqKind : Type 0 where
  sequence : SeqKind
  set : SeqKind

-- The value that a DEFAULT names.
pub data Plain : Type 0 where
  boolean : Bool → Plain
  int : ℤ → Plain
  text : List ℕ → Plain
  item : List ℕ → Plain

-- Whether a field may be absent, and what then stands for it.
pub data Presence : Type 0 where
  required : Presence
  optional : Presence
  default : Plain → Presence

mutual
  -- The kind of a type, with its parts.
  pub data Shape : Type 0 where
    null : Shape
    boolean : Shape
    -- From the least to the greatest, in so many bits.
    int : ℤ → ℤ → ℕ → Shape
    -- With a fixed number of bits, or with any.
    bits : Option ℕ → Shape
    octets : Shape
    any : Shape
    oid : Shape
    text : Alphabet → Shape
    bmp : Shape
    utc : Shape
    gen : Shape
    day : Shape
    -- A number from 2^63 to 2^64-1, as its digits.
    decimal : Shape
    -- The items, and those that were added.
    enum : List (List ℕ) → Option (List (List ℕ)) → Shape
    seq : SeqKind → Fields → FieldAdditions → Shape
    list_of : Shape → Shape
    set_of : Shape → Shape
    -- A list of entries in which the last one of a key counts.
    table : Shape → Shape
    choice : Alternatives → AlternativeAdditions → Shape
    loop : Shape → Shape
    -- The k-th loop around it.
    back : ℕ → Shape

  -- Name, smallest tag, presence and shape of each field.
  pub data Fields : Type 0 where
    no_fields : Fields
    field : List ℕ → Tag → Presence → Shape → Fields → Fields

  -- The fields after the extension marker, if there is one.
  pub data FieldAdditions : Type 0 where
    closed_fields : FieldAdditions
    extended_fields : Fields → FieldAdditions

  -- Identifier, smallest tag and shape of each alternative.
  pub data Alternatives : Type 0 where
    no_alternatives : Alternatives
    alternative : List ℕ → Tag → Shape → Alternatives → Alternatives

  -- The alternatives after the extension marker, if there is one.
  pub data AlternativeAdditions : Type 0 where
    closed_alternatives : AlternativeAdditions
    extended_alternatives : Alternatives → AlternativeAdditions

-- The shape with r in the place of each `back` that means the k-th loop around it.
abbrev mutual
  pub fill : Shape → ℕ → Shape → Shape
  fill Shape.null k r = Shape.null
  fill Shape.boolean k r = Shape.boolean
  fill (Shape.int a b w) k r = Shape.int a b w
  fill (Shape.bits n) k r = Shape.bits n
  fill Shape.octets k r = Shape.octets
  fill Shape.any k r = Shape.any
  fill Shape.oid k r = Shape.oid
  fill (Shape.text a) k r = Shape.text a
  fill Shape.bmp k r = Shape.bmp
  fill Shape.utc k r = Shape.utc
  fill Shape.gen k r = Shape.gen
  fill Shape.day k r = Shape.day
  fill Shape.decimal k r = Shape.decimal
  fill (Shape.enum items added) k r = Shape.enum items added
  fill (Shape.seq kind fs added) k r = Shape.seq kind (fill_fields fs k r) (fill_added_fields added k r)
  fill (Shape.list_of s) k r = Shape.list_of (fill s k r)
  fill (Shape.set_of s) k r = Shape.set_of (fill s k r)
  fill (Shape.table s) k r = Shape.table (fill s k r)
  fill (Shape.choice alts added) k r = Shape.choice (fill_alternatives alts k r) (fill_added_alternatives added k r)
  fill (Shape.loop s) k r = Shape.loop (fill s (suc k) r)
  fill (Shape.back j) k r = if nat_eq j k then r else Shape.back j

  -- The fields, filled in the same way.
  pub fill_fields : Fields → ℕ → Shape → Fields
  fill_fields Fields.no_fields k r = Fields.no_fields
  fill_fields (Fields.field n t p s fs) k r = Fields.field n t p (fill s k r) (fill_fields fs k r)

  -- The extension additions, filled in the same way.
  pub fill_added_fields : FieldAdditions → ℕ → Shape → FieldAdditions
  fill_added_fields FieldAdditions.closed_fields k r = FieldAdditions.closed_fields
  fill_added_fields (FieldAdditions.extended_fields fs) k r = FieldAdditions.extended_fields (fill_fields fs k r)

  -- The alternatives, filled in the same way.
  pub fill_alternatives : Alternatives → ℕ → Shape → Alternatives
  fill_alternatives Alternatives.no_alternatives k r = Alternatives.no_alternatives
  fill_alternatives (Alternatives.alternative n t s alts) k r = Alternatives.alternative n t (fill s k r) (fill_alternatives alts k r)

  -- The extension additions, filled in the same way.
  pub fill_added_alternatives : AlternativeAdditions → ℕ → Shape → AlternativeAdditions
  fill_added_alternatives AlternativeAdditions.closed_alternatives k r = AlternativeAdditions.closed_alternatives
  fill_added_alternatives (AlternativeAdditions.extended_alternatives alts) k r = AlternativeAdditions.extended_alternatives (fill_alternatives alts k r)

-- The body of a loop, with the loop in the place of each `back` that means it.
abbrev pub unfold_loop : Shape → Shape
unfold_loop body = fill body 0 (Shape.loop body)

-- The items of an enumeration, extension additions last.
abbrev pub all_items : List (List ℕ) → Option (List (List ℕ)) → List (List ℕ)
all_items items None = items
all_items items (Some more) = items ++ more

-- The alternatives of both, in order.
abbrev pub join_alternatives : Alternatives → Alternatives → Alternatives
join_alternatives Alternatives.no_alternatives more = more
join_alternatives (Alternatives.alternative n t s alts) more = Alternatives.alternative n t s (join_alternatives alts more)

-- The alternatives of a choice, extension additions last.
abbrev pub all_alternatives : Alternatives → AlternativeAdditions → Alternatives
all_alternatives alts AlternativeAdditions.closed_alternatives = alts
all_alternatives alts (AlternativeAdditions.extended_alternatives more) = join_alternatives alts more

-- The fields of both, in order.
abbrev pub join_fields : Fields → Fields → Fields
join_fields Fields.no_fields more = more
join_fields (Fields.field n t p s fs) more = Fields.field n t p s (join_fields fs more)

-- The fields of a sequence or set, extension additions last.
abbrev pub all_fields : Fields → FieldAdditions → Fields
all_fields fs FieldAdditions.closed_fields = fs
all_fields fs (FieldAdditions.extended_fields more) = join_fields fs more

-- A loop as its body, with the loop in the place of each `back` that means it; any other shape as it is.
abbrev pub opened : Shape → Shape
opened (Shape.loop body) = unfold_loop body
opened s = s

-- An enumeration without an extension marker.
abbrev pub closed_enum : List (List ℕ) → Shape
closed_enum items = Shape.enum items None

-- A SEQUENCE without an extension marker.
abbrev pub closed_seq : Fields → Shape
closed_seq fs = Shape.seq SeqKind.sequence fs FieldAdditions.closed_fields

-- A CHOICE without an extension marker.
abbrev pub closed_choice : Alternatives → Shape
closed_choice alts = Shape.choice alts AlternativeAdditions.closed_alternatives

-- The shape of a type under constraints that fix this size, or none.
abbrev pub shape_under : Option ℕ → Shape → Shape
shape_under n (Shape.bits m) = Shape.bits n
shape_under n s = s

-- The names of fields, in order.
abbrev pub field_names : Fields → List (List ℕ)
field_names Fields.no_fields = []
field_names (Fields.field n t p s fs) = n ∷ field_names fs

-- The identifiers of alternatives, in order.
abbrev pub identifiers : Alternatives → List (List ℕ)
identifiers Alternatives.no_alternatives = []
identifiers (Alternatives.alternative n t s alts) = n ∷ identifiers alts

-- The tags of alternatives, in order.
abbrev pub tags : Alternatives → List Tag
tags Alternatives.no_alternatives = []
tags (Alternatives.alternative n t s alts) = t ∷ tags alts

-- The first alternative of that name.
abbrev pub alternative_named : (List ℕ → List ℕ → Bool) → Alternatives → List ℕ → Option (List ℕ × Shape)
alternative_named same Alternatives.no_alternatives name = None
alternative_named same (Alternatives.alternative n t s alts) name = if same name n then Some (n, s) else alternative_named same alts name

-- The k-th alternative.
abbrev pub alternative_at : Alternatives → ℕ → Option (List ℕ × Shape)
alternative_at Alternatives.no_alternatives k = None
alternative_at (Alternatives.alternative n t s alts) zero = Some (n, s)
alternative_at (Alternatives.alternative n t s alts) (suc k) = alternative_at alts k

-- The first place of the name.
abbrev pub place_named : (List ℕ → List ℕ → Bool) → List (List ℕ) → List ℕ → Option ℕ
place_named same [] name = None
place_named same (n ∷ ns) name = if same name n then Some 0 else option_map suc (place_named same ns name)

-- The tag of the end of contents, which no alternative has.
abbrev pub end_tag : Tag
end_tag = record { class = Universal; value = 0 }

-- The place of a class among the classes.
abbrev pub class_number : Class → ℕ
class_number Universal = 0
class_number Application = 1
class_number Context = 2
class_number Private = 3

-- The tags are equal.
abbrev pub tag_eq : Tag → Tag → Bool
tag_eq a b = nat_eq (class_number a.class) (class_number b.class) && nat_eq a.value b.value

-- The first alternative of that tag.
abbrev pub alternative_tagged : Alternatives → Tag → Option (List ℕ × Shape)
alternative_tagged Alternatives.no_alternatives tag = None
alternative_tagged (Alternatives.alternative n t s alts) tag = if tag_eq tag t then Some (n, s) else alternative_tagged alts tag

-- The tag is there and is this one.
abbrev pub is_tag : Option Tag → Tag → Bool
is_tag None tag = false
is_tag (Some t) tag = tag_eq tag t

-- The identifier beside the tag.
abbrev pub name_tagged : List (Option Tag) → List (List ℕ) → Tag → Option (List ℕ)
name_tagged [] names tag = None
name_tagged (t ∷ ts) [] tag = None
name_tagged (t ∷ ts) (n ∷ names) tag = if is_tag t tag then Some n else name_tagged ts names tag

-- The tag is one of these.
abbrev pub has_tag : List Tag → Tag → Bool
has_tag [] tag = false
has_tag (t ∷ ts) tag = if tag_eq t tag then true else has_tag ts tag

-- No tag stands twice.
abbrev pub tags_distinct : List Tag → Bool
tags_distinct [] = true
tags_distinct (t ∷ ts) = if has_tag ts t then false else tags_distinct ts

-- The identifier is one of these items.
abbrev pub is_item : List (List ℕ) → List ℕ → Bool
is_item [] i = false
is_item (n ∷ ns) i = if bytes_eq i n then true else is_item ns i

-- No name stands twice.
abbrev pub are_distinct : List (List ℕ) → Bool
are_distinct [] = true
are_distinct (n ∷ ns) = if is_item ns n then false else are_distinct ns
