-- The tags of a type by its shape (X.680, sections 8 and 29).
use Rattle.std.specs.Prelude.{◌≡◌, ℕ, Bool, true, false, ◌||◌, if◌then◌else◌, Option, Some, None, fold}
use Rattle.asn_core.specs.Tags.{smaller_tag, smallest}
use Rattle.asn_core.specs.declared.tag.Tag.{Tag}
use Rattle.asn_core.specs.declared.tag_tree.TagTree.{TagTree}
use Rattle.asn_core.specs.declared.tag.Class.TheVariants.{Universal}
use Rattle.asn_model.specs.CharacterStrings.{alphabet_number, bmp_number}
use Rattle.asn_model.specs.Shape.{Shape, SeqKind, end_tag, opened, tag_eq}
use Rattle.asn_coding.specs.Tables.{root_tags}

-- The number of the universal tag of types of this shape. A CHOICE and an open type have none, and so 0.
abbrev pub universal_number : Shape → ℕ
universal_number Shape.null = 5
universal_number Shape.boolean = 1
universal_number (Shape.int a b w) = 2
universal_number (Shape.bits n) = 3
universal_number Shape.octets = 4
universal_number Shape.any = 0
universal_number Shape.oid = 6
universal_number (Shape.text a) = alphabet_number a
universal_number Shape.bmp = bmp_number
universal_number Shape.utc = 23
universal_number Shape.gen = 24
universal_number Shape.day = 31
universal_number Shape.decimal = 12
universal_number (Shape.enum items added) = 10
universal_number (Shape.seq SeqKind.sequence fs added) = 16
universal_number (Shape.seq SeqKind.set fs added) = 17
universal_number (Shape.list_of s) = 16
universal_number (Shape.set_of s) = 17
universal_number (Shape.table s) = 16
universal_number (Shape.choice alts added) = 0
universal_number (Shape.loop s) = 0
universal_number (Shape.back k) = 0

-- The tag is of another class than the universal one: the type is tagged anew.
abbrev pub is_tagged_anew : Tag → Bool
is_tagged_anew tag = if tag_eq tag record { class = Universal; value = tag.value } then false else true

-- A type of this shape may have the tag: its universal one, or one of another class.
abbrev pub may_have_tag : Shape → Tag → Bool
may_have_tag s tag = tag_eq tag record { class = Universal; value = universal_number s } || is_tagged_anew tag

-- The smallest tag that a value of the type may begin with: the type's own, or the smallest one of a CHOICE that has no tag of its own.
abbrev pub least_tag : Shape → Tag → Option Tag
least_tag (Shape.choice alts added) tag = if tag_eq tag end_tag then fold smaller_tag None (root_tags alts) else Some tag
least_tag s tag = Some tag

-- The shape is that of a CHOICE.
abbrev pub is_choice : Shape → Bool
is_choice (Shape.choice alts added) = true
is_choice s = false

-- The tag, the tag tree and whether it is a CHOICE are those of a type of the shape.
abbrev pub HasTags : Shape → Tag × TagTree × Bool → Type 0
HasTags s (tag, tree, choice) = (may_have_tag (opened s) tag ≡ true) × (smallest tree ≡ least_tag (opened s) tag) × (choice ≡ is_choice (opened s))
