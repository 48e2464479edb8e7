-- The order of tags, and the tag by which a type is ordered (X.680, section 8.6).
use Rattle.std.specs.Prelude.{ℕ, Bool, ◌==◌, nat_lt, ◌&&◌, ◌||◌, if◌then◌else◌, Option, Some, None, is_some, List, ◌++◌, fold}
use Rattle.std.specs.Borrow.{Bor}
use Rattle.asn_core.specs.declared.tag.Class.{Class}
use Rattle.asn_core.specs.declared.tag.Class.TheVariants.{Universal, Application, Context, Private}
use Rattle.asn_core.specs.declared.tag.Tag.{Tag}
use Rattle.asn_core.specs.declared.tag_tree.TagTree.{TagTree, fold-TagTree}
use Rattle.asn_core.specs.declared.tag_tree.TagTree.TheOpen.{TagTree-F, Leaf, Choice}

-- The place of a class in the order of classes.
abbrev pub class_place : Class → ℕ
class_place Universal = 0
class_place Application = 1
class_place Context = 2
class_place Private = 3

-- Whether the first tag is below the second: by class first, then by number.
abbrev pub is_below : Tag → Tag → Bool
is_below a b = nat_lt (class_place a.class) (class_place b.class) || (class_place a.class == class_place b.class && nat_lt a.value b.value)

-- The smaller of two tags, where a tag that is absent is above all.
abbrev pub smaller_tag : Option Tag → Option Tag → Option Tag
smaller_tag None b = b
smaller_tag (Some a) None = Some a
smaller_tag (Some a) (Some b) = Some (if is_below b a then b else a)

-- The smallest tag of one level, whose parts are seen as their smallest tags.
abbrev pub level_tag : TagTree-F (Option Tag) → Option Tag
level_tag (Leaf tag) = Some tag
level_tag (Choice parts) = fold smaller_tag None parts.now

-- The tag by which a type is ordered: its own, or the smallest tag of its alternatives.
abbrev pub smallest : TagTree → Option Tag
smallest = fold-TagTree (Option Tag) level_tag

-- Whether there is a tag by which the type is ordered.
abbrev pub has_tag : TagTree → Bool
has_tag tree = is_some (smallest tree)

-- The alternatives of a choice: those of its first version, and then those that were added.
abbrev pub alternatives : List TagTree → Option (Bor (List TagTree)) → List TagTree
alternatives base None = base
alternatives base (Some added) = base ++ added.now
