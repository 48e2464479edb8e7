-- What tables of constants say.
use Rattle.std.specs.Prelude.{◌≡◌, ℕ, suc, ◌<◌, List, [], ◌∷◌, map, length, Option, Some, None, if◌then◌else◌}
use Rattle.std.specs.List.{All, Contains, slice_get}
use Rattle.asn_core.specs.Tags.{smallest}
use Rattle.asn_core.specs.declared.tag.Tag.{Tag}
use Rattle.asn_core.specs.declared.tag_tree.TagTree.{TagTree}
use Rattle.asn_model.specs.Shape.{Fields, FieldAdditions, Alternatives, AlternativeAdditions, Presence, all_fields, field_names, tags, end_tag, is_tag}
use Rattle.asn_names.specs.Rows.{NameRow}
use Rattle.asn_coding.specs.declared.field.Field.{Field}
use Rattle.asn_coding.specs.declared.field.Presence.{Presence as PresenceKind}
use Rattle.asn_coding.specs.declared.field.Presence.TheVariants as kind

-- The names in a table of fields.
abbrev pub names_of : List Field → List (List ℕ)
names_of fields = map (λ f. f.name.now) fields

-- The place and the name of a field.
abbrev pub name_row : Field → NameRow
name_row f = record { index = f.index; name = f.name.now }

-- Those of each field in a table.
abbrev pub name_rows : List Field → List NameRow
name_rows fields = map name_row fields

-- Names with their places, of which the first is k.
abbrev pub numbered : ℕ → List (List ℕ) → List NameRow
numbered k [] = []
numbered k (name ∷ names) = record { index = k; name = name } ∷ numbered (suc k) names

-- The rows list these fields, in any order: each has the name at its place among them, and each place has a row.
pub record ListsFields (rows : List NameRow) (fs : Fields) (added : FieldAdditions) : Type 0 where
  pub named : All (λ (r : NameRow). slice_get (field_names (all_fields fs added)) r.index ≡ Some r.name) rows
  pub complete : (k : ℕ) → k < length (field_names (all_fields fs added)) → (r : NameRow) × Contains rows r × (r.index ≡ k)

-- What a table tells of a field: its place, its smallest tag, its presence and its name.
pub record Row : Type 0 where
  pub place : ℕ
  pub tag : Option Tag
  pub presence : PresenceKind
  pub name : List ℕ

-- The rows of a table of fields.
abbrev pub rows_of : List Field → List Row
rows_of fields = map (λ f. record { place = f.index; tag = smallest f.tag_tree; presence = f.presence; name = f.name.now }) fields

-- Whether a field is required, optional or has a default.
abbrev pub presence_kind : Presence → PresenceKind
presence_kind Presence.required = kind.Required
presence_kind Presence.optional = kind.Optional
presence_kind (Presence.default p) = kind.Default

-- The rows that tell of these fields, the first one at the place k.
abbrev pub field_rows : ℕ → Fields → List Row
field_rows k Fields.no_fields = []
field_rows k (Fields.field n t p s fs) = record { place = k; tag = Some t; presence = presence_kind p; name = n } ∷ field_rows (suc k) fs

-- The rows of the extension additions, if there is an extension marker. Their places go on from those of the root fields.
abbrev pub added_rows : Fields → FieldAdditions → Option (List Row)
added_rows fs FieldAdditions.closed_fields = None
added_rows fs (FieldAdditions.extended_fields more) = Some (field_rows (length (field_names fs)) more)

-- The smallest tags of alternatives.
abbrev pub smallest_tags : List TagTree → List (Option Tag)
smallest_tags = map smallest

-- The tag, or that of the end of contents.
abbrev pub or_end : Option Tag → Tag
or_end (Some t) = t
or_end None = end_tag

-- The tag by which a field of a table is ordered.
abbrev pub field_tag : Field → Tag
field_tag f = or_end (smallest f.tag_tree)

-- The smallest tags of the alternatives, in order.
abbrev pub root_tags : Alternatives → List (Option Tag)
root_tags alts = map Some (tags alts)

-- Those of the extension additions, if there is an extension marker.
abbrev pub added_tags : AlternativeAdditions → Option (List (Option Tag))
added_tags AlternativeAdditions.closed_alternatives = None
added_tags (AlternativeAdditions.extended_alternatives alts) = Some (root_tags alts)

-- The place of the first of the tags that is this one, or how many there are.
abbrev pub place_tagged : List (Option Tag) → Tag → ℕ
place_tagged [] tag = 0
place_tagged (t ∷ ts) tag = if is_tag t tag then 0 else suc (place_tagged ts tag)
