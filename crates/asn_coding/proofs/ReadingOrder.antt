-- The components of a SEQUENCE in the order in which they are read are its fields, extension additions last.
use Rattle.std.proofs.Common.{◌≡◌, refl, ap, sym, ◌∙◌, List, [], ◌∷◌, ◌++◌}
use Rattle.asn_model.specs.Components.{Component, Standing, component_names, components, reading_order}
use Rattle.asn_model.specs.Shape.{Fields, FieldAdditions, SeqKind, all_fields, field_names, join_fields}

-- The components as fields.
abbrev pub fields_from : List Component → Fields
fields_from [] = Fields.no_fields
fields_from (c ∷ cs) = Fields.field c.name c.tag c.presence c.shape (fields_from cs)

fields-components : (at : Standing) (fs : Fields) → fields_from (components at fs) ≡ fs
fields-components at Fields.no_fields = refl
fields-components at (Fields.field n t p s fs) = ap (Fields.field n t p s) (fields-components at fs)

fields-joined : (fs : Fields) (ds : List Component) → fields_from (components Standing.root fs ++ ds) ≡ join_fields fs (fields_from ds)
fields-joined Fields.no_fields ds = refl
fields-joined (Fields.field n t p s fs) ds = ap (Fields.field n t p s) (fields-joined fs ds)

pub fields-read : (fs : Fields) (added : FieldAdditions) → fields_from (reading_order SeqKind.sequence fs added) ≡ all_fields fs added
fields-read fs FieldAdditions.closed_fields = fields-components Standing.root fs
fields-read fs (FieldAdditions.extended_fields more) = fields-joined fs (components Standing.addition more) ∙ ap (join_fields fs) (fields-components Standing.addition more)

names-from : (cs : List Component) → field_names (fields_from cs) ≡ component_names cs
names-from [] = refl
names-from (c ∷ cs) = ap (λ l. c.name ∷ l) (names-from cs)

-- Their names are those of the fields.
pub names-read : (fs : Fields) (added : FieldAdditions) → component_names (reading_order SeqKind.sequence fs added) ≡ field_names (all_fields fs added)
names-read fs added = sym (names-from (reading_order SeqKind.sequence fs added)) ∙ ap field_names (fields-read fs added)

-- The components of two groups of fields are those of both.
pub components-joined : (at : Standing) (fs gs : Fields) → components at (join_fields fs gs) ≡ components at fs ++ components at gs
components-joined at Fields.no_fields gs = refl
components-joined at (Fields.field n t p s fs) gs = ap (λ l. record { name = n; tag = t; presence = p; shape = s; standing = at } ∷ l) (components-joined at fs gs)
