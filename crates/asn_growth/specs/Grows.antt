-- When a type is a later version of another: it has what that one has, and where that one has an extension marker, extension additions may follow those that it has (X.680, section 52).
use Rattle.std.specs.Prelude.{◌≡◌, ℕ, List, ◌++◌, Bool, true, false, Some}
use Rattle.asn_core.specs.declared.tag.Tag.{Tag}
use Rattle.asn_model.specs.Shape.{Shape, SeqKind, Fields, FieldAdditions, Alternatives, AlternativeAdditions, Presence}

-- The shape holds other shapes.
abbrev pub has_parts : Shape → Bool
has_parts (Shape.seq kind fs added) = true
has_parts (Shape.list_of s) = true
has_parts (Shape.set_of s) = true
has_parts (Shape.table s) = true
has_parts (Shape.choice alts added) = true
has_parts (Shape.loop s) = true
has_parts s = false

mutual
  -- The second shape is a later version of the first, or the first itself. Loops are compared body to body, so that each `back` means the same loop in both.
  pub data Grows : Shape → Shape → Type 0 where
    grows_same : {s : Shape} → has_parts s ≡ false → Grows s s
    grows_enum : (items added more : List (List ℕ)) → Grows (Shape.enum items (Some added)) (Shape.enum items (Some (added ++ more)))
    grows_closed_seq : {kind : SeqKind} {fs gs : Fields} → GrowsFields fs gs → Grows (Shape.seq kind fs FieldAdditions.closed_fields) (Shape.seq kind gs FieldAdditions.closed_fields)
    grows_seq : {kind : SeqKind} {fs gs added more : Fields} → GrowsFields fs gs → BeginsFields added more
        → Grows (Shape.seq kind fs (FieldAdditions.extended_fields added)) (Shape.seq kind gs (FieldAdditions.extended_fields more))
    grows_list : {s r : Shape} → Grows s r → Grows (Shape.list_of s) (Shape.list_of r)
    grows_set : {s r : Shape} → Grows s r → Grows (Shape.set_of s) (Shape.set_of r)
    grows_table : {s r : Shape} → Grows s r → Grows (Shape.table s) (Shape.table r)
    grows_closed_choice : {alts bs : Alternatives} → GrowsAlternatives alts bs → Grows (Shape.choice alts AlternativeAdditions.closed_alternatives) (Shape.choice bs AlternativeAdditions.closed_alternatives)
    grows_choice : {alts bs added more : Alternatives} → GrowsAlternatives alts bs → BeginsAlternatives added more
        → Grows (Shape.choice alts (AlternativeAdditions.extended_alternatives added)) (Shape.choice bs (AlternativeAdditions.extended_alternatives more))
    grows_loop : {b c : Shape} → Grows b c → Grows (Shape.loop b) (Shape.loop c)

  -- The same fields, each with a later version of its shape.
  pub data GrowsFields : Fields → Fields → Type 0 where
    grows_no_fields : GrowsFields Fields.no_fields Fields.no_fields
    grows_field : {n : List ℕ} {t : Tag} {p : Presence} {s r : Shape} {fs gs : Fields} → Grows s r → GrowsFields fs gs → GrowsFields (Fields.field n t p s fs) (Fields.field n t p r gs)

  -- The same fields in the same way, and any others after them.
  pub data BeginsFields : Fields → Fields → Type 0 where
    begins_fields : {more : Fields} → BeginsFields Fields.no_fields more
    begins_field : {n : List ℕ} {t : Tag} {p : Presence} {s r : Shape} {fs gs : Fields} → Grows s r → BeginsFields fs gs → BeginsFields (Fields.field n t p s fs) (Fields.field n t p r gs)

  -- The same alternatives, each with a later version of its shape.
  pub data GrowsAlternatives : Alternatives → Alternatives → Type 0 where
    grows_no_alternatives : GrowsAlternatives Alternatives.no_alternatives Alternatives.no_alternatives
    grows_alternative : {i : List ℕ} {t : Tag} {s r : Shape} {alts bs : Alternatives} → Grows s r → GrowsAlternatives alts bs → GrowsAlternatives (Alternatives.alternative i t s alts) (Alternatives.alternative i t r bs)

  -- The same alternatives in the same way, and any others after them.
  pub data BeginsAlternatives : Alternatives → Alternatives → Type 0 where
    begins_alternatives : {more : Alternatives} → BeginsAlternatives Alternatives.no_alternatives more
    begins_alternative : {i : List ℕ} {t : Tag} {s r : Shape} {alts bs : Alternatives} → Grows s r → BeginsAlternatives alts bs → BeginsAlternatives (Alternatives.alternative i t s alts) (Alternatives.alternative i t r bs)
