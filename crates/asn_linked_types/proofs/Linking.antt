-- What a shape keeps where its names have shapes.
use Rattle.std.proofs.Common.{◌≡◌, refl, ap, ◌∙◌, ℕ, ◌∷◌, ◌++◌, true, false, ◌&&◌}
use Rattle.std.specs.Prelude.{codes}
use Rattle.std.specs.Str.{bytes_eq}
use Rattle.asn_linked_types.specs.Expansion.{linked_shape, linked_fields, linked_added_fields, linked_alternatives, linked_added_alternatives}
use Rattle.asn_model.specs.Readable.{all_field_names, are_distinguishable, are_key_and_value, has_alternative, has_no_additions, is_entry, is_of_shape, is_required, is_sequence, is_utf8_string, suits}
use Rattle.asn_model.specs.Shape.{Alphabet, Shape, Fields, FieldAdditions, Alternatives, AlternativeAdditions, Plain, Presence, all_alternatives, field_names, identifiers, join_alternatives, tags}
use Rattle.asn_model.proofs.Readables.{and-both, and-left, and-right}

module _ (f : ℕ → Shape) where
  pub field_names-linked : (fs : Fields) → field_names (linked_fields f fs) ≡ field_names fs
  field_names-linked Fields.no_fields = refl
  field_names-linked (Fields.field n t p s fs) = ap (λ l. n ∷ l) (field_names-linked fs)

  pub all_field_names-linked : (fs : Fields) (added : FieldAdditions) → all_field_names (linked_fields f fs) (linked_added_fields f added) ≡ all_field_names fs added
  all_field_names-linked fs FieldAdditions.closed_fields = field_names-linked fs
  all_field_names-linked fs (FieldAdditions.extended_fields more) = ap (λ l. l ++ field_names (linked_fields f more)) (field_names-linked fs) ∙ ap (λ l. field_names fs ++ l) (field_names-linked more)

  join-linked : (alts more : Alternatives) → join_alternatives (linked_alternatives f alts) (linked_alternatives f more) ≡ linked_alternatives f (join_alternatives alts more)
  join-linked Alternatives.no_alternatives more = refl
  join-linked (Alternatives.alternative i t s alts) more = ap (Alternatives.alternative i t (linked_shape f s)) (join-linked alts more)

  -- The alternatives of both lists.
  pub all_alternatives-linked : (alts : Alternatives) (added : AlternativeAdditions) → all_alternatives (linked_alternatives f alts) (linked_added_alternatives f added) ≡ linked_alternatives f (all_alternatives alts added)
  all_alternatives-linked alts AlternativeAdditions.closed_alternatives = refl
  all_alternatives-linked alts (AlternativeAdditions.extended_alternatives more) = join-linked alts more

  pub identifiers-linked : (alts : Alternatives) → identifiers (linked_alternatives f alts) ≡ identifiers alts
  identifiers-linked Alternatives.no_alternatives = refl
  identifiers-linked (Alternatives.alternative i t s alts) = ap (λ l. i ∷ l) (identifiers-linked alts)

  tags-linked : (alts : Alternatives) → tags (linked_alternatives f alts) ≡ tags alts
  tags-linked Alternatives.no_alternatives = refl
  tags-linked (Alternatives.alternative i t s alts) = ap (λ l. t ∷ l) (tags-linked alts)

  pub told-linked : (alts : Alternatives) (added : AlternativeAdditions) → are_distinguishable (all_alternatives (linked_alternatives f alts) (linked_added_alternatives f added)) ≡ are_distinguishable (all_alternatives alts added)
  told-linked alts added =
      rw (all_alternatives-linked alts added, identifiers-linked (all_alternatives alts added), tags-linked (all_alternatives alts added)) refl

  has_alternative-linked : (alts : Alternatives) → has_alternative (linked_alternatives f alts) ≡ has_alternative alts
  has_alternative-linked Alternatives.no_alternatives = refl
  has_alternative-linked (Alternatives.alternative i t s alts) = refl

  pub has-linked : (alts : Alternatives) (added : AlternativeAdditions) → has_alternative (all_alternatives (linked_alternatives f alts) (linked_added_alternatives f added)) ≡ has_alternative (all_alternatives alts added)
  has-linked alts added = ap has_alternative (all_alternatives-linked alts added) ∙ has_alternative-linked (all_alternatives alts added)

  no_entry : {P : Type 0} → false ≡ true → P
  no_entry e = cc e

  text-linked : (s : Shape) → is_utf8_string s ≡ true → is_utf8_string (linked_shape f s) ≡ true
  text-linked (Shape.text Alphabet.utf8) e = refl
  text-linked s e = no_entry e

  -- A key and a value are still those.
  keyed-linked : (fs : Fields) → are_key_and_value fs ≡ true → are_key_and_value (linked_fields f fs) ≡ true
  keyed-linked (Fields.field key t p s (Fields.field value u q v Fields.no_fields)) e =
      let named = bytes_eq key (codes "key") && is_required p in
      let valued = bytes_eq value (codes "value") && is_required q in
      let rest = and-right named (is_utf8_string s && valued) e in
      and-both _ _ (and-left named (is_utf8_string s && valued) e) (and-both _ _ (text-linked s (and-left (is_utf8_string s) valued rest)) (and-right (is_utf8_string s) valued rest))
  keyed-linked fs e = no_entry e

  additions-linked : (added : FieldAdditions) → has_no_additions added ≡ true → has_no_additions (linked_added_fields f added) ≡ true
  additions-linked FieldAdditions.closed_fields e = refl
  additions-linked (FieldAdditions.extended_fields Fields.no_fields) e = refl
  additions-linked (FieldAdditions.extended_fields (Fields.field n t p s fs)) e = no_entry e

  pub entry-linked : (s : Shape) → is_entry s ≡ true → is_entry (linked_shape f s) ≡ true
  entry-linked (Shape.seq kind fs added) e =
      let fields = and-right (is_sequence kind) (are_key_and_value fs && has_no_additions added) e in
      and-both _ _ (and-left (is_sequence kind) (are_key_and_value fs && has_no_additions added) e)
      (and-both _ _ (keyed-linked fs (and-left (are_key_and_value fs) (has_no_additions added) fields)) (additions-linked added (and-right (are_key_and_value fs) (has_no_additions added) fields)))
  entry-linked s e = no_entry e

  default-linked : (s : Shape) (p : Plain) → is_of_shape s p ≡ true → is_of_shape (linked_shape f s) p ≡ true
  default-linked (Shape.seq kind fs added) p e = no_entry e
  default-linked (Shape.list_of s) p e = no_entry e
  default-linked (Shape.set_of s) p e = no_entry e
  default-linked (Shape.table s) p e = no_entry e
  default-linked (Shape.choice alts added) p e = no_entry e
  default-linked (Shape.loop s) p e = no_entry e
  default-linked (Shape.back j) p e = no_entry e
  default-linked s p e = e

  -- A default is still a value of its field.
  pub suits-linked : (p : Presence) (s : Shape) → suits p s ≡ true → suits p (linked_shape f s) ≡ true
  suits-linked (Presence.default p) s e = default-linked s p e
  suits-linked Presence.required s e = refl
  suits-linked Presence.optional s e = refl
