-- What is seen of a shape whose names have shapes.
use Rattle.std.proofs.Common.{◌≡◌, refl, ap, sym, ◌∙◌, ℕ, zero, suc, List, [], ◌∷◌, ◌++◌, length, map, Option, Some, None}
use Rattle.std.specs.Prelude.{option_map}
use Rattle.std.proofs.lemmas.List.{length-map, map-append}
use Rattle.asn_coding.specs.SetFields.{additions_of, component_at, listed_components}
use Rattle.asn_linked_types.specs.Expansion.{expansion, linked_shape, linked_fields, linked_added_fields, linked_alternatives}
use Rattle.asn_linked_types.proofs.Expanding.{expansion-shows}
use Rattle.asn_linked_types.proofs.Linking.{all_alternatives-linked, field_names-linked, identifiers-linked}
use Rattle.asn_model.specs.Components.{Component, Standing, component_names, components}
use Rattle.asn_model.specs.Shape.{Alternatives, FieldAdditions, Fields, Shape, alternative_at, identifiers}
use Rattle.asn_parts.specs.Listed.{alternatives_in, fields_in, items_in, root_count_in}

-- A component whose names have these shapes.
abbrev pub linked_component : (ℕ → Shape) → Component → Component
linked_component f c = record { name = c.name; tag = c.tag; presence = c.presence; shape = linked_shape f c.shape; standing = c.standing }

-- An alternative whose names have these shapes.
abbrev pub linked_alternative : (ℕ → Shape) → List ℕ × Shape → List ℕ × Shape
linked_alternative f a = (a.0, linked_shape f a.1)

components-linked : (f : ℕ → Shape) (at : Standing) (fs : Fields) → components at (linked_fields f fs) ≡ map (linked_component f) (components at fs)
components-linked f at Fields.no_fields = refl
components-linked f at (Fields.field n t p s fs) = ap (λ cs. record { name = n; tag = t; presence = p; shape = linked_shape f s; standing = at } ∷ cs) (components-linked f at fs)

additions-linked : (f : ℕ → Shape) (added : FieldAdditions) → additions_of (linked_added_fields f added) ≡ map (linked_component f) (additions_of added)
additions-linked f FieldAdditions.closed_fields = refl
additions-linked f (FieldAdditions.extended_fields fs) = components-linked f Standing.addition fs

listed-linked : (f : ℕ → Shape) (fs : Fields) (added : FieldAdditions) → listed_components (linked_fields f fs) (linked_added_fields f added) ≡ map (linked_component f) (listed_components fs added)
listed-linked f fs added =
    let a = components-linked f Standing.root fs in
    let b = additions-linked f added in
    (λ i. a i ++ b i) ∙ sym (map-append (linked_component f) (components Standing.root fs) (additions_of added))

at-linked : (f : ℕ → Shape) (cs : List Component) (k : ℕ) (c : Component) → component_at cs k ≡ Some c → component_at (map (linked_component f) cs) k ≡ Some (linked_component f c)
at-linked f [] k c e = let d : ◌≡◌ {A = Option Component} None (Some c) = e in cc d
at-linked f (d ∷ cs) zero c e = let s : ◌≡◌ {A = Option Component} (Some d) (Some c) = e in let is : d ≡ c = cc s in ap (λ (x : Component). Some (linked_component f x)) is
at-linked f (d ∷ cs) (suc k) c e = at-linked f cs k c e

names-linked : (f : ℕ → Shape) (cs : List Component) → component_names (map (linked_component f) cs) ≡ component_names cs
names-linked f [] = refl
names-linked f (c ∷ cs) = ap (λ l. c.name ∷ l) (names-linked f cs)

alternatives-at : (f : ℕ → Shape) (alts : Alternatives) (k : ℕ) → alternative_at (linked_alternatives f alts) k ≡ option_map (linked_alternative f) (alternative_at alts k)
alternatives-at f Alternatives.no_alternatives k = refl
alternatives-at f (Alternatives.alternative i t s alts) zero = refl
alternatives-at f (Alternatives.alternative i t s alts) (suc k) = alternatives-at f alts k

-- The names stand for the expansions of types.
module _ (types : List Shape) (more : ℕ) (opened : List ℕ) where
  abbrev pub named : ℕ → Shape
  named = expansion types more opened

  pub fields-linked : (s : Shape) → fields_in (linked_shape named s) ≡ map (linked_component named) (fields_in s)
  fields-linked (Shape.seq kind fs added) = listed-linked named fs added
  fields-linked (Shape.back k) = expansion-shows fields_in [] (λ p. refl) (λ s. refl) refl types more opened k
  fields-linked s = refl

  pub field-linked : (s : Shape) (k : ℕ) (c : Component) → component_at (fields_in s) k ≡ Some c → component_at (fields_in (linked_shape named s)) k ≡ Some (linked_component named c)
  field-linked s k c e = ap (λ cs. component_at cs k) (fields-linked s) ∙ at-linked named (fields_in s) k c e

  pub field_names-same : (s : Shape) → component_names (fields_in (linked_shape named s)) ≡ component_names (fields_in s)
  field_names-same s = ap component_names (fields-linked s) ∙ names-linked named (fields_in s)

  pub fields-counted : (s : Shape) → length (fields_in (linked_shape named s)) ≡ length (fields_in s)
  fields-counted s = ap length (fields-linked s) ∙ length-map (fields_in s) (linked_component named)

  pub root-counted : (s : Shape) → root_count_in (linked_shape named s) ≡ root_count_in s
  root-counted (Shape.seq kind fs added) = ap length (field_names-linked named fs)
  root-counted (Shape.back k) = expansion-shows root_count_in 0 (λ p. refl) (λ s. refl) refl types more opened k
  root-counted s = refl

  alternatives-linked : (s : Shape) → alternatives_in (linked_shape named s) ≡ linked_alternatives named (alternatives_in s)
  alternatives-linked (Shape.choice alts added) = all_alternatives-linked named alts added
  alternatives-linked (Shape.back k) = expansion-shows alternatives_in Alternatives.no_alternatives (λ p. refl) (λ s. refl) refl types more opened k
  alternatives-linked s = refl

  pub identifiers-same : (s : Shape) → identifiers (alternatives_in (linked_shape named s)) ≡ identifiers (alternatives_in s)
  identifiers-same s = ap identifiers (alternatives-linked s) ∙ identifiers-linked named (alternatives_in s)

  pub alternative-linked : (s : Shape) (k : ℕ) → alternative_at (alternatives_in (linked_shape named s)) k ≡ option_map (linked_alternative named) (alternative_at (alternatives_in s) k)
  alternative-linked s k = ap (λ alts. alternative_at alts k) (alternatives-linked s) ∙ alternatives-at named (alternatives_in s) k

  pub items-same : (s : Shape) → items_in (linked_shape named s) ≡ items_in s
  items-same (Shape.back k) = expansion-shows items_in [] (λ p. refl) (λ s. refl) refl types more opened k
  items-same s = refl

-- The names of fields are the same whatever is open.
pub names-alike : (types : List Shape) (more : ℕ) (opened : List ℕ) (more2 : ℕ) (opened2 : List ℕ) (s : Shape)
    → component_names (fields_in (linked_shape (expansion types more opened) s)) ≡ component_names (fields_in (linked_shape (expansion types more2 opened2) s))
names-alike types more opened more2 opened2 s = field_names-same types more opened s ∙ sym (field_names-same types more2 opened2 s)

-- So are the identifiers of alternatives.
pub identifiers-alike : (types : List Shape) (more : ℕ) (opened : List ℕ) (more2 : ℕ) (opened2 : List ℕ) (s : Shape)
    → identifiers (alternatives_in (linked_shape (expansion types more opened) s)) ≡ identifiers (alternatives_in (linked_shape (expansion types more2 opened2) s))
identifiers-alike types more opened more2 opened2 s = identifiers-same types more opened s ∙ sym (identifiers-same types more2 opened2 s)
