-- What is seen at a place, by what stands there.
use Rattle.std.proofs.Common.{◌≡◌, refl, ap, sym, ◌∙◌, arith, ℕ, zero, suc, ◌-◌, ◌<◌, ◌≤◌, List, [], ◌∷◌, length, map, take, get_or, Some, None}
use Rattle.std.specs.Prelude.{option_map}
use Rattle.std.proofs.lemmas.List.{length-map, take_all}
use Rattle.asn_coding.specs.SetFields.{component_at}
use Rattle.asn_linked.specs.Places.{left_at, named_shape, open_numbers, part_view, place_shape, types_at}
use Rattle.asn_linked.specs.declared.place.Place.{Place}
use Rattle.asn_linked_types.proofs.Seen.{alternative-linked, field-linked, fields-counted, identifiers-same, items-same, linked_alternative, linked_component, root-counted}
use Rattle.asn_linked_types.specs.Expansion.{expansion, linked_shape, no_values, place_of, type_at}
use Rattle.asn_linked_types.proofs.Expanding.{expands-back, expands-full, expands-loop, expands-none}
use Rattle.asn_model.specs.Components.{Component}
use Rattle.asn_model.specs.Shape.{Shape, alternative_at, identifiers}
use Rattle.asn_model.specs.ShapeView.{shape_view}
use Rattle.asn_model.specs.declared.shape_type.Shape as code
use Rattle.asn_parts.specs.Listed.{alternatives_in, fields_in, items_in, root_count_in}

-- What is seen of a place is seen of what stands there.
module _ (around : List Place) (place : Place) where
  abbrev stands : Shape
  stands = part_view place.number place.part

  pub fields-placed : length (fields_in (place_shape around place)) ≡ length (fields_in stands)
  fields-placed = fields-counted (types_at place) (left_at around place) (open_numbers place.count around) stands

  pub root-placed : root_count_in (place_shape around place) ≡ root_count_in stands
  root-placed = root-counted (types_at place) (left_at around place) (open_numbers place.count around) stands

  pub field-placed : (k : ℕ) (c : Component) → component_at (fields_in stands) k ≡ Some c → component_at (fields_in (place_shape around place)) k ≡ Some (linked_component (named_shape around place) c)
  field-placed = field-linked (types_at place) (left_at around place) (open_numbers place.count around) stands

  pub alternative-placed : (k : ℕ) → alternative_at (alternatives_in (place_shape around place)) k ≡ option_map (linked_alternative (named_shape around place)) (alternative_at (alternatives_in stands) k)
  alternative-placed = alternative-linked (types_at place) (left_at around place) (open_numbers place.count around) stands

  pub items-placed : items_in (place_shape around place) ≡ items_in stands
  items-placed = items-same (types_at place) (left_at around place) (open_numbers place.count around) stands

  pub own_identifiers : identifiers (alternatives_in (place_shape around place)) ≡ identifiers (alternatives_in stands)
  own_identifiers = identifiers-same (types_at place) (left_at around place) (open_numbers place.count around) stands

type-there : (types : List code.Shape) (k : ℕ) (d : code.Shape) → k < length types → type_at (map shape_view types) k ≡ Some (shape_view (get_or types k d))
type-there [] k d h = absurd (omega (arith, h))
type-there (s ∷ types) zero d h = refl
type-there (s ∷ types) (suc k) d h = type-there types k d (omega (arith, h))

type-past : (types : List code.Shape) (k : ℕ) → length types ≤ k → type_at (map shape_view types) k ≡ None
type-past [] k h = refl
type-past (s ∷ types) zero h = absurd (omega (arith, h))
type-past (s ∷ types) (suc k) h = type-past types k (omega (arith, h))

module _ (around : List Place) (place : Place) (number : ℕ) where
  abbrev numbers : List ℕ
  numbers = map (λ (p : Place). p.number) around

  abbrev opened : List ℕ
  opened = open_numbers place.count around

  -- The number's type is open.
  pub named-back : (p : ℕ) → place_of opened number ≡ Some p → named_shape around place number ≡ Shape.back p
  named-back p e = expands-back (types_at place) (left_at around place) opened number p e

  module _ (closed : place_of opened number ≡ None) where
    -- As many types are open as there are.
    pub named-full : place.count ≤ length around → named_shape around place number ≡ no_values
    named-full h = expands-full (types_at place) (left_at around place) opened number closed (omega (arith, h))

    -- There is no such type.
    pub named-none : length place.types.now ≤ number → named_shape around place number ≡ no_values
    named-none h = expands-none (types_at place) (left_at around place) opened number closed (type-past place.types.now number h)

    -- Its type is opened.
    pub named-loop : (body : Place) (d : code.Shape) → length around < place.count → number < length place.types.now → body.types ≡ place.types → body.count ≡ place.count → body.number ≡ number → part_view body.number body.part ≡ shape_view (get_or place.types.now number d)
        → named_shape around place number ≡ Shape.loop (place_shape (body ∷ around) body)
    named-loop body d few there types count own part =
        let long = length-map around (λ (p : Place). p.number) in
        let left : place.count - length around ≡ suc (place.count - suc (length around)) = omega (arith, few) in
        let all : take place.count numbers ≡ numbers = take_all place.count numbers (omega (arith, few, long)) in
        let more : take place.count (number ∷ numbers) ≡ number ∷ numbers = take_all place.count (number ∷ numbers) (omega (arith, few, long)) in
        expands-loop (types_at place) (left_at around place) (place.count - suc (length around)) opened number (shape_view (get_or place.types.now number d)) closed (type-there place.types.now number d there) left
        ∙ ap (λ l. Shape.loop (linked_shape (expansion (types_at place) (place.count - suc (length around)) (number ∷ l)) (shape_view (get_or place.types.now number d)))) all
        ∙ ap (λ l. Shape.loop (linked_shape (expansion (types_at place) (place.count - suc (length around)) l) (shape_view (get_or place.types.now number d)))) (sym more)
        ∙ (λ i. Shape.loop (linked_shape (expansion (map shape_view (sym types i).now) (sym count i - suc (length around)) (take (sym count i) (sym own i ∷ numbers))) (sym part i)))

  -- A whole type is at the place that shows it.
  pub named-whole : (types : List code.Shape) → place.types.now ≡ types → place.count ≡ length types → around ≡ [] → named_shape around place number ≡ expansion (map shape_view types) (length types) [] number
  named-whole types is count none =
      let left : place.count - length around ≡ length types = omega (arith, count, ap length none) in
      let empty : take place.count numbers ≡ [] = ap (λ (l : List Place). take place.count (map (λ (p : Place). p.number) l)) none ∙ take_all place.count [] (omega arith) in
      (λ i. expansion (map shape_view (is i)) (left i) (empty i) number)
