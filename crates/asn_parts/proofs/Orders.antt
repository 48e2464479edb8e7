-- The order in which the fields of a SET are read.
use Rattle.std.proofs.Common.{◌≡◌, refl, sym, ap, ◌∙◌, arith, ℕ, zero, suc, ◌+◌, ◌-◌, ◌<◌, ◌≤◌, List, [], ◌∷◌, ◌++◌, length, map, take, get_or, Option, Some, None}
use Rattle.std.proofs.lemmas.List.{length-append, map-append, map_push, take_more}
use Rattle.std.proofs.lemmas.Cmp.{nat_cmp_total, on_total, then_total}
use Rattle.std.specs.Cmp.{IsTotalOrder}
use Rattle.std.specs.Ordering.{on}
use Rattle.asn_coding.specs.SetFields.{additions_of, component_at, listed_components, placed, places_read}
use Rattle.asn_core.specs.Tags.{class_place}
use Rattle.asn_core.specs.declared.tag.Tag.{Tag}
use Rattle.asn_model.specs.Components.{Component, Standing, components, tag_cmp}
use Rattle.asn_model.specs.Shape.{FieldAdditions, Fields, Shape, field_names}
use Rattle.asn_model.specs.Sorting.{sort}
use Rattle.asn_model.proofs.Sorting.{sort-map}
use Rattle.asn_parts.specs.Names.{counted}
use Rattle.asn_parts.specs.Listed.{Place, fields_in, root_count_in}

-- A place and the tag of the field there.
abbrev pub Spot : Type 0
Spot = ℕ × Tag

abbrev pub spot_of : Place → Spot
spot_of p = (p.0, p.1.tag)

pub tag_cmp-total : IsTotalOrder tag_cmp
tag_cmp-total = then_total (on_total (λ (t : Tag). class_place t.class) nat_cmp_total) (on_total (λ (t : Tag). t.value) nat_cmp_total)

placed-at : (cs : List Component) (j i : ℕ) (d : Place) (c : Component) → component_at cs i ≡ Some c → get_or (placed j cs) i d ≡ (j + i, c)
placed-at [] j i d c e = let f : ◌≡◌ {A = Option Component} None (Some c) = e in cc f
placed-at (x ∷ cs) j zero d c e =
    let s : ◌≡◌ {A = Option Component} (Some x) (Some c) = e in
    let is : x ≡ c = cc s in
    let n : j ≡ j + 0 = omega arith in
    (λ k. (n k, is k))
placed-at (x ∷ cs) j (suc i) d c e =
    let n : suc j + i ≡ j + suc i = omega arith in
    placed-at cs (suc j) i d c e ∙ (λ k. (n k, c))

placed-long : (j : ℕ) (cs : List Component) → length (placed j cs) ≡ length cs
placed-long j [] = refl
placed-long j (c ∷ cs) = ap suc (placed-long (suc j) cs)

-- One more spot.
pub spots-more : (cs : List Component) (i : ℕ) (c : Component) (spots : List Spot) → i < length cs → component_at cs i ≡ Some c → spots ≡ map spot_of (take i (placed 0 cs)) → spots ++ (i, c.tag) ∷ [] ≡ map spot_of (take (i + 1) (placed 0 cs))
spots-more cs i c spots h at e =
    let ps = placed 0 cs in
    let p : Place = (i, c) in
    let lt : i < length ps = omega (arith, h, placed-long 0 cs) in
    let here : get_or ps i p ≡ p = placed-at cs 0 i p c at ∙ (let n : 0 + i ≡ i = omega arith in (λ k. (n k, c))) in
    ap (λ l. l ++ (i, c.tag) ∷ []) e ∙ sym (ap (map spot_of) (take_more ps i p lt ∙ ap (λ (q : Place). take i ps ++ q ∷ []) here) ∙ map_push spot_of (take i ps) p)

names-long : (at : Standing) (fs : Fields) → length (field_names fs) ≡ length (components at fs)
names-long at Fields.no_fields = refl
names-long at (Fields.field n t p s fs) = ap suc (names-long at fs)

-- The root is part of the fields.
pub root-within : (s : Shape) → root_count_in s ≤ length (fields_in s)
root-within (Shape.seq kind fs added) =
    let long = names-long Standing.root fs in
    let both = length-append (components Standing.root fs) (additions_of added) in
    omega (arith, long, both)
root-within s = omega arith

take-placed : (k : ℕ) (cs ds : List Component) → take (length cs) (placed k (cs ++ ds)) ≡ placed k cs
take-placed k [] ds = refl
take-placed k (c ∷ cs) ds = ap (λ l. (k, c) ∷ l) (take-placed (suc k) cs ds)

counted-placed : (k : ℕ) (cs : List Component) → counted k (length cs) ≡ map (λ (p : Place). p.0) (placed k cs)
counted-placed k [] = refl
counted-placed k (c ∷ cs) = ap (λ l. k ∷ l) (counted-placed (suc k) cs)

pub counted-more : (k n : ℕ) → counted k n ++ (k + n) ∷ [] ≡ counted k (suc n)
counted-more k zero = let e : k + 0 ≡ k = omega arith in ap (λ m. m ∷ []) e
counted-more k (suc n) = let e : k + suc n ≡ suc k + n = omega arith in ap (λ m. k ∷ (counted (suc k) n ++ m ∷ [])) e ∙ ap (λ l. k ∷ l) (counted-more (suc k) n)

spot-places : (ps : List Place) → map (λ (s : Spot). s.0) (map spot_of ps) ≡ map (λ (p : Place). p.0) ps
spot-places [] = refl
spot-places (p ∷ ps) = ap (λ l. p.0 ∷ l) (spot-places ps)

-- The sorted spots of the root, and the places after them, are the places in the order of reading.
pub order-read : (fs : Fields) (added : FieldAdditions) (root count : ℕ) (spots sorted : List Spot) → root ≡ length (field_names fs) → count ≡ length (listed_components fs added) → spots ≡ map spot_of (take root (placed 0 (listed_components fs added)))
    → sorted ≡ sort (on (λ (s : Spot). s.1) tag_cmp) spots → map (λ (s : Spot). s.0) sorted ++ counted root (count - root) ≡ map (λ (p : Place). p.0) (places_read fs added)
order-read fs added root count spots sorted first all is by =
    let cs = components Standing.root fs in
    let ds = additions_of added in
    let order = on (λ (s : Spot). s.1) tag_cmp in
    let by_tag = on (λ (p : Place). p.1.tag) tag_cmp in
    let long = names-long Standing.root fs in
    let own : spots ≡ map spot_of (placed 0 cs) = is ∙ ap (λ k. map spot_of (take k (placed 0 (cs ++ ds)))) (first ∙ long) ∙ ap (map spot_of) (take-placed 0 cs ds) in
    let left : map (λ (s : Spot). s.0) sorted ≡ map (λ (p : Place). p.0) (sort by_tag (placed 0 cs)) =
    ap (map (λ (s : Spot). s.0)) (by ∙ ap (sort order) own ∙ sort-map order spot_of (placed 0 cs)) ∙ spot-places (sort by_tag (placed 0 cs)) in
    let both = length-append cs ds in
    let rest : count - root ≡ length ds = omega (arith, all, first, long, both) in
    let right : counted root (count - root) ≡ map (λ (p : Place). p.0) (placed (length (field_names fs)) ds) = (λ k. counted (first k) (rest k)) ∙ counted-placed (length (field_names fs)) ds in
    (λ k. left k ++ right k) ∙ sym (map-append (λ (p : Place). p.0) (sort by_tag (placed 0 cs)) (placed (length (field_names fs)) ds))
