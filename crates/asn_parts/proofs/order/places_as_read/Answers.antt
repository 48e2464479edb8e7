use Rattle.std.proofs.Common.{◌≡◌, ◌<◌, ◌+◌, ◌-◌, ◌++◌, ◌∷◌, ◌∙◌, Bool, List, [], ap, arith, length, map, rules, suc, sym, take}
use Rattle.std.proofs.lemmas.Cmp.{on_total}
use Rattle.std.proofs.lemmas.Fn.{always_returns_same}
use Rattle.std.proofs.lemmas.List.{append_assoc, length-map}
use Rattle.std.proofs.lemmas.List.Sorted.{ranks_by}
use Rattle.std.specs.Cmp.{IsStrictWeakOrder}
use Rattle.std.specs.Ordering.{is_lt, on}
use Rattle.asn_coding.specs.SetFields.{listed_components, placed}
use Rattle.asn_model.specs.Components.{Component, tag_cmp}
use Rattle.asn_model.specs.Shape.{field_names}
use Rattle.asn_model.specs.Sorting.{sort}
use Rattle.asn_sorting.proofs.Exact.{sorted-stable}
use Rattle.asn_parts.specs.Listed.{fields_in, root_count_in}
use Rattle.asn_parts.specs.Names.{counted}
use Rattle.asn_parts.specs.Parts.{component_of}
use Rattle.asn_parts.proofs.Orders.{Spot, counted-more, order-read, root-within, spot_of, spots-more, tag_cmp-total}
use Rattle.asn_parts.proofs.order.places_as_read.Goals as goal

pub field-requires : goal.field-requires
field-requires g c =
    let s = g.P.Part.shape [] c.args.part.now in
    omega (arith, c.loop-place-test.true, c.root_count-root.ensures [], root-within s)

pub loop-place-preserved : goal.loop-place-preserved
loop-place-preserved g c around =
    let s = g.P.Part.shape around c.args.part.now in
    let below : c.loop-place.place < length (fields_in s) = omega (arith, c.loop-place-test.true, c.root_count-root.ensures around, root-within s) in
    c.in_ok-push.ensures.items ∙ spots-more (fields_in s) c.loop-place.place (component_of (g.P.Part.shape around) c.field.result) c.loop-place.spots.items below (c.field.ensures around) (c.loop-place.invariant around)

pub loop-place-2-preserved : goal.loop-place-2-preserved
loop-place-2-preserved g c =
    let root = c.root_count-root.result in
    let before = map (λ (s : Spot). s.0) c.sort_by.new.self.items in
    let place = c.loop-place-2.place in
    let k = place - root in
    let here : place ≡ root + k = omega (arith, c.loop-place-2.auto.place) in
    let next : suc k ≡ place + 1 - root = omega (arith, c.loop-place-2.auto.place) in
    c.in_ok-push-3.ensures.items
    ∙ (λ i. c.loop-place-2.invariant i ++ here i ∷ [])
    ∙ append_assoc before (counted root k) ((root + k) ∷ [])
    ∙ ap (λ l. before ++ l) (counted-more root k ∙ ap (counted root) next)

pub returns : goal.returns
returns g c around fs added e =
    let part = c.args.part.now in
    let root = c.root_count-root.result in
    let count = c.field_count-count.result in
    let s = g.P.Part.shape around part in
    let cs : List Component = listed_components fs added in
    let spots = c.loop-place.spots.items in
    let sorted = c.sort_by.new.self.items in
    let by = on (λ (s : Spot). s.1) tag_cmp in
    let lt : Spot → Spot → Bool = λ p q. is_lt (by p q) in
    let order : IsStrictWeakOrder lt = ranks_by tag_cmp-total (λ (s : Spot). s.1) in
    let up : sorted ≡ sort by spots
    = sorted-stable by (on_total (λ (s : Spot). s.1) tag_cmp-total) spots sorted
    (c.in_ok-sort_by.ensures.sorted lt order (always_returns_same _ _ _ (λ a r q k. search rules)))
    (c.in_ok-sort_by.ensures.stable lt order (always_returns_same _ _ _ (λ a r q k. search rules))) in
    let listed : fields_in s ≡ cs = ap fields_in e in
    let first : root ≡ length (field_names fs) = c.root_count-root.ensures around ∙ ap root_count_in e in
    let same : length (fields_in s) ≡ length (fields_in (g.P.Part.shape [] part)) =
    sym (length-map (fields_in s) (λ (c : Component). c.name)) ∙ ap length (g.met.P.Part.same_names around part) ∙ length-map (fields_in (g.P.Part.shape [] part)) (λ (c : Component). c.name) in
    let all : count ≡ length cs = c.field_count-count.ensures ∙ sym same ∙ ap length listed in
    let ended : c.loop-place.place ≡ root = omega (arith, c.loop-place-test.false, c.loop-place.auto.place-end) in
    let is : spots ≡ map spot_of (take root (placed 0 cs)) = c.loop-place.invariant around ∙ (λ i. map spot_of (take (ended i) (placed 0 (listed i)))) in
    let over : c.loop-place-2.place ≡ count = omega (arith, c.loop-place-2-test.false, c.loop-place-2.auto.place-end, c.root_count-root.ensures [], c.field_count-count.ensures, root-within (g.P.Part.shape [] part)) in
    c.loop-place-2.invariant ∙ ap (λ p. map (λ (s : Spot). s.0) sorted ++ counted root (p - root)) over
    ∙ order-read fs added root count spots sorted first all is up
