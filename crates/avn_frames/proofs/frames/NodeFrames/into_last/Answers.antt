use Rattle.std.proofs.Common.{◌≡◌, Some, ap, sym, subst, ◌∙◌, arith, reverse}
use Rattle.asn_slots.specs.Frames.{last_start}
use Rattle.avn_frames.specs.Listing.{AreSlots, slots_begin}
use Rattle.avn_frames.specs.Places.{IsLastPlace}
use Rattle.avn_frames.proofs.Framing.{last_slots, last_alone, last_lists}
use Rattle.avn_frames.proofs.frames.NodeFrames.into_last.Goals as goal

pub first_slot-from-requires : goal.first_slot-from-requires
first_slot-from-requires c =
    let k = last_slots c.self.inside.nodes (reverse c.self.inside.places.items) c.args.self c.self.invariant c.self.view_is in
    let same = ap (λ x. last_start (reverse x)) c.deref.ensures.value in
    omega (arith, k.bound, same, c.len-count.ensures, c.len-count.type_inv)

pub last_place-requires : goal.last_place-requires
last_place-requires c =
    let k = last_slots c.self.inside.nodes (reverse c.self.inside.places.items) c.args.self c.self.invariant c.self.view_is in
    subst (AreSlots c.self.inside.nodes.nodes) (sym (c.first_slot-from.ensures ∙ ap (λ x. slots_begin (reverse x)) c.deref.ensures.value)) k.slots

pub keep_alone-requires-clause-tree : goal.keep_alone-requires-clause-tree
keep_alone-requires-clause-tree c =
    let nodes = c.self.inside.nodes.nodes in
    let at : c.first_slot-from.result ≡ slots_begin (reverse c.self.inside.places.items) = c.first_slot-from.ensures ∙ ap (λ x. slots_begin (reverse x)) c.deref.ensures.value in
    let found : IsLastPlace nodes (slots_begin (reverse c.self.inside.places.items)) (Some c.in-Some.node) = subst (λ i. IsLastPlace nodes i (Some c.in-Some.node)) at (subst (IsLastPlace nodes c.first_slot-from.result) c.in-Some.is c.last_place.ensures) in
    last_lists nodes (slots_begin (reverse c.self.inside.places.items)) c.in-Some.node found

pub returns-in-Some : goal.returns-in-Some
returns-in-Some c =
    let k = last_slots c.self.inside.nodes (reverse c.self.inside.places.items) c.args.self c.self.invariant c.self.view_is in
    let nodes = c.self.inside.nodes.nodes in
    let at : c.first_slot-from.result ≡ slots_begin (reverse c.self.inside.places.items) = c.first_slot-from.ensures ∙ ap (λ x. slots_begin (reverse x)) c.deref.ensures.value in
    let found : IsLastPlace nodes (slots_begin (reverse c.self.inside.places.items)) (Some c.in-Some.node) = subst (λ i. IsLastPlace nodes i (Some c.in-Some.node)) at (subst (IsLastPlace nodes c.first_slot-from.result) c.in-Some.is c.last_place.ensures) in
    last_alone c.self.inside.nodes _ (slots_begin (reverse c.self.inside.places.items)) c.in-Some.node _ found k.lists c.in_ok-keep_alone-in-Some.ensures
