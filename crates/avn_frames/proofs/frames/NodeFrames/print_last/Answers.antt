use Rattle.std.proofs.Common.{◌≡◌, [], Some, ap, sym, subst, ◌∙◌, arith, reverse}
use Rattle.std.specs.Prelude.{option_map}
use Rattle.asn_slots.specs.Frames.{last_start}
use Rattle.avn_grammar.specs.Print.{print}
use Rattle.avn_frames.specs.Listing.{AreSlots, slots_begin}
use Rattle.avn_frames.specs.Places.{IsLastPlace}
use Rattle.avn_frames.proofs.Framing.{last_slots, last_tree, last_lists}
use Rattle.avn_frames.proofs.frames.NodeFrames.print_last.Goals as goal

pub first_slot-requires : goal.first_slot-requires
first_slot-requires c =
    let k = last_slots c.self.inside.nodes (reverse c.self.inside.places.items) c.args.self.now c.self.invariant c.self.view_is in
    let same = ap (λ x. last_start (reverse x)) c.deref.ensures.value in
    omega (arith, k.bound, same, c.len-count.ensures, c.len-count.type_inv)

pub last_place-requires : goal.last_place-requires
last_place-requires c =
    let k = last_slots c.self.inside.nodes (reverse c.self.inside.places.items) c.args.self.now c.self.invariant c.self.view_is in
    subst (AreSlots c.self.inside.nodes.nodes) (sym (c.first_slot.ensures ∙ ap (λ x. slots_begin (reverse x)) c.deref.ensures.value)) k.slots

pub print_with_room-requires : goal.print_with_room-requires
print_with_room-requires c =
    let nodes = c.self.inside.nodes.nodes in
    let at : c.first_slot.result ≡ slots_begin (reverse c.self.inside.places.items) = c.first_slot.ensures ∙ ap (λ x. slots_begin (reverse x)) c.deref.ensures.value in
    let found : IsLastPlace nodes (slots_begin (reverse c.self.inside.places.items)) (Some c.in-Some.node) = subst (λ i. IsLastPlace nodes i (Some c.in-Some.node)) at (subst (IsLastPlace nodes c.first_slot.result) c.in-Some.is c.last_place.ensures) in
    ([], last_lists nodes (slots_begin (reverse c.self.inside.places.items)) c.in-Some.node found)

pub returns-in_ok-print_with_room-in-Some : goal.returns-in_ok-print_with_room-in-Some
returns-in_ok-print_with_room-in-Some c =
    let k = last_slots c.self.inside.nodes (reverse c.self.inside.places.items) c.args.self.now c.self.invariant c.self.view_is in
    let nodes = c.self.inside.nodes.nodes in
    let at : c.first_slot.result ≡ slots_begin (reverse c.self.inside.places.items) = c.first_slot.ensures ∙ ap (λ x. slots_begin (reverse x)) c.deref.ensures.value in
    let found : IsLastPlace nodes (slots_begin (reverse c.self.inside.places.items)) (Some c.in-Some.node) = subst (λ i. IsLastPlace nodes i (Some c.in-Some.node)) at (subst (IsLastPlace nodes c.first_slot.result) c.in-Some.is c.last_place.ensures) in
    ap Some c.in_ok-print_with_room-in-Some.ensures ∙ ap (option_map (print 0)) (sym (last_tree nodes (slots_begin (reverse c.self.inside.places.items)) c.in-Some.node _ found k.lists))
