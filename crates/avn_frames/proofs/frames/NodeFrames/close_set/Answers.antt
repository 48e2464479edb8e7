use Rattle.std.proofs.Common.{arith, reverse}
use Rattle.avn_frames.proofs.Framing.{closable, only_root, place_below, set_done}
use Rattle.avn_frames.proofs.frames.NodeFrames.close_set.Goals as goal

pub overflow_add-place : goal.overflow_add-place
overflow_add-place c =
    let k = closable c.self.inside.nodes (reverse c.self.inside.places.items) c.take_place-place.result (reverse c.take_place-place.new.places.items) c.put_above_root.new.self c.self.invariant c.self.view_is c.take_place-place.ensures in
    omega (arith, k.within, c.len-count.ensures)

pub sort_present-requires-clause-within : goal.sort_present-requires-clause-within
sort_present-requires-clause-within c = (closable c.self.inside.nodes (reverse c.self.inside.places.items) c.take_place-place.result (reverse c.take_place-place.new.places.items) c.put_above_root.new.self c.self.invariant c.self.view_is c.take_place-place.ensures).within

pub sort_present-requires-clause-slots : goal.sort_present-requires-clause-slots
sort_present-requires-clause-slots c = (closable c.self.inside.nodes (reverse c.self.inside.places.items) c.take_place-place.result (reverse c.take_place-place.new.places.items) c.put_above_root.new.self c.self.invariant c.self.view_is c.take_place-place.ensures).slots

pub close-requires-clause-below : goal.close-requires-clause-below
close-requires-clause-below c =
    let k = closable c.self.inside.nodes (reverse c.self.inside.places.items) c.take_place-place.result (reverse c.take_place-place.new.places.items) c.put_above_root.new.self c.self.invariant c.self.view_is c.take_place-place.ensures in
    place_below c.self.inside.nodes c.sort_present.new.nodes c.take_place-place.result _ _ k _ c.in-Ok.ensures

pub invariant_of-self : goal.invariant_of-self
invariant_of-self c =
    let k = closable c.self.inside.nodes (reverse c.self.inside.places.items) c.take_place-place.result (reverse c.take_place-place.new.places.items) c.put_above_root.new.self c.self.invariant c.self.view_is c.take_place-place.ensures in
    (set_done c.self.inside.nodes c.sort_present.new.nodes c.close.new.self c.take_place-place.result (reverse c.take_place-place.new.places.items) c.put_above_root.new.self c.args.self.now k c.in_ok-put_above_root.ensures c.in-Ok.ensures c.close.ensures).holds

pub invariant_of-self-in-Err : goal.invariant_of-self-in-Err
invariant_of-self-in-Err c = (only_root _ _ c.start_over.ensures.nodes c.start_over.ensures.places).holds

pub returns-in-Ok : goal.returns-in-Ok
returns-in-Ok c =
    let k = closable c.self.inside.nodes (reverse c.self.inside.places.items) c.take_place-place.result (reverse c.take_place-place.new.places.items) c.put_above_root.new.self c.self.invariant c.self.view_is c.take_place-place.ensures in
    (set_done c.self.inside.nodes c.sort_present.new.nodes c.close.new.self c.take_place-place.result (reverse c.take_place-place.new.places.items) c.put_above_root.new.self c.args.self.now k c.in_ok-put_above_root.ensures c.in-Ok.ensures c.close.ensures).lists
