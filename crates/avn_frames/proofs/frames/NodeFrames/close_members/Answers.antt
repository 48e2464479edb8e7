use Rattle.std.proofs.Common.{arith, reverse}
use Rattle.asn_names.specs.Rows.{name_at}
use Rattle.avn_frames.proofs.Framing.{closable, only_root, place_below, members_done}
use Rattle.avn_frames.proofs.frames.NodeFrames.close_members.Goals as goal

pub overflow_add-place : goal.overflow_add-place
overflow_add-place g c =
    let k = closable c.self.inside.nodes (reverse c.self.inside.places.items) c.take_place-place.result (reverse c.take_place-place.new.places.items) c.put_above_root.new.self c.self.invariant c.self.view_is c.take_place-place.ensures in
    omega (arith, k.within, c.len-count.ensures)

pub name_slots-requires-clause-within : goal.name_slots-requires-clause-within
name_slots-requires-clause-within g c = (closable c.self.inside.nodes (reverse c.self.inside.places.items) c.take_place-place.result (reverse c.take_place-place.new.places.items) c.put_above_root.new.self c.self.invariant c.self.view_is c.take_place-place.ensures).within

pub name_slots-requires-clause-slots : goal.name_slots-requires-clause-slots
name_slots-requires-clause-slots g c = (closable c.self.inside.nodes (reverse c.self.inside.places.items) c.take_place-place.result (reverse c.take_place-place.new.places.items) c.put_above_root.new.self c.self.invariant c.self.view_is c.take_place-place.ensures).slots

pub close-requires-clause-below : goal.close-requires-clause-below
close-requires-clause-below g c =
    let k = closable c.self.inside.nodes (reverse c.self.inside.places.items) c.take_place-place.result (reverse c.take_place-place.new.places.items) c.put_above_root.new.self c.self.invariant c.self.view_is c.take_place-place.ensures in
    place_below c.self.inside.nodes c.name_slots.new.nodes c.take_place-place.result _ _ k _ c.in-Ok.ensures

pub invariant_of-self : goal.invariant_of-self
invariant_of-self g c =
    let k = closable c.self.inside.nodes (reverse c.self.inside.places.items) c.take_place-place.result (reverse c.take_place-place.new.places.items) c.put_above_root.new.self c.self.invariant c.self.view_is c.take_place-place.ensures in
    (members_done (name_at (g.N.NameList.rows c.args.names.now)) c.self.inside.nodes c.name_slots.new.nodes c.close.new.self c.take_place-place.result (reverse c.take_place-place.new.places.items) c.put_above_root.new.self c.args.self.now k c.in_ok-put_above_root.ensures c.in-Ok.ensures c.close.ensures).holds

pub invariant_of-self-in-Err : goal.invariant_of-self-in-Err
invariant_of-self-in-Err g c = (only_root _ _ c.start_over.ensures.nodes c.start_over.ensures.places).holds

pub returns-in-Ok : goal.returns-in-Ok
returns-in-Ok g c =
    let k = closable c.self.inside.nodes (reverse c.self.inside.places.items) c.take_place-place.result (reverse c.take_place-place.new.places.items) c.put_above_root.new.self c.self.invariant c.self.view_is c.take_place-place.ensures in
    (members_done (name_at (g.N.NameList.rows c.args.names.now)) c.self.inside.nodes c.name_slots.new.nodes c.close.new.self c.take_place-place.result (reverse c.take_place-place.new.places.items) c.put_above_root.new.self c.args.self.now k c.in_ok-put_above_root.ensures c.in-Ok.ensures c.close.ensures).lists
