use Rattle.std.proofs.Common.{◌+◌, arith, reverse, subst}
use Rattle.asn_slots.specs.Slots.{first_of}
use Rattle.avn_frames.specs.Arranged.{KeepsFirst}
use Rattle.avn_frames.specs.Listing.{slots_from}
use Rattle.avn_frames.proofs.Framing.{closable, choice_absent, choice_done, first_there, named_below, only_root}
use Rattle.avn_frames.proofs.frames.NodeFrames.close_choice.Goals as goal

pub overflow_add-place : goal.overflow_add-place
overflow_add-place c =
    let k = closable c.self.inside.nodes (reverse c.self.inside.places.items) c.take_place-place.result (reverse c.take_place-place.new.places.items) c.put_above_root.new.self c.self.invariant c.self.view_is c.take_place-place.ensures in
    omega (arith, k.within, c.len-count.ensures)

pub keep_first-requires-clause-within : goal.keep_first-requires-clause-within
keep_first-requires-clause-within c = (closable c.self.inside.nodes (reverse c.self.inside.places.items) c.take_place-place.result (reverse c.take_place-place.new.places.items) c.put_above_root.new.self c.self.invariant c.self.view_is c.take_place-place.ensures).within

pub keep_first-requires-clause-slots : goal.keep_first-requires-clause-slots
keep_first-requires-clause-slots c = (closable c.self.inside.nodes (reverse c.self.inside.places.items) c.take_place-place.result (reverse c.take_place-place.new.places.items) c.put_above_root.new.self c.self.invariant c.self.view_is c.take_place-place.ensures).slots

pub invariant_of-self : goal.invariant_of-self
invariant_of-self c =
    let k = closable c.self.inside.nodes (reverse c.self.inside.places.items) c.take_place-place.result (reverse c.take_place-place.new.places.items) c.put_above_root.new.self c.self.invariant c.self.view_is c.take_place-place.ensures in
    let none = subst (KeepsFirst c.self.inside.nodes c.keep_first.new.nodes (c.take_place-place.result + 1) (first_of (slots_from c.self.inside.nodes.nodes (c.take_place-place.result + 1)))) (c.if-not-keep_first.true) c.keep_first.ensures in
    (choice_absent c.args.identifier.now c.self.inside.nodes c.keep_first.new.nodes c.take_place-place.result (reverse c.take_place-place.new.places.items) c.put_above_root.new.self c.args.self.now k c.in_ok-put_above_root.ensures none).holds

pub returns-then-not-keep_first : goal.returns-then-not-keep_first
returns-then-not-keep_first c =
    let k = closable c.self.inside.nodes (reverse c.self.inside.places.items) c.take_place-place.result (reverse c.take_place-place.new.places.items) c.put_above_root.new.self c.self.invariant c.self.view_is c.take_place-place.ensures in
    let none = subst (KeepsFirst c.self.inside.nodes c.keep_first.new.nodes (c.take_place-place.result + 1) (first_of (slots_from c.self.inside.nodes.nodes (c.take_place-place.result + 1)))) (c.if-not-keep_first.true) c.keep_first.ensures in
    (choice_absent c.args.identifier.now c.self.inside.nodes c.keep_first.new.nodes c.take_place-place.result (reverse c.take_place-place.new.places.items) c.put_above_root.new.self c.args.self.now k c.in_ok-put_above_root.ensures none).lists

pub overflow_add-place-2 : goal.overflow_add-place-2
overflow_add-place-2 c =
    let k = closable c.self.inside.nodes (reverse c.self.inside.places.items) c.take_place-place.result (reverse c.take_place-place.new.places.items) c.put_above_root.new.self c.self.invariant c.self.view_is c.take_place-place.ensures in
    omega (arith, k.within, c.len-count.ensures)

pub name_last-requires-clause-within : goal.name_last-requires-clause-within
name_last-requires-clause-within c =
    let k = closable c.self.inside.nodes (reverse c.self.inside.places.items) c.take_place-place.result (reverse c.take_place-place.new.places.items) c.put_above_root.new.self c.self.invariant c.self.view_is c.take_place-place.ensures in
    let there = subst (KeepsFirst c.self.inside.nodes c.keep_first.new.nodes (c.take_place-place.result + 1) (first_of (slots_from c.self.inside.nodes.nodes (c.take_place-place.result + 1)))) (c.if-not-keep_first.false) c.keep_first.ensures in
    first_there c.self.inside.nodes c.keep_first.new.nodes c.take_place-place.result (reverse c.take_place-place.new.places.items) c.put_above_root.new.self k there

pub close-requires-clause-below : goal.close-requires-clause-below
close-requires-clause-below c =
    let k = closable c.self.inside.nodes (reverse c.self.inside.places.items) c.take_place-place.result (reverse c.take_place-place.new.places.items) c.put_above_root.new.self c.self.invariant c.self.view_is c.take_place-place.ensures in
    let there = subst (KeepsFirst c.self.inside.nodes c.keep_first.new.nodes (c.take_place-place.result + 1) (first_of (slots_from c.self.inside.nodes.nodes (c.take_place-place.result + 1)))) (c.if-not-keep_first.false) c.keep_first.ensures in
    named_below c.self.inside.nodes c.keep_first.new.nodes c.name_last.new.nodes c.take_place-place.result (reverse c.take_place-place.new.places.items) c.put_above_root.new.self k there c.args.identifier.now c.in-Ok.ensures

pub invariant_of-self-in-Ok : goal.invariant_of-self-in-Ok
invariant_of-self-in-Ok c =
    let k = closable c.self.inside.nodes (reverse c.self.inside.places.items) c.take_place-place.result (reverse c.take_place-place.new.places.items) c.put_above_root.new.self c.self.invariant c.self.view_is c.take_place-place.ensures in
    let there = subst (KeepsFirst c.self.inside.nodes c.keep_first.new.nodes (c.take_place-place.result + 1) (first_of (slots_from c.self.inside.nodes.nodes (c.take_place-place.result + 1)))) (c.if-not-keep_first.false) c.keep_first.ensures in
    (choice_done c.args.identifier.now c.self.inside.nodes c.keep_first.new.nodes c.name_last.new.nodes c.close.new.self c.take_place-place.result (reverse c.take_place-place.new.places.items) c.put_above_root.new.self c.args.self.now k c.in_ok-put_above_root.ensures there c.in-Ok.ensures c.close.ensures).holds

pub invariant_of-self-in-Err : goal.invariant_of-self-in-Err
invariant_of-self-in-Err c = (only_root _ _ c.start_over.ensures.nodes c.start_over.ensures.places).holds

pub returns-in-Ok : goal.returns-in-Ok
returns-in-Ok c =
    let k = closable c.self.inside.nodes (reverse c.self.inside.places.items) c.take_place-place.result (reverse c.take_place-place.new.places.items) c.put_above_root.new.self c.self.invariant c.self.view_is c.take_place-place.ensures in
    let there = subst (KeepsFirst c.self.inside.nodes c.keep_first.new.nodes (c.take_place-place.result + 1) (first_of (slots_from c.self.inside.nodes.nodes (c.take_place-place.result + 1)))) (c.if-not-keep_first.false) c.keep_first.ensures in
    (choice_done c.args.identifier.now c.self.inside.nodes c.keep_first.new.nodes c.name_last.new.nodes c.close.new.self c.take_place-place.result (reverse c.take_place-place.new.places.items) c.put_above_root.new.self c.args.self.now k c.in_ok-put_above_root.ensures there c.in-Ok.ensures c.close.ensures).lists
