use Rattle.std.proofs.Common.{reverse, ◌∙◌, ap}
use Rattle.asn_slots.specs.Frames.{last_start}
use Rattle.asn_slots.proofs.Flat.{closes}
use Rattle.asn_slots.proofs.frames.Frames.close.Goals as goal

pub returns-clause-closed : goal.returns-clause-closed
returns-clause-closed g c =
    closes c.args.self.now c.self.inside.slots.items c.split_off.new.self.items c.in_ok-slots.slots.items (reverse c.self.inside.starts.items) (reverse c.forget_last.new.starts.items) c.last_start.result
    c.self.view_is (c.last_start.ensures ∙ ap (λ s. last_start (reverse s)) c.deref.ensures.value) c.forget_last.ensures c.in_ok-slots.ensures.tail c.in_ok-slots.ensures.items
