use Rattle.std.proofs.Common.{◌∙◌, ◌++◌, ap, sym, ◌≤◌, length, reverse, drop, arith, append-nil, Some, None}
use Rattle.asn_slots.specs.Slots.{present_of}
use Rattle.asn_slots.proofs.Flat.{present_taken, front_stays}
use Rattle.asn_slots.proofs.slots.take_present.Goals as goal

pub taking-preserved-in-Some : goal.taking-preserved-in-Some
taking-preserved-in-Some g c =
    let within : c.args.start ≤ length c.take_last.new.self.items = omega (arith, c.taking.slots.ok.0, c.take_last.new.self.ok.0) in
    record {
      within = omega arith;
      present = ap (λ r. present_of (drop c.args.start c.take_last.new.self.items) ++ reverse r) c.push_reserved.ensures.items
          ∙ present_taken c.taking.slots.items c.take_last.new.self.items c.args.start (Some c.in-Some.value) c.taking.values.items (present_of (drop c.args.start c.args.slots.now.items)) c.in-Some.ensures.items within c.taking.invariant.present;
      front = front_stays c.taking.slots.items c.take_last.new.self.items c.args.start (Some c.in-Some.value) c.in-Some.ensures.items within ∙ c.taking.invariant.front;
      room = omega arith;
    }

pub taking-preserved : goal.taking-preserved
taking-preserved g c =
    let within : c.args.start ≤ length c.take_last.new.self.items = omega (arith, c.taking.slots.ok.0, c.take_last.new.self.ok.0) in
    record {
      within = omega arith;
      present = ap (λ r. present_of (drop c.args.start c.take_last.new.self.items) ++ reverse r) (sym (append-nil c.taking.values.items))
          ∙ present_taken c.taking.slots.items c.take_last.new.self.items c.args.start None c.taking.values.items (present_of (drop c.args.start c.args.slots.now.items)) c.in_default.ensures.items within c.taking.invariant.present;
      front = front_stays c.taking.slots.items c.take_last.new.self.items c.args.start None c.in_default.ensures.items within ∙ c.taking.invariant.front;
      room = omega arith;
    }
