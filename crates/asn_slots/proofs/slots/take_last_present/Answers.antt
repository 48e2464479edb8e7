use Rattle.std.proofs.Common.{◌∙◌, sym, ◌≤◌, length, arith, Some, None}
use Rattle.asn_slots.proofs.Flat.{last_taken, front_stays}
use Rattle.asn_slots.proofs.slots.take_last_present.Goals as goal

pub returns-in-Some-clause-last : goal.returns-in-Some-clause-last
returns-in-Some-clause-last g c =
    let within : c.args.start ≤ length c.take_last.new.self.items = omega (arith, c.taking.slots.ok.0, c.take_last.new.self.ok.0) in
    sym (last_taken c.taking.slots.items c.take_last.new.self.items c.args.start (Some c.in-Some.value) c.in-Some.ensures.items within) ∙ c.taking.invariant.last

pub taking-preserved : goal.taking-preserved
taking-preserved g c =
    let within : c.args.start ≤ length c.take_last.new.self.items = omega (arith, c.taking.slots.ok.0, c.take_last.new.self.ok.0) in
    record {
      within = omega arith;
      last = sym (last_taken c.taking.slots.items c.take_last.new.self.items c.args.start None c.in_default.ensures.items within) ∙ c.taking.invariant.last;
      front = front_stays c.taking.slots.items c.take_last.new.self.items c.args.start None c.in_default.ensures.items within ∙ c.taking.invariant.front;
    }
