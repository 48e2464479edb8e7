use Rattle.std.proofs.Common.{◌≡◌, arith, length, ◌∙◌}
use Rattle.jer_rules.proofs.Building.{onto-inserted, onto-passed}
use Rattle.jer_rules.proofs.jer.build.members_of.Goals as goal

pub loop-slot-preserved-in-Continue-branch-3 : goal.loop-slot-preserved-in-Continue-branch-3
loop-slot-preserved-in-Continue-branch-3 g c =
    let left = c.pop.new.self in
    let place : c.len-in-Some-slot.result ≡ length left.items = omega (arith, c.len-in-Some-slot.ensures, left.ok.0) in
    onto-inserted _ left.items _ _ _ _ _ _ (rw c.in-Some-slot.is at c.in-Some.ensures.items) (c.in_ok-name.ensures ∙ c.encoded_name.ensures) place c.in_ok-put_member.ensures ∙ c.loop-slot.invariant

pub loop-slot-preserved : goal.loop-slot-preserved
loop-slot-preserved g c = onto-passed _ _ _ _ (rw c.in_default-slot.is at c.in-Some.ensures.items) ∙ c.loop-slot.invariant
