use Rattle.std.proofs.Common.{◌≡◌, [], length, arith}
use Rattle.std.proofs.lemmas.List.{nil_from_length}
use Rattle.avn_frames.proofs.Framing.{only_root, put_above}
use Rattle.std.proofs.lemmas.Grind.{common_steps}
use Rattle.avn_frames.proofs.frames.NodeFrames.put_above_root.Goals as goal

pub invariant_of-self-in-Ok : goal.invariant_of-self-in-Ok
invariant_of-self-in-Ok c =
    let zero : length c.self.inside.places.items ≡ 0 = grind (arith, common_steps) in
    let none : c.self.inside.places.items ≡ [] = nil_from_length c.self.inside.places.items zero in
    (put_above c.self.inside.nodes c.put_absent_first.new.nodes c.self.inside.places.items c.push.new.self.items c.args.self.now c.self.invariant c.self.view_is none c.in_ok-push.ensures.items c.in-Ok.ensures).holds

pub invariant_of-self-in-Err : goal.invariant_of-self-in-Err
invariant_of-self-in-Err c = (only_root _ _ c.start_over.ensures.nodes c.start_over.ensures.places).holds

pub returns-in-Ok : goal.returns-in-Ok
returns-in-Ok c =
    let zero : length c.self.inside.places.items ≡ 0 = grind (arith, common_steps) in
    let none : c.self.inside.places.items ≡ [] = nil_from_length c.self.inside.places.items zero in
    (put_above c.self.inside.nodes c.put_absent_first.new.nodes c.self.inside.places.items c.push.new.self.items c.args.self.now c.self.invariant c.self.view_is none c.in_ok-push.ensures.items c.in-Ok.ensures).lists
