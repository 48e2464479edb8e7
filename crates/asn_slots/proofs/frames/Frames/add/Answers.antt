use Rattle.std.proofs.Common.{reverse, ◌∙◌, ◌++◌, ◌∷◌, [], ap, arith, length}
use Rattle.asn_slots.specs.Frames.{frames_from, push}
use Rattle.asn_slots.proofs.Flat.{one_more, risen}
use Rattle.asn_slots.proofs.frames.Frames.add.Goals as goal

pub returns-clause-added : goal.returns-clause-added
returns-clause-added g c =
    ap (λ s. frames_from s (reverse c.self.inside.starts.items)) (c.push_reserved.ensures.items ∙ ap (λ s. s ++ c.args.slot ∷ []) c.in_ok-reserve.ensures.items) ∙ one_more c.args.slot c.self.inside.slots.items (reverse c.self.inside.starts.items) c.self.invariant ∙ ap (push c.args.slot) c.self.view_is

pub invariant_of-self-2 : goal.invariant_of-self-2
invariant_of-self-2 g c = risen (length c.self.inside.slots.items) (length c.push_reserved.new.self.items) (reverse c.self.inside.starts.items) (omega (arith, c.self.inside.slots.ok.0, c.push_reserved.new.self.ok.0)) c.self.invariant
