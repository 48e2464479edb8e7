use Rattle.std.proofs.Common.{sym, ◌∙◌}
use Rattle.avn_frames.proofs.Rearranged.{present_stay, arranged_slots}
use Rattle.avn_frames.proofs.Walking.{stand_present}
use Rattle.avn_frames.proofs.arranging.keep_present.Goals as goal

pub returns-then-not-has_absent : goal.returns-then-not-has_absent
returns-then-not-has_absent c = present_stay c.args.nodes.now c.args.from c.requires.slots (sym c.has_absent.ensures ∙ c.if-not-has_absent.true)

pub arrange-requires-clause-subtrees : goal.arrange-requires-clause-subtrees
arrange-requires-clause-subtrees c = (stand_present c.args.nodes.now.nodes c.args.from c.deref.result.now c.requires.slots (c.deref.ensures.value ∙ c.in_ok-places.ensures)).here

pub returns : goal.returns
returns c = arranged_slots c.arrange.result c.args.nodes.now c.arrange.new.self c.args.from c.deref.result.now _ (stand_present c.args.nodes.now.nodes c.args.from c.deref.result.now c.requires.slots (c.deref.ensures.value ∙ c.in_ok-places.ensures)) c.arrange.ensures
