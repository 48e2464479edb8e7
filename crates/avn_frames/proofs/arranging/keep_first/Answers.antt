use Rattle.avn_frames.proofs.Rearranged.{first_kept}
use Rattle.avn_frames.proofs.arranging.keep_first.Goals as goal
use Rattle.std.proofs.Common.{sym, ◌∙◌}

pub returns : goal.returns
returns c = first_kept c.args.nodes.now c.truncate-2.new.self c.args.from c.end-end.result c.kind.result c.requires.within c.requires.slots (λ e. c.if-from-len.false (e ∙ sym c.len.ensures)) c.kind.ensures c.in_default.not-Absent c.end-end.ensures c.truncate-2.ensures
