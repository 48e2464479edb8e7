use Rattle.std.proofs.Common.{sym, ◌∙◌}
use Rattle.asn_convert.proofs.Forms.{no_growth}
use Rattle.asn_convert.proofs.request.of_three_words.Goals as goal

pub returns-in_default : goal.returns-in_default
returns-in_default c = c.conversion.ensures ∙ sym (no_growth c.args.first.now c.args.second.now c.args.third.now c.in_default.not-grows)
