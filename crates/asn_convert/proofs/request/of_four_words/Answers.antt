use Rattle.std.proofs.Common.{ap, sym, ◌∙◌}
use Rattle.asn_convert.proofs.Forms.{no_keeping}
use Rattle.asn_convert.specs.Requests.{conversion_for, notation_named}
use Rattle.asn_samples.specs.Samples.{sample_named}
use Rattle.asn_convert.proofs.request.of_four_words.Goals as goal

pub returns-in_default : goal.returns-in_default
returns-in_default c =
    c.conversion.ensures ∙ ap (conversion_for (notation_named c.args.first.now) (notation_named c.args.second.now) (sample_named c.args.third.now)) c.level_limit.ensures
    ∙ sym (no_keeping c.args.first.now c.args.second.now c.args.third.now c.args.fourth.now c.in_default.not-keep)
