use Rattle.std.proofs.Common.{◌∙◌}
use Rattle.asn_modules_types.proofs.named_numbers.numbers.NamedNumbers.constant.Goals as goal

pub returns : goal.returns
returns c = λ types is. c.copied.ensures ∙ c.get.ensures.value ∙ is.first (c.args.number, c.args.word)
