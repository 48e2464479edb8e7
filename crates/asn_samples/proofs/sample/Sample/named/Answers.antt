use Rattle.std.proofs.Common.{sym, ◌∙◌}
use Rattle.asn_samples.specs.Samples.{described_samples, plain_samples}
use Rattle.asn_samples.proofs.Rows.{named_in_first, named_in_second}
use Rattle.asn_samples.proofs.sample.Sample.named.Goals as goal

pub returns-in-Some : goal.returns-in-Some
returns-in-Some c = named_in_first plain_samples described_samples c.args.name.now c.in-Some.sample (sym c.in-Some.is ∙ c.plain_named.ensures)

pub returns-in-None : goal.returns-in-None
returns-in-None c = c.described_named.ensures ∙ named_in_second plain_samples described_samples c.args.name.now (sym c.in-None.is ∙ c.plain_named.ensures)
