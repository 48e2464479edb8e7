use Rattle.asn_value_refusals.proofs.Excerpts.{last_line_from, last_line_of}
use Rattle.asn_value_refusals.proofs.shown.last_line.Goals as goal

pub returns-in-Some : goal.returns-in-Some
returns-in-Some c = last_line_from c.args.text.now c.rsplit_once.result _ c.rsplit_once.ensures.cases c.in-Some.is

pub returns-in-None : goal.returns-in-None
returns-in-None c = last_line_of c.args.text.now c.rsplit_once.result c.rsplit_once.ensures.cases c.in-None.is
