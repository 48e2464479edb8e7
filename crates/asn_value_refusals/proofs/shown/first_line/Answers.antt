use Rattle.asn_value_refusals.proofs.Excerpts.{first_line_from, first_line_of}
use Rattle.asn_value_refusals.proofs.shown.first_line.Goals as goal

pub returns-in-Some : goal.returns-in-Some
returns-in-Some c = first_line_from c.args.text.now c.split_once.result _ c.split_once.ensures.cases c.in-Some.is

pub returns-in-None : goal.returns-in-None
returns-in-None c = first_line_of c.args.text.now c.split_once.result c.split_once.ensures.cases c.in-None.is
