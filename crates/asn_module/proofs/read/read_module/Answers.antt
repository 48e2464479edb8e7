use Rattle.asn_module_text.proofs.Parsed.{module_proper}
use Rattle.asn_module.proofs.read.read_module.Goals as goal

pub returns-clause-proper : goal.returns-clause-proper
returns-clause-proper c = record {
  proper = module_proper c.in_ok-module.ensures.ok;
  distinct = c.in_ok-check_names.ensures.distinct;
  assigned = c.in_ok-check_names.ensures.assigned;
}
