use Rattle.asn_modules_rules.proofs.values.leads.+past.Given as goal

abbrev pub decreases-leads_past : goal.decreases-leads_past
decreases-leads_past l = l.others
