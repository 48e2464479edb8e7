use Rattle.asn_modules_types.proofs.defaults.+defaults.Given as goal

abbrev pub decreases-default_from : goal.decreases-default_from
decreases-default_from l = l.more
