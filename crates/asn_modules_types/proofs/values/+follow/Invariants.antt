use Rattle.asn_modules_types.proofs.values.+follow.Given as goal

abbrev pub decreases-number_from : goal.decreases-number_from
decreases-number_from l = l.more
