use Rattle.asn_modules_rules.proofs.included.types.+follow.Given as goal

abbrev pub decreases-stands_for : goal.decreases-stands_for
decreases-stands_for l = l.more
