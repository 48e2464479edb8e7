use Rattle.asn_modules_types.proofs.defaults.+words.Given as goal

abbrev pub decreases-number_word : goal.decreases-number_word
decreases-number_word l = l.more
