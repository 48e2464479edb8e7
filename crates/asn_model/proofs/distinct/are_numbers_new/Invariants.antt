use Rattle.std.proofs.Common.{map}
use Rattle.asn_model.proofs.Repeats.{AreNew, same_pair, same_pair_symm, tag_pair}
use Rattle.asn_model.proofs.distinct.are_numbers_new.Given as goal

abbrev pub invariant-loop-tag : goal.invariant-loop-tag
invariant-loop-tag l = AreNew same_pair same_pair_symm l.seen (map tag_pair l.tags) l.tag-index
