use Rattle.asn_model.proofs.Repeats.{AreNew, same_text, same_text_symm}
use Rattle.asn_model.proofs.distinct.are_texts_new.Given as goal

abbrev pub invariant-loop-text : goal.invariant-loop-text
invariant-loop-text l = AreNew same_text same_text_symm l.seen l.texts l.text-index
