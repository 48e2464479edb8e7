use Rattle.asn_modules_names.proofs.sources.Reading.{ReadUpTo}
use Rattle.asn_modules_names.proofs.sources.sources.read_sources.Given as goal

abbrev pub invariant-loop-named : goal.invariant-loop-named
invariant-loop-named l = ReadUpTo l.texts l.named-index l.sources.items
