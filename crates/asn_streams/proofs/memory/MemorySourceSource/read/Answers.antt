use Rattle.asn_streams.proofs.CallsLemmas.{counted_cause}
use Rattle.asn_streams.proofs.memory.MemorySourceSource.read.Goals as goal

pub returns-then-next_fails-clause-cause : goal.returns-then-next_fails-clause-cause
returns-then-next_fails-clause-cause c = counted_cause c.args.self.now.calls c.next_fails.new.self c.fail.new.self c.fail.result _ c.next_fails.ensures.made c.fail.ensures.counted c.fail.ensures.later
