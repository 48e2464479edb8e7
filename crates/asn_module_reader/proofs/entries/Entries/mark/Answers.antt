use Rattle.std.proofs.Common.{refl}
use Rattle.asn_module_reader.proofs.EntriesSeen.{marked_last}
use Rattle.asn_module_reader.proofs.entries.Entries.mark.Goals as goal

pub returns : goal.returns
returns g c = marked_last c.args.self.now c.args.self.now.added c.new.result refl c.requires c.new.ensures.items
