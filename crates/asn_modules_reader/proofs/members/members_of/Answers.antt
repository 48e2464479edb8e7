use Rattle.asn_modules_reader.proofs.Viewing.{plain_members, extended_members}
use Rattle.asn_modules_reader.proofs.members.members_of.Goals as goal

pub returns-in-None : goal.returns-in-None
returns-in-None c = let es = c.args.entries in plain_members es.root es.added es.tail c.in-None.is

pub returns-in-Some : goal.returns-in-Some
returns-in-Some c = let es = c.args.entries in extended_members es.root c.in-Some.additions es.added es.tail c.in-Some.is
