use Rattle.std.proofs.Common.{[], None, length, refl}
use Rattle.asn_linked.proofs.Placing.{named-whole}
use Rattle.asn_linked.proofs.place.Place.of_type.Goals as goal

pub returns-clause-is : goal.returns-clause-is
returns-clause-is c = named-whole [] (record { types = c.args.types; count = length c.args.types.now; number = c.args.number; part = None }) c.args.number c.args.types.now refl refl refl
