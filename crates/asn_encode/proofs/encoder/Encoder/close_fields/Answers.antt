use Rattle.std.proofs.Common.{subst}
use Rattle.std.proofs.lemmas.Result.{on_ok_weaker}
use Rattle.asn_coding.specs.Writing.{Maps, as_members, close}
use Rattle.asn_coding.proofs.NameRows.{names-tables}
use Rattle.asn_encode.proofs.encoder.Encoder.close_fields.Goals as goal

pub returns-clause-closed : goal.returns-clause-closed
returns-clause-closed g c =
    on_ok_weaker c.close_members.result
    (subst (λ names. Maps g.Self.Encoder.holds (close (as_members names)) c.args.self.now c.close_members.new.self) (names-tables c.args.root.now c.args.additions.now)) c.close_members.ensures.closed
