use Rattle.std.proofs.Common.{arith, length, ◌≡◌, rules}
use Rattle.jer_rules.proofs.Choosing.{no_payload-empty, payload_lost, payload_found}
use Rattle.jer_rules.proofs.jer.take_apart.into_payload.Goals as goal

pub returns-in_err-name : goal.returns-in_err-name
returns-in_err-name g c =
    let empty : length c.args.members.entries ≡ 0 = search (rules, arith) in
    rw c.from_residual.ensures (no_payload-empty _ c.args.members.entries empty)

pub returns-in_err-place : goal.returns-in_err-place
returns-in_err-place g c = rw c.from_residual-in_err-place.ensures (payload_lost _ _ _ _ _ _ c.requires c.in_ok-name.ensures.removal c.as_str.ensures.value c.in_err-place.ensures.is)

pub returns : goal.returns
returns g c = payload_found _ _ _ _ _ _ _ c.requires c.in_ok-name.ensures.removal c.as_str.ensures.value c.in_ok-place.ensures.is
