-- After the last type there is no text.
use Rattle.std.proofs.Common.{◌≤◌, arith, length, min, rules, string_bytes}
use Rattle.asn_command.proofs.TextsOn.{texts_all}
use Rattle.asn_command.proofs.listing.texts_of.Goals as goal

pub returns : goal.returns
returns g c =
    let names = c.args.names.now in
    let types = c.args.types.now in
    let over : min (length names) (length types) ≤ c.loop-number.number = search (rules, arith) in
    texts_all g.T.TypeText.text _ (string_bytes c.loop-number.lines) names types c.loop-number.number over c.loop-number.invariant
