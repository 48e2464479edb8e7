use Rattle.std.proofs.Common.{◌≤◌, [], arith, length, sym}
use Rattle.std.proofs.lemmas.List.{get_or_past, length-map}
use Rattle.asn_names.specs.Rows.{NameRow, row_names}
use Rattle.asn_names.proofs.list.NameList.encoded_name.Goals as goal

pub returns-then-place-count : goal.returns-then-place-count
returns-then-place-count g c =
    let rows = g.Self.NameList.rows c.args.self.now in
    let past : length (row_names rows) ≤ c.args.place =
    omega (arith, c.if-place-count.true, c.count.ensures, length-map rows (λ (r : NameRow). r.name)) in
    sym (get_or_past (row_names rows) c.args.place [] past)
