use Rattle.std.proofs.Common.{◌≤◌, ◌<◌, ◌∙◌, ap, arith, length, sym}
use Rattle.std.proofs.lemmas.List.{length-map}
use Rattle.std.specs.Str.{bytes_eq}
use Rattle.asn_names.specs.Rows.{NameRow, row_names}
use Rattle.asn_coding.proofs.LookingUp.{not-placed, placed}
use Rattle.asn_coding.proofs.look_up.place_of_field.Goals as goal

pub returns-then-eq-clause-is : goal.returns-then-eq-clause-is
returns-then-eq-clause-is g c =
    let rows = g.N.NameList.rows c.args.names.now in
    let below : c.loop-place.place < length (row_names rows) = omega (arith, c.loop-place-test.true, c.count-place-end.ensures, length-map rows (λ (r : NameRow). r.name)) in
    placed bytes_eq c.args.name.now (row_names rows) c.loop-place.place c.loop-place.invariant below (ap (bytes_eq c.args.name.now) (sym c.name.ensures) ∙ sym c.eq.ensures ∙ c.if-eq.true)

pub returns-clause-is : goal.returns-clause-is
returns-clause-is g c =
    let rows = g.N.NameList.rows c.args.names.now in
    let all : length (row_names rows) ≤ c.loop-place.place = omega (arith, c.loop-place-test.false, c.count-place-end.ensures, length-map rows (λ (r : NameRow). r.name)) in
    not-placed bytes_eq c.args.name.now (row_names rows) (λ k lt. c.loop-place.invariant k (omega (arith, lt, all)))
