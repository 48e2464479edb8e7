use Rattle.std.proofs.Common.{◌≤◌, ◌<◌, ◌∙◌, ap, arith, length, map}
use Rattle.std.proofs.lemmas.List.{length-map}
use Rattle.std.proofs.lemmas.Slice.Eq.{bytes_eq-Decides}
use Rattle.std.specs.Char.{to_ascii_lowercase}
use Rattle.asn_model.specs.Tree.{same_identifier}
use Rattle.asn_names.specs.Rows.{NameRow, row_names}
use Rattle.asn_coding.proofs.LookingUp.{not-placed, placed}
use Rattle.asn_coding.proofs.look_up.place_of.Goals as goal

pub returns-then-eq_ignore_ascii_case-clause-is : goal.returns-then-eq_ignore_ascii_case-clause-is
returns-then-eq_ignore_ascii_case-clause-is g c =
    let rows = g.N.NameList.rows c.args.names.now in
    let below : c.loop-place.place < length (row_names rows) = omega (arith, c.loop-place-test.true, c.count-place-end.ensures, length-map rows (λ (r : NameRow). r.name)) in
    placed same_identifier c.args.identifier.now (row_names rows) c.loop-place.place c.loop-place.invariant below ((bytes_eq-Decides _ _).1 (c.eq_ignore_ascii_case.ensures.test.0 c.if-eq_ignore_ascii_case.true ∙ ap (map to_ascii_lowercase) c.name.ensures))

pub returns-clause-is : goal.returns-clause-is
returns-clause-is g c =
    let rows = g.N.NameList.rows c.args.names.now in
    let all : length (row_names rows) ≤ c.loop-place.place = omega (arith, c.loop-place-test.false, c.count-place-end.ensures, length-map rows (λ (r : NameRow). r.name)) in
    not-placed same_identifier c.args.identifier.now (row_names rows) (λ k lt. c.loop-place.invariant k (omega (arith, lt, all)))
