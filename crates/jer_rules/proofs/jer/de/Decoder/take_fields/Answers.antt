use Rattle.std.proofs.Common.{◌≡◌, ◌<◌, ◌-◌, arith, length, suc, subst, sym}
use Rattle.std.proofs.lemmas.List.{drop_all, length-map}
use Rattle.asn_names.specs.Rows.{row_names}
use Rattle.serde_json.specs.View.{members_view}
use Rattle.jer_rules.specs.Pending.{pending_of, TakesFields}
use Rattle.jer_rules.proofs.Taken.{takes_none, takes_more}
use Rattle.jer_rules.proofs.jer.de.Decoder.take_fields.Goals as goal

pub loop-place-init : goal.loop-place-init
loop-place-init g c =
    let rows = g.N.NameList.rows c.args.names.now in
    let all = members_view c.args.members.now.entries in
    let before = pending_of c.args.self.now in
    subst (λ l. TakesFields l all all before before) (sym (drop_all c.count-place.result (row_names rows) (omega (arith, length-map rows (λ r. r.name), c.count-place.ensures)))) (takes_none all before)

pub loop-place-preserved : goal.loop-place-preserved
loop-place-preserved g c =
    let rows = g.N.NameList.rows c.args.names.now in
    let below : c.loop-place.place - 1 < length (row_names rows) = omega (arith, length-map rows (λ r. r.name), c.count-place.ensures, c.loop-place.auto.place, c.loop-place-test.true) in
    let step : c.loop-place.place ≡ suc (c.loop-place.place - 1) = omega (arith, c.loop-place-test.true) in
    takes_more (row_names rows) (c.loop-place.place - 1) c.loop-place.place c.name.result.now (members_view c.args.members.now.entries) c.loop-place.members c.remove-member.new.self c.remove-member.result (pending_of c.args.self.now) (pending_of c.loop-place.self) (pending_of c.put.new.self)
    below step c.requires c.name.ensures c.loop-place.invariant c.remove-member.ensures.value c.remove-member.ensures.updates c.in_ok-put.ensures
