-- An array and an object are sent from their beginning to their end.
use Rattle.std.proofs.Common.{◌≡◌, ◌∙◌, [], arith, drop, length, rules, subst, sym, Some}
use Rattle.std.proofs.lemmas.List.{drop_all}
use Rattle.std.proofs.lemmas.Result.{on_ok_weaker}
use Rattle.serde.specs.Event.{Logs, seq_begins, map_begins}
use Rattle.serde_json.specs.Events.{SendsItems, SendsMembers}
use Rattle.jer_values.specs.Views.{items_view, members_view}
use Rattle.jer_values.proofs.Counts.{items_counted, members_counted}
use Rattle.jer_values.proofs.value.+send.Goals as goal

pub send_items-returns : goal.send_items-returns
send_items-returns g t c =
    let items = c.args.items.now.items in
    let all = c.deref-item-items.result.now in
    let begun = g.S.Serializer.written c.begin_seq.new.self in
    let ended = g.S.Serializer.written c.end_seq.new.self in
    let count : c.len.result ≡ length items = search rules in
    let none : drop c.loop-item.item-index all ≡ [] =
    drop_all c.loop-item.item-index all (omega arith) in
    let begins = subst (λ n. Logs (g.S.Serializer.written c.args.out.now) begun (seq_begins (Some n)))
    (count ∙ sym (items_counted items)) c.in_ok-begin_seq.ensures in
    on_ok_weaker c.end_seq.result (λ ends. (
      begun,
      begins,
      subst (λ vs. SendsItems (items_view vs) begun ended) c.deref-item-items.ensures.value
          (c.loop-item.invariant ended
          (subst (λ vs. SendsItems (items_view vs) (g.S.Serializer.written c.loop-item.out) ended)
          (sym none) ends)),
    )) c.end_seq.ensures

pub send_members-returns : goal.send_members-returns
send_members-returns g t c =
    let members = c.args.members.now.items in
    let all = c.deref-name-items.result.now in
    let begun = g.S.Serializer.written c.begin_map.new.self in
    let ended = g.S.Serializer.written c.end_map.new.self in
    let count : c.len.result ≡ length members = search rules in
    let none : drop c.loop-name.name-index all ≡ [] =
    drop_all c.loop-name.name-index all (omega arith) in
    let begins = subst (λ n. Logs (g.S.Serializer.written c.args.out.now) begun (map_begins (Some n)))
    (count ∙ sym (members_counted members)) c.in_ok-begin_map.ensures in
    on_ok_weaker c.end_map.result (λ ends. (
      begun,
      begins,
      subst (λ ms. SendsMembers (members_view ms) begun ended) c.deref-name-items.ensures.value
          (c.loop-name.invariant ended
          (subst (λ ms. SendsMembers (members_view ms) (g.S.Serializer.written c.loop-name.out) ended)
          (sym none) ends)),
    )) c.end_map.ensures
