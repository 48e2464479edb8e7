-- Each member is inserted after those so far, since its name is after theirs.
use Rattle.std.proofs.Common.{◌∙◌, ◌+◌, ◌∷◌, ap, arith, drop, rules, subst, sym}
use Rattle.std.proofs.lemmas.List.{drop_all, drop_more}
use Rattle.serde_json.specs.View.{members_view as members_seen}
use Rattle.jer_values.specs.Order.{HasOrdered}
use Rattle.jer_values.specs.Views.{members_view}
use Rattle.jer_values.proofs.Inserting.{inserted}
use Rattle.jer_values.proofs.Joined.{joined, joined_none}
use Rattle.jer_values.proofs.tree.+json_of.Goals as goal

pub object_of-loop-name-preserved : goal.object_of-loop-name-preserved
object_of-loop-name-preserved t c =
    let all = c.deref-name-items.result.now in
    let i = c.loop-name.name-index in
    let here = drop_more all i c.loop-name-item.result (search (rules, arith)) in
    λ ordered.
    inserted c.loop-name.map.entries c.insert.new.self.entries c.in_ok-from_str.field-0
    c.in_ok-value.value c.loop-name-item.result (drop i all) (drop (i + 1) all) all
    c.in_ok-insert.ensures.entries (c.in_ok-from_str.ensures.ok ∙ c.as_str.ensures) c.in_ok-value.ensures
    (here ∙ ap (λ m. m ∷ drop (i + 1) all) (sym c.loop-name-item.is)) ordered
    (c.loop-name.invariant ordered)

pub object_of-returns : goal.object_of-returns
object_of-returns t c =
    let all = c.deref-name-items.result.now in
    let found = members_seen c.loop-name.map.entries in
    λ ordered.
    let before = c.loop-name.invariant
    (subst (λ ms. HasOrdered (members_view ms)) (sym c.deref-name-items.ensures.value) ordered) in
    sym (joined_none found)
    ∙ ap (λ ms. joined found (members_view ms))
    (sym (drop_all c.loop-name.name-index all c.loop-name-test.false))
    ∙ before ∙ ap members_view c.deref-name-items.ensures.value
