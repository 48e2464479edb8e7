use Rattle.std.proofs.Common.{◌≡◌, ◌+◌, suc, ap, sym, ◌∙◌, arith, true≢false}
use Rattle.serde_json.proofs.Views.{members_view-insert_entry, view-Object}
use Rattle.serde_json.specs.Data.{Data, put}
use Rattle.serde_json.specs.View.{members_view, view}
use Rattle.serde_json.specs.Written.{has_float}
use Rattle.asn_convert.specs.Made.{made_key, made_members, made_value}
use Rattle.asn_convert.proofs.MadeTexts.{made_whole}
use Rattle.asn_convert.proofs.made.document.Goals as goal

pub loop-place-init : goal.loop-place-init
loop-place-init c = ap members_view c.new-members.ensures.empty

pub loop-place-preserved : goal.loop-place-preserved
loop-place-preserved c =
    let i = c.loop-place.place-counter in
    let before = c.loop-place.members.entries in
    let key = c.in_ok-key.key in
    let value = c.in_ok-entry.field-0 in
    let next : suc i ≡ i + 1 = omega arith in
    ap members_view c.in_ok-insert.ensures.entries ∙ members_view-insert_entry before key value
    ∙ ap (λ k. put k (view value) (members_view before)) c.in_ok-key.ensures.ok
    ∙ ap (λ d. put (made_key i) d (members_view before)) c.in_ok-entry.ensures
    ∙ ap (put (made_key i) (made_value i)) c.loop-place.invariant ∙ ap made_members next

pub unreachable-requires : goal.unreachable-requires
unreachable-requires c =
    let done : c.loop-place.place-counter ≡ c.args.entries = omega (arith, c.loop-place-test.false, c.loop-place.auto.place-counter-end) in
    let is = view-Object c.loop-place.members ∙ ap Data.object (c.loop-place.invariant ∙ ap made_members done) in
    true≢false (sym c.in-Err.ensures.back.1 ∙ ap has_float is ∙ made_whole c.args.entries c.requires)

pub returns : goal.returns
returns c =
    let done : c.loop-place.place-counter ≡ c.args.entries = omega (arith, c.loop-place-test.false, c.loop-place.auto.place-counter-end) in
    ap view c.in-Ok.ensures.taken.0 ∙ view-Object c.loop-place.members ∙ ap Data.object (c.loop-place.invariant ∙ ap made_members done)
