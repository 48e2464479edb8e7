-- The member is put where its name stands in the order.
use Rattle.std.proofs.Common.{◌≡◌, ◌<◌, ◌∙◌, ◌++◌, ◌∷◌, [], List, Ordering, ap, ap₂, arith, length, refl, rules, sym, ℕ}
use Rattle.std.proofs.lemmas.List.{get_or_default}
use Rattle.std.specs.Cmp.Lexicographic.{slice_cmp}
use Rattle.std.specs.List.{insert}
use Rattle.std.specs.Ordering.{nat_cmp}
use Rattle.serde_json.specs.Data.{put}
use Rattle.jer_values.specs.Names.{name_bytes}
use Rattle.jer_values.specs.declared.name.JerName.{JerName}
use Rattle.jer_values.specs.Views.{data_of, members_view}
use Rattle.jer_values.proofs.Placing.{later_more, placed_before, placed_last, placed_over}
use Rattle.jer_values.proofs.members.put_member.Goals as goal

-- Names are compared by their texts.
same_order : (a b x y : List ℕ) (o : Ordering) → x ≡ a → y ≡ b → o ≡ slice_cmp nat_cmp x y → slice_cmp nat_cmp a b ≡ o
same_order a b x y o e f g = ap₂ (slice_cmp nat_cmp) (sym e) (sym f) ∙ sym g

pub loop-place-init : goal.loop-place-init
loop-place-init c = record { same = refl; named = refl; later = refl }

pub loop-place-preserved : goal.loop-place-preserved
loop-place-preserved c =
    let now = c.loop-place.invariant in
    record {
      same = now.same;
      named = now.named;
      later =
          later_more c.loop-place.members.items c.loop-place.place c.index.result.now (name_bytes c.args.name)
          (data_of c.args.value) (record { within = search (rules, arith); is = c.index.ensures })
          (same_order _ _ _ _ _ (c.as_str.ensures ∙ ap name_bytes now.named) c.as_str-in-loop-place.ensures c.cmp.ensures ∙ c.in-Greater.is) now.later;
    }

pub returns-in-Less : goal.returns-in-Less
returns-in-Less c =
    let now = c.loop-place.invariant in
    let es = c.loop-place.members.items in
    ap members_view (c.in_ok-insert-in-Less.ensures.items ∙ ap (λ (n : JerName). insert es c.loop-place.place (n, c.args.value)) now.named)
    ∙ placed_before es c.loop-place.place c.index.result.now c.args.name
    c.args.value (record { within = search (rules, arith); is = c.index.ensures })
    (same_order _ _ _ _ _ (c.as_str.ensures ∙ ap name_bytes now.named) c.as_str-in-loop-place.ensures c.cmp.ensures ∙ c.in-Less.is) now.later
    ∙ ap (λ es. put (name_bytes c.args.name) (data_of c.args.value) (members_view es)) now.same

pub returns-in-Equal : goal.returns-in-Equal
returns-in-Equal c =
    let now = c.loop-place.invariant in
    let within : c.loop-place.place < length c.loop-place.members.items = search (rules, arith) in
    let same =
    c.index_mut.ensures.value
    ∙ get_or_default c.loop-place.members.items c.loop-place.place _ _ within
    ∙ sym c.index.ensures in
    placed_over c.loop-place.members.items c.loop-place.place c.index_mut.result.now
    (name_bytes c.args.name) c.args.value
    (record { within = search (rules, arith); is = c.index_mut.ensures.value })
    (ap (λ m. slice_cmp nat_cmp (name_bytes c.args.name) (name_bytes m.0)) same ∙ same_order _ _ _ _ _ (c.as_str.ensures ∙ ap name_bytes now.named) c.as_str-in-loop-place.ensures c.cmp.ensures ∙ c.in-Equal.is)
    now.later
    ∙ ap (λ es. put (name_bytes c.args.name) (data_of c.args.value) (members_view es)) now.same

pub returns : goal.returns
returns c =
    let now = c.loop-place.invariant in
    let es = c.loop-place.members.items in
    ap members_view (c.in_ok-push.ensures.items ∙ ap (λ (n : JerName). es ++ (n, c.args.value) ∷ []) now.named)
    ∙ placed_last es c.loop-place.place c.args.name c.args.value
    (search (rules, arith)) now.later
    ∙ ap (λ es. put (name_bytes c.args.name) (data_of c.args.value) (members_view es)) now.same
