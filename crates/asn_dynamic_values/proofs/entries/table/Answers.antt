use Rattle.std.proofs.Common.{◌≡◌, ◌-◌, ◌++◌, ◌∷◌, ◌∙◌, [], Bool, ap, append-nil, append_assoc, arith, length, map, rules, sym, take}
use Rattle.std.specs.Global.{Vec}
use Rattle.std.specs.Prelude.{slice_get}
use Rattle.std.specs.Cmp.{IsStrictWeakOrder}
use Rattle.std.specs.Ordering.{is_lt, on}
use Rattle.std.proofs.lemmas.Cmp.{on_total}
use Rattle.std.proofs.lemmas.List.{nil_from_length}
use Rattle.std.proofs.lemmas.List.Sorted.{ranks_by}
use Rattle.std.proofs.lemmas.Fn.{always_returns_same}
use Rattle.asn_model.specs.Sorting.{sort}
use Rattle.asn_model.specs.Value.{Value}
use Rattle.asn_sorting.proofs.Exact.{sorted-stable}
use Rattle.asn_dynamic_values.specs.DynView.{dyn_value}
use Rattle.asn_dynamic_values.specs.Order.{ties_with}
use Rattle.asn_dynamic_values.specs.declared.value.DynValue.{DynValue}
use Rattle.asn_dynamic_values.proofs.Lasts.{lasts_from}
use Rattle.asn_dynamic_values.proofs.Tables.{by_key, by_key-total, last-lent, left-more, plain, replaced-more, table-made, values-map, with-another}
use Rattle.asn_dynamic_values.proofs.Views.{view-List}
use Rattle.asn_dynamic_values.proofs.entries.table.Goals as goal
use Rattle.asn_dynamic_values.proofs.entries.table.Goals.{then-has_key, else-has_key}

pub loop-entry-preserved : goal.loop-entry-preserved
loop-entry-preserved c =
    let l = c.loop-entry in
    let e = c.in-Some.entry in
    let seen = ap (λ r. ties_with r (dyn_value e)) (last-lent l.lasts.items c.last.result (c.last.ensures.value ∙ ap (λ xs. slice_get xs (length xs - 1)) c.deref.ensures.value)) in
    record {
      kept = left-more l.lasts.items c.if-has_key.lasts.items c.push.new.self.items l.yielded e c.in_ok-push.ensures.items l.invariant.kept
          (elim c.if-has_key.branch [
            | then-has_key w ↦
                let n : w.len-then-has_key.result ≡ length l.lasts.items = omega (arith, w.len-then-has_key.ensures) in
                replaced-more l.lasts.items c.if-has_key.lasts.items e (sym seen ∙ sym w.if-has_key.ensures) (ap (λ (v : Vec DynValue). v.items) w.lasts-is ∙ w.truncate.ensures.items ∙ ap (λ k. take (k - 1) l.lasts.items) n)
            | else-has_key w ↦
                ap (λ (v : Vec DynValue). map dyn_value v.items ++ dyn_value e ∷ []) w.lasts-is ∙ sym (with-another (map dyn_value l.lasts.items) (dyn_value e) (sym seen ∙ sym w.if-has_key.ensures))
          ]);
      whole = append_assoc l.yielded (e ∷ []) c.next.new.self.rest.items ∙ ap (λ r. l.yielded ++ r) (sym c.in-Some.ensures.steps.0) ∙ l.invariant.whole;
    }

pub returns : goal.returns
returns c =
    let old = c.args.entries.items in
    let sorted = c.sort_by.new.self.items in
    let lt : DynValue → DynValue → Bool = λ p q. is_lt (on dyn_value by_key p q) in
    let order : IsStrictWeakOrder lt = ranks_by by_key-total dyn_value in
    let up : sorted ≡ sort (on dyn_value by_key) old
    = sorted-stable (on dyn_value by_key) (on_total dyn_value by_key-total) old sorted
    (c.in_ok-sort_by.ensures.sorted lt order (always_returns_same _ _ _ (λ a r q k. search rules)))
    (c.in_ok-sort_by.ensures.stable lt order (always_returns_same _ _ _ (λ a r q k. search rules))) in
    let rest = c.loop-entry.entry-iterator.rest in
    let none : length rest.items ≡ 0 = omega (arith, c.in-None.ensures.steps.0, rest.ok) in
    let made : c.into_iter-entry-iterator.result.rest.items ≡ sorted = c.into_iter-entry-iterator.ensures.into_iter_gives.0 in
    let all : c.loop-entry.yielded ≡ sorted = sym (append-nil c.loop-entry.yielded) ∙ ap (λ r. c.loop-entry.yielded ++ r) (sym (nil_from_length rest.items none)) ∙ c.loop-entry.invariant.whole ∙ made in
    view-List c.loop-entry.lasts
    ∙ ap Value.list (sym (values-map c.loop-entry.lasts.items) ∙ ap plain (c.loop-entry.invariant.kept ∙ ap (λ l. lasts_from by_key by_key-total [] (map dyn_value l)) all) ∙ table-made old sorted up)
