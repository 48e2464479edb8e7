use Rattle.std.proofs.Common.{rules, Bool}
use Rattle.std.specs.Cmp.{IsStrictWeakOrder}
use Rattle.std.specs.Ordering.{is_lt}
use Rattle.std.proofs.lemmas.Cmp.{nat_list_cmp_total, on_total}
use Rattle.std.proofs.lemmas.List.Sorted.{ranks_by}
use Rattle.std.proofs.lemmas.Fn.{always_returns_same}
use Rattle.asn_model.specs.Sorting.{by_text}
use Rattle.asn_sorting.specs.Groups.{group_text}
use Rattle.asn_sorting.specs.declared.by_text.Group.{Group}
use Rattle.asn_sorting.proofs.Exact.{sorted-stable}
use Rattle.asn_sorting.proofs.by_text.sort_groups.Goals as goal

pub returns-clause-sorted : goal.returns-clause-sorted
returns-clause-sorted g c =
    let lt : Group g.row.V.Denot → Group g.row.V.Denot → Bool = λ p q. is_lt (by_text group_text p q) in
    let order : IsStrictWeakOrder lt = ranks_by nat_list_cmp_total group_text in
    sorted-stable (by_text group_text) (on_total group_text nat_list_cmp_total) c.args.groups.now.items c.sort_by.new.self.items
    (c.in_ok-sort_by.ensures.sorted lt order (always_returns_same _ _ _ (λ a r q k. search rules)))
    (c.in_ok-sort_by.ensures.stable lt order (always_returns_same _ _ _ (λ a r q k. search rules)))
