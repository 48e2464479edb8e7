use Rattle.std.proofs.Common.{◌≡◌, ◌++◌, ◌∷◌, [], map, rules, ap, sym, ◌∙◌}
use Rattle.asn_model.specs.Sorting.{sort, by_text}
use Rattle.asn_sorting.specs.Entries.{text_of, value_of}
use Rattle.asn_sorting.specs.Groups.{group_text, entries_of}
use Rattle.asn_sorting.proofs.Grouping.{entries-sorted, group-moved}
use Rattle.asn_sorting.proofs.by_text.ByText.into_sorted.Goals as goal

pub loop-group-init : goal.loop-group-init
loop-group-init g c =
    let sorted : c.into_iter-group-iterator.result.rest.items ≡ sort (by_text group_text) c.self.inside.groups.items = search rules in
    ap (λ l. l ++ map value_of (entries_of c.into_iter-group-iterator.result.rest.items)) c.in_ok-values.ensures.items
    ∙ ap (λ gs. map value_of (entries_of gs)) sorted ∙ ap (map value_of) (sym (entries-sorted c.self.inside.groups.items)) ∙ ap (λ l. map value_of (sort (by_text text_of) l)) c.self.view_is

pub loop-group-preserved : goal.loop-group-preserved
loop-group-preserved g c =
    let left : c.loop-group.group-iterator.rest.items ≡ c.in-Some.group ∷ c.next.new.self.rest.items = search rules in
    let done : c.append.new.self.items ≡ (c.loop-group.values.items ++ c.in-Some.group.first ∷ []) ++ c.in-Some.group.others.items = search rules in
    ap (λ l. l ++ map value_of (entries_of c.next.new.self.rest.items)) done ∙ group-moved c.loop-group.values.items c.in-Some.group c.next.new.self.rest.items
    ∙ ap (λ gs. c.loop-group.values.items ++ map value_of (entries_of gs)) (sym left) ∙ c.loop-group.invariant
