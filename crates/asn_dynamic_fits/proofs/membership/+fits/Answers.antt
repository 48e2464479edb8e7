use Rattle.std.proofs.Common.{◌≡◌, ◌∙◌, ◌<◌, ◌≤◌, ap, arith, length, map, option_map, refl, suc, subst, sym, Decides, false}
use Rattle.std.proofs.lemmas.List.{length-map}
use Rattle.std.proofs.lemmas.Slice.Eq.{bytes_eq-Decides}
use Rattle.asn_dynamic_fits.specs.Fields.{FitsSlot}
use Rattle.asn_dynamic_fits.proofs.Alternatives.{all-ahead, alternative-less, alternative-part, count-alternatives, is-here, is-later, no-choice, none-ahead, none-past}
use Rattle.asn_dynamic_fits.proofs.Costs.{bag-nodes, choice-nodes, element-nodes, falls-kept, falls-part, list-nodes, member-nodes, members-nodes, nodes_in, set-costs, table-costs}
use Rattle.asn_dynamic_fits.proofs.Elements.{each-all, each-more, each-none, each-other}
use Rattle.asn_dynamic_fits.proofs.Having.{choice-is, decides-always, decides-by, decides-ended, decides-never, decides-test, leaf-decides, list-decides, list-other, members-is, refuted, set-decides, set-other, set-unsorted, table-decides, table-other, table-unsorted}
use Rattle.asn_dynamic_fits.proofs.Meant.{around-has, around-less, around-part, count-fields, enum-meant, field-at, field-less, field-part, fields_meant, inner-has, inner-less, inner-part, leaf-meant, list-meant, list-part, set-meant, set-part, some-around, table-meant, table-part}
use Rattle.asn_dynamic_fits.proofs.Members.{none-yet}
use Rattle.asn_dynamic_fits.proofs.Sequences.{no-members, right-member, right-members, seen-at, wrong-count, wrong-member}
use Rattle.asn_dynamic_values.specs.DynView.{dyn_value, members_named, named_value}
use Rattle.asn_model.specs.Shape.{SeqKind, Shape}
use Rattle.asn_model.specs.ShapeView.{presence_view}
use Rattle.asn_model.specs.Value.{Fits, nodes, nodes_slots, nodes_values, values}
use Rattle.asn_parts.specs.Chain.{bodies_of}
use Rattle.asn_parts.specs.declared.loops.Loops.TheVariants.{Within}
use Rattle.asn_parts.specs.Bodies.{meant}
use Rattle.asn_parts.proofs.Costs.{cost, element-costs}
use Rattle.asn_dynamic_fits.proofs.membership.+fits.Goals as goal

pub fits_part-returns-in-Leaf : goal.fits_part-returns-in-Leaf
fits_part-returns-in-Leaf g t c =
    let shape = g.P.Part.shape in
    let bodies = bodies_of c.args.loops.now in
    let part = c.args.part in
    let v = dyn_value c.args.value.now in
    let leaf = c.in-Leaf.leaf in
    subst (λ s. Decides c.is_leaf.result (Fits s v)) (leaf-meant shape bodies part leaf c.in-Leaf.ensures) (leaf-decides leaf v c.is_leaf.result c.is_leaf.ensures)

pub fits_part-returns-in-Enumerated : goal.fits_part-returns-in-Enumerated
fits_part-returns-in-Enumerated g t c =
    let shape = g.P.Part.shape in
    let bodies = bodies_of c.args.loops.now in
    let part = c.args.part in
    let v = dyn_value c.args.value.now in
    let q = c.in-Enumerated.ensures in
    subst (λ s. Decides c.is_item.result (Fits s v)) (enum-meant shape bodies part q.0 q.1 q.2) (c.is_item.ensures bodies q.0 q.1 q.2)

pub fits_part-returns-in-ListOf : goal.fits_part-returns-in-ListOf
fits_part-returns-in-ListOf g t c =
    let shape = g.P.Part.shape in
    let bodies = bodies_of c.args.loops.now in
    let part = c.args.part in
    let v = dyn_value c.args.value.now in
    subst (λ s. Decides c.fits_list.result (Fits s v)) (list-meant shape bodies part c.in-ListOf.element c.in-ListOf.ensures) c.fits_list.ensures

pub fits_part-fits_list-requires : goal.fits_part-fits_list-requires
fits_part-fits_list-requires g t c κs within =
    let shape = g.P.Part.shape in
    let bodies = bodies_of c.args.loops.now in
    let part = c.args.part in
    let n = nodes (dyn_value c.args.value.now) in
    let element = c.in-ListOf.element in
    let is = c.in-ListOf.ensures in
    (falls-kept (cost n (Shape.list_of (meant shape bodies element))) (cost n (meant shape bodies part)) 2 3 t c.decreases (ap (cost n) (list-meant shape bodies part element is)) (omega arith), (within, list-part shape bodies part element is c.requires))

pub fits_part-returns-in-SetOf : goal.fits_part-returns-in-SetOf
fits_part-returns-in-SetOf g t c =
    let shape = g.P.Part.shape in
    let bodies = bodies_of c.args.loops.now in
    let part = c.args.part in
    let v = dyn_value c.args.value.now in
    subst (λ s. Decides c.fits_bag.result (Fits s v)) (set-meant shape bodies part c.in-SetOf.element c.in-SetOf.ensures) c.fits_bag.ensures

pub fits_part-fits_bag-requires : goal.fits_part-fits_bag-requires
fits_part-fits_bag-requires g t c κs within =
    let shape = g.P.Part.shape in
    let bodies = bodies_of c.args.loops.now in
    let part = c.args.part in
    let n = nodes (dyn_value c.args.value.now) in
    let element = c.in-SetOf.element in
    let is = c.in-SetOf.ensures in
    (falls-kept (cost n (Shape.set_of (meant shape bodies element))) (cost n (meant shape bodies part)) 2 3 t c.decreases (ap (cost n) (set-meant shape bodies part element is)) (omega arith), (within, set-part shape bodies part element is c.requires))

pub fits_part-returns-in-Table : goal.fits_part-returns-in-Table
fits_part-returns-in-Table g t c =
    let shape = g.P.Part.shape in
    let bodies = bodies_of c.args.loops.now in
    let part = c.args.part in
    let v = dyn_value c.args.value.now in
    subst (λ s. Decides c.fits_table.result (Fits s v)) (table-meant shape bodies part c.in-Table.entry c.in-Table.ensures) c.fits_table.ensures

pub fits_part-fits_table-requires : goal.fits_part-fits_table-requires
fits_part-fits_table-requires g t c κs within =
    let shape = g.P.Part.shape in
    let bodies = bodies_of c.args.loops.now in
    let part = c.args.part in
    let n = nodes (dyn_value c.args.value.now) in
    let element = c.in-Table.entry in
    let is = c.in-Table.ensures in
    (falls-kept (cost n (Shape.table (meant shape bodies element))) (cost n (meant shape bodies part)) 2 3 t c.decreases (ap (cost n) (table-meant shape bodies part element is)) (omega arith), (within, table-part shape bodies part element is c.requires))

pub fits_part-fits_members-requires : goal.fits_part-fits_members-requires
fits_part-fits_members-requires g t c κs within =
    let shape = g.P.Part.shape in
    let bodies = bodies_of c.args.loops.now in
    let part = c.args.part in
    let k = cost (nodes (dyn_value c.args.value.now)) (meant shape bodies part) in
    (falls-kept k k 2 3 t c.decreases refl (omega arith), (within, ((SeqKind.sequence, c.in-Sequence.ensures.0, c.in-Sequence.ensures.1, c.in-Sequence.ensures.2), c.requires)))

pub fits_part-fits_members-requires-in-Set : goal.fits_part-fits_members-requires-in-Set
fits_part-fits_members-requires-in-Set g t c κs within =
    let shape = g.P.Part.shape in
    let bodies = bodies_of c.args.loops.now in
    let part = c.args.part in
    let k = cost (nodes (dyn_value c.args.value.now)) (meant shape bodies part) in
    (falls-kept k k 2 3 t c.decreases refl (omega arith), (within, ((SeqKind.set, c.in-Set.ensures.0, c.in-Set.ensures.1, c.in-Set.ensures.2), c.requires)))

pub fits_part-fits_choice-requires : goal.fits_part-fits_choice-requires
fits_part-fits_choice-requires g t c κs within =
    let shape = g.P.Part.shape in
    let bodies = bodies_of c.args.loops.now in
    let part = c.args.part in
    let k = cost (nodes (dyn_value c.args.value.now)) (meant shape bodies part) in
    (falls-kept k k 2 3 t c.decreases refl (omega arith), (within, (c.in-Choice.ensures, c.requires)))

pub fits_part-fits_part-requires : goal.fits_part-fits_part-requires
fits_part-fits_part-requires g t c κs within =
    let shape = g.P.Part.shape in
    let bodies = bodies_of c.args.loops.now in
    let part = c.args.part in
    let loops = c.args.loops.now in
    let n = nodes (dyn_value c.args.value.now) in
    let body = c.in-Loop.body in
    let is = c.in-Loop.ensures in
    (falls-part (cost n (meant shape (bodies_of (Within body c.args.loops)) body)) (cost n (meant shape bodies part)) 3 3 t c.decreases (inner-less shape loops part c.requires body is c.args.loops refl n) (omega arith), (within, inner-part shape loops part c.requires body is c.args.loops refl))

pub fits_part-returns-in-Loop : goal.fits_part-returns-in-Loop
fits_part-returns-in-Loop g t c =
    let shape = g.P.Part.shape in
    let bodies = bodies_of c.args.loops.now in
    let part = c.args.part in
    let loops = c.args.loops.now in
    let v = dyn_value c.args.value.now in
    inner-has shape loops part c.requires c.in-Loop.body c.in-Loop.ensures c.args.loops refl v c.fits_part.result c.fits_part.ensures

pub fits_part-fits_part-requires-in-Within : goal.fits_part-fits_part-requires-in-Within
fits_part-fits_part-requires-in-Within g t c κs within =
    let shape = g.P.Part.shape in
    let bodies = bodies_of c.args.loops.now in
    let part = c.args.part in
    let loops = c.args.loops.now in
    let w = c.in-Within in
    let around = c.from_loop-around.result.now in
    let number = c.in-Back.number in
    let is = c.in-Back.ensures in
    let from = c.from_loop-around.ensures in
    let n = nodes (dyn_value c.args.value.now) in
    (falls-part (cost n (meant shape (bodies_of around) w.body)) (cost n (meant shape bodies part)) 3 3 t c.decreases (around-less shape loops part c.requires number is around from w.body w.outer w.is n) (omega arith), (within, around-part shape loops part c.requires number is around from w.body w.outer w.is))

pub fits_part-returns-in-Within : goal.fits_part-returns-in-Within
fits_part-returns-in-Within g t c =
    let shape = g.P.Part.shape in
    let bodies = bodies_of c.args.loops.now in
    let part = c.args.part in
    let loops = c.args.loops.now in
    let w = c.in-Within in
    let around = c.from_loop-around.result.now in
    let number = c.in-Back.number in
    let is = c.in-Back.ensures in
    let from = c.from_loop-around.ensures in
    let v = dyn_value c.args.value.now in
    around-has shape loops part c.requires number is around from w.body w.outer w.is v c.fits_part-in-Within.result c.fits_part-in-Within.ensures

pub fits_part-unreachable-requires : goal.fits_part-unreachable-requires
fits_part-unreachable-requires g t c =
    let shape = g.P.Part.shape in
    let bodies = bodies_of c.args.loops.now in
    let part = c.args.part in
    let loops = c.args.loops.now in
    some-around shape loops part c.requires c.in-Back.number c.in-Back.ensures c.from_loop-around.result.now c.from_loop-around.ensures c.in-Outermost.is

pub fits_list-returns-in-Some : goal.fits_list-returns-in-Some
fits_list-returns-in-Some g t c =
    let s = meant g.P.Part.shape (bodies_of c.args.loops.now) c.args.element in
    let v = dyn_value c.args.value.now in
    list-decides s v (values dyn_value c.in-Some.elements.now) c.are_elements.result c.in-Some.ensures c.are_elements.ensures

pub fits_list-returns-in-None : goal.fits_list-returns-in-None
fits_list-returns-in-None g t c =
    let s = meant g.P.Part.shape (bodies_of c.args.loops.now) c.args.element in
    let v = dyn_value c.args.value.now in
    list-other s v c.in-None.ensures

pub fits_bag-returns-then-are_in_order : goal.fits_bag-returns-then-are_in_order
fits_bag-returns-then-are_in_order g t c =
    let s = meant g.P.Part.shape (bodies_of c.args.loops.now) c.args.element in
    let v = dyn_value c.args.value.now in
    set-decides s v (values dyn_value c.in-Some.elements.now) c.are_elements.result c.in-Some.ensures (c.are_in_order.ensures.0 c.if-are_in_order.true) c.are_elements.ensures

pub fits_bag-returns-else-are_in_order : goal.fits_bag-returns-else-are_in_order
fits_bag-returns-else-are_in_order g t c =
    let s = meant g.P.Part.shape (bodies_of c.args.loops.now) c.args.element in
    let v = dyn_value c.args.value.now in
    decides-ended c.are_in_order.result c.if-are_in_order.false (set-unsorted s v (values dyn_value c.in-Some.elements.now) c.in-Some.ensures (refuted c.are_in_order.result c.are_in_order.ensures c.if-are_in_order.false))

pub fits_bag-returns-in-None : goal.fits_bag-returns-in-None
fits_bag-returns-in-None g t c =
    let s = meant g.P.Part.shape (bodies_of c.args.loops.now) c.args.element in
    let v = dyn_value c.args.value.now in
    set-other s v c.in-None.ensures

pub fits_table-returns-then-do_keys_rise : goal.fits_table-returns-then-do_keys_rise
fits_table-returns-then-do_keys_rise g t c =
    let s = meant g.P.Part.shape (bodies_of c.args.loops.now) c.args.entry in
    let v = dyn_value c.args.value.now in
    table-decides s v (values dyn_value c.in-Some.entries.now) c.are_elements.result c.in-Some.ensures (sym c.do_keys_rise.ensures ∙ c.if-do_keys_rise.true) c.are_elements.ensures

pub fits_table-returns-else-do_keys_rise : goal.fits_table-returns-else-do_keys_rise
fits_table-returns-else-do_keys_rise g t c =
    let s = meant g.P.Part.shape (bodies_of c.args.loops.now) c.args.entry in
    let v = dyn_value c.args.value.now in
    decides-ended c.do_keys_rise.result c.if-do_keys_rise.false (table-unsorted s v (values dyn_value c.in-Some.entries.now) c.in-Some.ensures (sym c.do_keys_rise.ensures ∙ c.if-do_keys_rise.false))

pub fits_table-returns-in-None : goal.fits_table-returns-in-None
fits_table-returns-in-None g t c =
    let s = meant g.P.Part.shape (bodies_of c.args.loops.now) c.args.entry in
    let v = dyn_value c.args.value.now in
    table-other s v c.in-None.ensures

pub fits_list-are_elements-requires : goal.fits_list-are_elements-requires
fits_list-are_elements-requires g t c κs within =
    let s = meant g.P.Part.shape (bodies_of c.args.loops.now) c.args.element in
    let v = dyn_value c.args.value.now in
    let vs = values dyn_value c.in-Some.elements.now in
    (falls-kept (cost (suc (nodes_values vs)) (Shape.list_of s)) (cost (nodes v) (Shape.list_of s)) 1 2 t c.decreases (ap (λ n. cost n (Shape.list_of s)) (list-nodes v vs c.in-Some.ensures)) (omega arith), (within, c.requires))

pub fits_bag-are_elements-requires : goal.fits_bag-are_elements-requires
fits_bag-are_elements-requires g t c κs within =
    let s = meant g.P.Part.shape (bodies_of c.args.loops.now) c.args.element in
    let v = dyn_value c.args.value.now in
    let vs = values dyn_value c.in-Some.elements.now in
    (falls-kept (cost (suc (nodes_values vs)) (Shape.list_of s)) (cost (nodes v) (Shape.set_of s)) 1 2 t c.decreases (ap (λ n. cost n (Shape.list_of s)) (bag-nodes v vs c.in-Some.ensures) ∙ set-costs (nodes v) s) (omega arith), (within, c.requires))

pub fits_table-are_elements-requires : goal.fits_table-are_elements-requires
fits_table-are_elements-requires g t c κs within =
    let s = meant g.P.Part.shape (bodies_of c.args.loops.now) c.args.entry in
    let v = dyn_value c.args.value.now in
    let vs = values dyn_value c.in-Some.entries.now in
    (falls-kept (cost (suc (nodes_values vs)) (Shape.list_of s)) (cost (nodes v) (Shape.table s)) 1 2 t c.decreases (ap (λ n. cost n (Shape.list_of s)) (list-nodes v vs c.in-Some.ensures) ∙ table-costs (nodes v) s) (omega arith), (within, c.requires))

pub are_elements-loop-value-init : goal.are_elements-loop-value-init
are_elements-loop-value-init g t c =
    let s = meant g.P.Part.shape (bodies_of c.args.loops.now) c.args.element in
    let xs = c.args.elements.now in
    each-none s dyn_value xs

pub are_elements-loop-value-preserved : goal.are_elements-loop-value-preserved
are_elements-loop-value-preserved g t c =
    let s = meant g.P.Part.shape (bodies_of c.args.loops.now) c.args.element in
    let xs = c.args.elements.now in
    let i = c.loop-value.value-index in
    let x = c.value-item.result in
    each-more s dyn_value xs i x c.loop-value-test.true c.value-item.is (c.fits_part.ensures.0 c.if-not-fits_part.false) c.loop-value.invariant

pub are_elements-returns-then-not-fits_part : goal.are_elements-returns-then-not-fits_part
are_elements-returns-then-not-fits_part g t c =
    let s = meant g.P.Part.shape (bodies_of c.args.loops.now) c.args.element in
    let xs = c.args.elements.now in
    let i = c.loop-value.value-index in
    let x = c.value-item.result in
    each-other s dyn_value xs i x c.loop-value-test.true c.value-item.is (refuted c.fits_part.result c.fits_part.ensures c.if-not-fits_part.true)

pub are_elements-returns : goal.are_elements-returns
are_elements-returns g t c =
    let s = meant g.P.Part.shape (bodies_of c.args.loops.now) c.args.element in
    let xs = c.args.elements.now in
    decides-always (each-all s dyn_value xs c.loop-value.value-index c.loop-value-test.false c.loop-value.invariant)

pub are_elements-fits_part-requires : goal.are_elements-fits_part-requires
are_elements-fits_part-requires g t c κs within =
    let s = meant g.P.Part.shape (bodies_of c.args.loops.now) c.args.element in
    let xs = c.args.elements.now in
    let i = c.loop-value.value-index in
    let x = c.value-item.result in
    let n = nodes (dyn_value x) in
    let m = suc (nodes_values (values dyn_value xs)) in
    (falls-part (cost n s) (cost m (Shape.list_of s)) 3 1 t c.decreases (element-costs n m s (element-nodes dyn_value xs i x c.loop-value-test.true c.value-item.is)) (omega arith), (within, c.requires))

pub fits_members-returns-in-Some : goal.fits_members-returns-in-Some
fits_members-returns-in-Some g t c =
    let shape = g.P.Part.shape in
    let bodies = bodies_of c.args.loops.now in
    let part = c.args.part in
    let v = dyn_value c.args.value.now in
    let ms = members_named (map named_value c.in-Some.members.now) in
    subst (λ w. Decides c.are_members.result (Fits (meant shape bodies part) w)) (members-is v ms c.in-Some.ensures) c.are_members.ensures

pub fits_members-returns-in-None : goal.fits_members-returns-in-None
fits_members-returns-in-None g t c =
    let shape = g.P.Part.shape in
    let bodies = bodies_of c.args.loops.now in
    let part = c.args.part in
    let v = dyn_value c.args.value.now in
    let q = c.requires.members in
    no-members shape bodies part q.0 q.1 q.2 q.3 v c.in-None.ensures

pub fits_members-are_members-requires : goal.fits_members-are_members-requires
fits_members-are_members-requires g t c κs within =
    let shape = g.P.Part.shape in
    let bodies = bodies_of c.args.loops.now in
    let part = c.args.part in
    let v = dyn_value c.args.value.now in
    let ms = members_named (map named_value c.in-Some.members.now) in
    let s = meant shape bodies part in
    (falls-kept (cost (suc (nodes_slots ms)) s) (cost (nodes v) s) 1 2 t c.decreases (ap (λ n. cost n s) (members-nodes v ms c.in-Some.ensures)) (omega arith), (within, (c.requires.members, c.requires.readable)))

pub are_members-returns-then-members-count : goal.are_members-returns-then-members-count
are_members-returns-then-members-count g t c =
    let shape = g.P.Part.shape in
    let bodies = bodies_of c.args.loops.now in
    let part = c.args.part in
    let q = c.requires.members in
    let xs = c.args.members.now in
    let ms = map named_value xs in
    let counted = length-map xs named_value in
    let names = g.met.P.Part.same_names bodies part in
    let fields = count-fields shape bodies part names in
    wrong-count shape bodies part q.0 q.1 q.2 q.3 ms (λ same. c.if-members-count.true (sym counted ∙ same ∙ sym fields ∙ sym c.field_count-count.ensures))

pub are_members-loop-place-init : goal.are_members-loop-place-init
are_members-loop-place-init g t c =
    let shape = g.P.Part.shape in
    let bodies = bodies_of c.args.loops.now in
    let part = c.args.part in
    let q = c.requires.members in
    let xs = c.args.members.now in
    let ms = map named_value xs in
    let counted = length-map xs named_value in
    let names = g.met.P.Part.same_names bodies part in
    let fields = count-fields shape bodies part names in
    none-yet (fields_meant shape bodies part) ms

pub are_members-loop-place-preserved : goal.are_members-loop-place-preserved
are_members-loop-place-preserved g t c =
    let shape = g.P.Part.shape in
    let bodies = bodies_of c.args.loops.now in
    let part = c.args.part in
    let q = c.requires.members in
    let xs = c.args.members.now in
    let ms = map named_value xs in
    let counted = length-map xs named_value in
    let names = g.met.P.Part.same_names bodies part in
    let fields = count-fields shape bodies part names in
    let k = c.loop-place.place in
    let x = c.index-members-place.result in
    let m = named_value x in
    let below : k < length xs = omega (arith, c.loop-place-test.true, c.if-members-count.false) in
    let under : k < length ms = omega (arith, below, counted) in
    let there = seen-at named_value xs k x below c.index-members-place.is in
    let at = field-at shape bodies part q.0 q.1 q.2 q.3 c.field-field.result k (c.field-field.ensures bodies) in
    right-member shape bodies part q.0 q.1 q.2 q.3 ms k _ m under at there (c.fits_member.ensures.0 c.if-not-fits_member.false) c.loop-place.invariant

pub are_members-returns-then-not-fits_member : goal.are_members-returns-then-not-fits_member
are_members-returns-then-not-fits_member g t c =
    let shape = g.P.Part.shape in
    let bodies = bodies_of c.args.loops.now in
    let part = c.args.part in
    let q = c.requires.members in
    let xs = c.args.members.now in
    let ms = map named_value xs in
    let counted = length-map xs named_value in
    let names = g.met.P.Part.same_names bodies part in
    let fields = count-fields shape bodies part names in
    let k = c.loop-place.place in
    let x = c.index-members-place.result in
    let m = named_value x in
    let below : k < length xs = omega (arith, c.loop-place-test.true, c.if-members-count.false) in
    let under : k < length ms = omega (arith, below, counted) in
    let there = seen-at named_value xs k x below c.index-members-place.is in
    let at = field-at shape bodies part q.0 q.1 q.2 q.3 c.field-field.result k (c.field-field.ensures bodies) in
    wrong-member shape bodies part q.0 q.1 q.2 q.3 ms k _ m at there (refuted c.fits_member.result c.fits_member.ensures c.if-not-fits_member.true)

pub are_members-returns : goal.are_members-returns
are_members-returns g t c =
    let shape = g.P.Part.shape in
    let bodies = bodies_of c.args.loops.now in
    let part = c.args.part in
    let q = c.requires.members in
    let xs = c.args.members.now in
    let ms = map named_value xs in
    let counted = length-map xs named_value in
    let names = g.met.P.Part.same_names bodies part in
    let fields = count-fields shape bodies part names in
    let same : length ms ≡ length xs = counted in
    let all : length xs ≡ c.field_count-count.result = omega (arith, c.if-members-count.false) in
    let ended : length ms ≤ c.loop-place.place = omega (arith, same, all, c.loop-place-test.false) in
    right-members shape bodies part q.0 q.1 q.2 q.3 ms c.loop-place.place (same ∙ all ∙ c.field_count-count.ensures ∙ fields) ended c.loop-place.invariant

pub are_members-fits_member-requires : goal.are_members-fits_member-requires
are_members-fits_member-requires g t c κs within =
    let shape = g.P.Part.shape in
    let bodies = bodies_of c.args.loops.now in
    let part = c.args.part in
    let q = c.requires.members in
    let xs = c.args.members.now in
    let ms = map named_value xs in
    let counted = length-map xs named_value in
    let names = g.met.P.Part.same_names bodies part in
    let fields = count-fields shape bodies part names in
    let k = c.loop-place.place in
    let x = c.index-members-place.result in
    let m = named_value x in
    let below : k < length xs = omega (arith, c.loop-place-test.true, c.if-members-count.false) in
    let under : k < length ms = omega (arith, below, counted) in
    let there = seen-at named_value xs k x below c.index-members-place.is in
    let at = field-at shape bodies part q.0 q.1 q.2 q.3 c.field-field.result k (c.field-field.ensures bodies) in
    let f = c.field-field.result in
    let n = nodes_in m.1 in
    let all = suc (nodes_slots (members_named ms)) in
    let less = field-less shape bodies part q.0 q.1 q.2 q.3 f k (c.field-field.ensures bodies) n all (member-nodes ms k m under there) in
    (falls-part (cost n (meant shape bodies f.part)) (cost all (meant shape bodies part)) 5 1 t c.decreases less (omega arith), (within, field-part shape bodies part q.0 q.1 q.2 q.3 f k (c.field-field.ensures bodies) c.requires.readable))

pub fits_member-returns-then-eq : goal.fits_member-returns-then-eq
fits_member-returns-then-eq g t c =
    let f = c.args.field.now in
    let s = meant g.P.Part.shape (bodies_of c.args.loops.now) f.part in
    let p = presence_view f.presence.now in
    let own = c.as_str.ensures.value in
    let same = (bytes_eq-Decides f.name.now c.as_str.result.now).0 (sym c.eq.ensures ∙ c.if-eq.true) in
    decides-by c.fits_slot.result (λ h. (sym (same ∙ own), h)) (λ h. h.1) c.fits_slot.ensures

pub fits_member-returns-else-eq : goal.fits_member-returns-else-eq
fits_member-returns-else-eq g t c =
    let f = c.args.field.now in
    let s = meant g.P.Part.shape (bodies_of c.args.loops.now) f.part in
    let p = presence_view f.presence.now in
    let own = c.as_str.ensures.value in
    decides-ended c.eq.result c.if-eq.false (decides-never (λ h. refuted c.eq.result (decides-test c.eq.result _ c.eq.ensures) c.if-eq.false ((bytes_eq-Decides f.name.now c.as_str.result.now).1 (sym h.0 ∙ sym own))))

pub fits_member-fits_slot-requires : goal.fits_member-fits_slot-requires
fits_member-fits_slot-requires g t c κs within =
    let f = c.args.field.now in
    let s = meant g.P.Part.shape (bodies_of c.args.loops.now) f.part in
    let p = presence_view f.presence.now in
    let k = cost (nodes_in (option_map dyn_value c.args.member.now.1)) s in
    (falls-kept k k 4 5 t c.decreases refl (omega arith), (within, c.requires))

pub fits_slot-returns-in-None : goal.fits_slot-returns-in-None
fits_slot-returns-in-None g t c =
    let f = c.args.field.now in
    let s = meant g.P.Part.shape (bodies_of c.args.loops.now) f.part in
    let p = presence_view f.presence.now in
    subst (λ o. Decides c.may_lack.result (FitsSlot p s (option_map dyn_value o))) (sym c.in-None.is) (decides-test c.may_lack.result _ c.may_lack.ensures)

pub fits_slot-returns-then-is_kept : goal.fits_slot-returns-then-is_kept
fits_slot-returns-then-is_kept g t c =
    let f = c.args.field.now in
    let s = meant g.P.Part.shape (bodies_of c.args.loops.now) f.part in
    let p = presence_view f.presence.now in
    let kept = sym c.is_kept.ensures ∙ c.if-is_kept.true in
    subst (λ o. Decides c.fits_part.result (FitsSlot p s (option_map dyn_value o))) (sym c.in-Some.is) (decides-by c.fits_part.result (λ h. (kept, h)) (λ h. h.1) c.fits_part.ensures)

pub fits_slot-returns-else-is_kept : goal.fits_slot-returns-else-is_kept
fits_slot-returns-else-is_kept g t c =
    let f = c.args.field.now in
    let s = meant g.P.Part.shape (bodies_of c.args.loops.now) f.part in
    let p = presence_view f.presence.now in
    decides-ended c.is_kept.result c.if-is_kept.false (subst (λ o. Decides false (FitsSlot p s (option_map dyn_value o))) (sym c.in-Some.is) (decides-never (λ h. refuted c.is_kept.result (decides-test c.is_kept.result _ c.is_kept.ensures) c.if-is_kept.false h.0)))

pub fits_slot-fits_part-requires : goal.fits_slot-fits_part-requires
fits_slot-fits_part-requires g t c κs within =
    let f = c.args.field.now in
    let s = meant g.P.Part.shape (bodies_of c.args.loops.now) f.part in
    let p = presence_view f.presence.now in
    let n = nodes (dyn_value c.in-Some.value) in
    (falls-kept (cost n s) (cost (nodes_in (option_map dyn_value c.args.slot.now)) s) 3 4 t c.decreases (ap (λ o. cost (nodes_in (option_map dyn_value o)) s) (sym c.in-Some.is)) (omega arith), (within, c.requires))

pub fits_choice-returns-in-Some : goal.fits_choice-returns-in-Some
fits_choice-returns-in-Some g t c =
    let shape = g.P.Part.shape in
    let bodies = bodies_of c.args.loops.now in
    let part = c.args.part in
    let v = dyn_value c.args.value.now in
    let i = c.in-Some.chosen.identifier.now in
    let w = dyn_value c.in-Some.chosen.payload.now in
    subst (λ u. Decides c.is_chosen.result (Fits (meant shape bodies part) u)) (choice-is v i w c.in-Some.ensures) c.is_chosen.ensures

pub fits_choice-returns-in-None : goal.fits_choice-returns-in-None
fits_choice-returns-in-None g t c =
    let shape = g.P.Part.shape in
    let bodies = bodies_of c.args.loops.now in
    let part = c.args.part in
    let v = dyn_value c.args.value.now in
    let q = c.requires.choice in
    no-choice shape bodies part q.0 q.1 q.2 v c.in-None.ensures

pub fits_choice-is_chosen-requires : goal.fits_choice-is_chosen-requires
fits_choice-is_chosen-requires g t c κs within =
    let shape = g.P.Part.shape in
    let bodies = bodies_of c.args.loops.now in
    let part = c.args.part in
    let v = dyn_value c.args.value.now in
    let i = c.in-Some.chosen.identifier.now in
    let w = dyn_value c.in-Some.chosen.payload.now in
    let s = meant shape bodies part in
    (falls-kept (cost (suc (nodes w)) s) (cost (nodes v) s) 1 2 t c.decreases (ap (λ n. cost n s) (choice-nodes v i w c.in-Some.ensures)) (omega arith), (within, (c.requires.choice, c.requires.readable)))

pub is_chosen-loop-place-init : goal.is_chosen-loop-place-init
is_chosen-loop-place-init g t c =
    let shape = g.P.Part.shape in
    let bodies = bodies_of c.args.loops.now in
    let part = c.args.part in
    let q = c.requires.choice in
    let i = c.args.chosen.now.identifier.now in
    let v = dyn_value c.args.chosen.now.payload.now in
    all-ahead shape bodies part q.0 q.1 q.2 i v

pub is_chosen-loop-place-preserved : goal.is_chosen-loop-place-preserved
is_chosen-loop-place-preserved g t c =
    let shape = g.P.Part.shape in
    let bodies = bodies_of c.args.loops.now in
    let part = c.args.part in
    let q = c.requires.choice in
    let i = c.args.chosen.now.identifier.now in
    let v = dyn_value c.args.chosen.now.payload.now in
    let names = g.met.P.Part.same_identifiers bodies part in
    let k = c.loop-place.place in
    is-later shape bodies part q.0 q.1 q.2 i v c.in-Some.alternative k (c.in-Some.ensures bodies) (refuted c.fits_alternative.result c.fits_alternative.ensures c.if-fits_alternative.false) c.loop-place.invariant

pub is_chosen-returns-then-fits_alternative : goal.is_chosen-returns-then-fits_alternative
is_chosen-returns-then-fits_alternative g t c =
    let shape = g.P.Part.shape in
    let bodies = bodies_of c.args.loops.now in
    let part = c.args.part in
    let q = c.requires.choice in
    let i = c.args.chosen.now.identifier.now in
    let v = dyn_value c.args.chosen.now.payload.now in
    let names = g.met.P.Part.same_identifiers bodies part in
    let k = c.loop-place.place in
    is-here shape bodies part q.0 q.1 q.2 i v c.in-Some.alternative k (c.in-Some.ensures bodies) (c.fits_alternative.ensures.0 c.if-fits_alternative.true)

pub is_chosen-returns : goal.is_chosen-returns
is_chosen-returns g t c =
    let shape = g.P.Part.shape in
    let bodies = bodies_of c.args.loops.now in
    let part = c.args.part in
    let q = c.requires.choice in
    let i = c.args.chosen.now.identifier.now in
    let v = dyn_value c.args.chosen.now.payload.now in
    let names = g.met.P.Part.same_identifiers bodies part in
    let k = c.loop-place.place in
    let all = c.alternative_count-count.ensures ∙ count-alternatives shape bodies part names in
    none-ahead shape bodies part q.0 q.1 q.2 i v k (omega (arith, all, c.loop-place-test.false)) c.loop-place.invariant

pub is_chosen-unreachable-requires : goal.is_chosen-unreachable-requires
is_chosen-unreachable-requires g t c =
    let shape = g.P.Part.shape in
    let bodies = bodies_of c.args.loops.now in
    let part = c.args.part in
    let q = c.requires.choice in
    let i = c.args.chosen.now.identifier.now in
    let v = dyn_value c.args.chosen.now.payload.now in
    let names = g.met.P.Part.same_identifiers bodies part in
    let k = c.loop-place.place in
    let past = none-past shape bodies part k names (c.in-None.ensures bodies) in
    omega (arith, past, c.loop-place-test.true, c.alternative_count-count.ensures)

pub is_chosen-fits_alternative-requires : goal.is_chosen-fits_alternative-requires
is_chosen-fits_alternative-requires g t c κs within =
    let shape = g.P.Part.shape in
    let bodies = bodies_of c.args.loops.now in
    let part = c.args.part in
    let q = c.requires.choice in
    let i = c.args.chosen.now.identifier.now in
    let v = dyn_value c.args.chosen.now.payload.now in
    let names = g.met.P.Part.same_identifiers bodies part in
    let k = c.loop-place.place in
    let a = c.in-Some.alternative in
    let n = nodes v in
    let one : n < suc n = omega arith in
    let less = alternative-less shape bodies part q.0 q.1 q.2 a k (c.in-Some.ensures bodies) n (suc n) one in
    (falls-part (cost n (meant shape bodies a.part)) (cost (suc n) (meant shape bodies part)) 4 1 t c.decreases less (omega arith), (within, alternative-part shape bodies part q.0 q.1 q.2 a k (c.in-Some.ensures bodies) c.requires.readable))

pub fits_alternative-returns-then-eq : goal.fits_alternative-returns-then-eq
fits_alternative-returns-then-eq g t c =
    let a = c.args.alternative.now in
    let s = meant g.P.Part.shape (bodies_of c.args.loops.now) a.part in
    let same = (bytes_eq-Decides a.identifier.now c.args.chosen.now.identifier.now).0 (sym c.eq.ensures ∙ c.if-eq.true) in
    decides-by c.fits_part.result (λ h. (same, h)) (λ h. h.1) c.fits_part.ensures

pub fits_alternative-returns-else-eq : goal.fits_alternative-returns-else-eq
fits_alternative-returns-else-eq g t c =
    let a = c.args.alternative.now in
    let s = meant g.P.Part.shape (bodies_of c.args.loops.now) a.part in
    decides-ended c.eq.result c.if-eq.false (decides-never (λ h. refuted c.eq.result (decides-test c.eq.result _ c.eq.ensures) c.if-eq.false ((bytes_eq-Decides a.identifier.now c.args.chosen.now.identifier.now).1 h.0)))

pub fits_alternative-fits_part-requires : goal.fits_alternative-fits_part-requires
fits_alternative-fits_part-requires g t c κs within =
    let a = c.args.alternative.now in
    let s = meant g.P.Part.shape (bodies_of c.args.loops.now) a.part in
    let k = cost (nodes (dyn_value c.args.chosen.now.payload.now)) s in
    (falls-kept k k 3 4 t c.decreases refl (omega arith), (within, c.requires))
