use Rattle.std.proofs.Common.{◌≡◌, ◌+◌, suc, ◌++◌, arith, refl, sym, ap, subst, ◌∙◌, rules}
use Rattle.std.specs.Prelude.{codes}
use Rattle.std.specs.Fmt.{HasWritten}
use Rattle.std.proofs.Output.{has_written_of_eq}
use Rattle.std.proofs.lemmas.Grind.{common_steps, put_three}
use Rattle.std.proofs.lemmas.List.{append-nil}
use Rattle.avn_grammar.specs.Print.{print, print_rows, print_fields, separator, indent}
use Rattle.avn_grammar.specs.Tree.{no_fields}
use Rattle.avn_nodes.specs.Levels.{depth_of}
use Rattle.avn_nodes.specs.NodeViews.{NodeView}
use Rattle.avn_nodes.specs.Subtrees.{tree_from}
use Rattle.avn_nodes.proofs.Rows.{count_of, present, print-choice, print-list, print-fields, rows-more, fields-more, field_row, no-rows, no-field_rows, was_ok, depth-Under}
use Rattle.avn_nodes.proofs.Walks.{entry}
use Rattle.avn_nodes.proofs.NodeRows.{kind_here, child_present, child_absent, payload_here, fields_begun, fields_next, fields_all, list_begun, list_next, list_all}
use Rattle.avn_nodes.proofs.print_nodes.+nodes.Goals.{print_fields-in-Absent, print_fields-in_default+in_ok-begin_field-in_default+in_ok-print_node-in_default}
use Rattle.avn_nodes.proofs.print_nodes.+nodes.Goals as goal

pub print_node-print_fields-requires : goal.print_node-print_fields-requires
print_node-print_fields-requires g t c =
    let k = kind_here c.args.nodes.now.nodes c.args.node c.kind.result c.requires c.kind.ensures in
    λ κs o. (grind (arith, common_steps), (search rules, (c.requires, k ∙ c.in-Sequence.is)))

pub print_node-print_list-requires : goal.print_node-print_list-requires
print_node-print_list-requires g t c =
    let k = kind_here c.args.nodes.now.nodes c.args.node c.kind.result c.requires c.kind.ensures in
    λ κs o. (grind (arith, common_steps), (search rules, (c.requires, k ∙ c.in-SequenceOf.is)))

pub print_node-name-requires : goal.print_node-name-requires
print_node-name-requires g t c =
    let k = kind_here c.args.nodes.now.nodes c.args.node c.kind.result c.requires c.kind.ensures in
    (payload_here c.args.nodes.now.nodes c.args.node c.requires (k ∙ c.in-Choice.is)).here.below

pub print_node-print_node-requires : goal.print_node-print_node-requires
print_node-print_node-requires g t c =
    let k = kind_here c.args.nodes.now.nodes c.args.node c.kind.result c.requires c.kind.ensures in
    let p = payload_here c.args.nodes.now.nodes c.args.node c.requires (k ∙ c.in-Choice.is) in
    let below = p.here.below in
    λ κs o. (grind (arith, common_steps, below), (search rules, (p.here.has p.item refl).0))

pub print_node-returns-in_ok-write_str-in-Choice-2 : goal.print_node-returns-in_ok-write_str-in-Choice-2
print_node-returns-in_ok-write_str-in-Choice-2 g t c = λ plain ok.
    let d = depth_of c.args.levels.now in
    let k = kind_here c.args.nodes.now.nodes c.args.node c.kind.result c.requires c.kind.ensures in
    let p = payload_here c.args.nodes.now.nodes c.args.node c.requires (k ∙ c.in-Choice.is) in
    let h1 = has_written_of_eq _ _ _ _ _ (c.name.ensures ∙ ap (λ (v : NodeView). v.name) p.here.view) (c.write_str-in-Choice.ensures.writes plain (was_ok _ _ c.in_ok-write_str-in-Choice.was)) in
    let h2 = c.write_str-in-Choice-2.ensures.writes h1.plain (was_ok _ _ c.in_ok-write_str-in-Choice-2.was) in
    let h3 = has_written_of_eq _ _ _ _ _ (ap (print d) (p.here.has p.item refl).1) (c.print_node.ensures h2.plain ok) in
    put_three g.W.Write.write_str_gives _ _ _ _ _ _ _ _ h1 h2 h3 (print-choice d p.id p.item ∙ ap (print d) p.is)

pub print_list-children-init : goal.print_list-children-init
print_list-children-init g t c =
    let d = suc (depth_of c.args.levels.now) in
    let w = list_begun c.args.nodes.now.nodes c.args.node _ _ c.requires.list refl refl in
    (w.0, (λ p. has_written_of_eq _ _ _ _ _ (no-rows d ∙ ap (print_rows d 0) w.1) (search rules)))

pub print_list-print_node-requires : goal.print_list-print_node-requires
print_list-print_node-requires g t c =
    let n = list_next _ _ _ _ _ c.children.invariant.0 c.requires.lists c.end-end.ensures c.children-test.true in
    let below = n.here.below in
    let later = n.later in
    λ κs o. (grind (arith, common_steps, below, later), (search rules, (n.here.has n.item refl).0))

pub print_list-end-child-requires : goal.print_list-end-child-requires
print_list-end-child-requires g t c =
    (list_next _ _ _ _ _ c.children.invariant.0 c.requires.lists c.end-end.ensures c.children-test.true).here.below

pub print_list-children-preserved : goal.print_list-children-preserved
print_list-children-preserved g t c =
    let d = suc (depth_of c.args.levels.now) in
    let nodes = c.args.nodes.now.nodes in
    let w = c.children.invariant.0 in
    let n = list_next _ _ _ _ _ w c.requires.lists c.end-end.ensures c.children-test.true in
    let k = n.next c.end-child.result (c.children.row + 1) c.end-child.ensures refl in (
      k.0,
      λ p.
          let h0 = c.children.invariant.1 p in
          let h1 = has_written_of_eq _ _ _ _ _ (ap (λ r. separator r ++ indent d) w.rows) (c.begin_row.ensures h0.plain (was_ok _ _ c.in_ok-begin_row.was)) in
          let h2 = has_written_of_eq _ _ _ _ _ (ap (λ l. print l (tree_from nodes c.children.child)) (depth-Under c.args.levels) ∙ ap (print d) (n.here.has n.item refl).1) (c.print_node.ensures h1.plain (was_ok _ _ c.in_ok-print_node.was)) in
          put_three g.W.Write.write_str_gives _ _ _ _ _ _ _ _ h0 h1 h2 (rows-more d w.done n.item ∙ ap (print_rows d 0) (sym k.1)),
    )

pub print_list-children-smaller : goal.print_list-children-smaller
print_list-children-smaller g t c =
    let n = list_next _ _ _ _ _ c.children.invariant.0 c.requires.lists c.end-end.ensures c.children-test.true in
    let e = ap (λ (v : NodeView). v.end) n.here.view in
    omega (arith, e, c.end-child.ensures, c.children-test.true)

pub print_list-returns : goal.print_list-returns
print_list-returns g t c = λ p ok.
    let d = depth_of c.args.levels.now in
    let w = c.children.invariant.0 in
    let all = list_all _ _ _ _ _ w c.requires.lists c.end-end.ensures c.children-test.false in
    let h1 = c.write_str.ensures.writes p (was_ok _ _ c.in_ok-write_str.was) in
    let h2 = c.children.invariant.1 h1.plain in
    put_three g.W.Write.write_str_gives _ _ _ _ _ _ _ _ h1 h2 (c.write_close.ensures h2.plain ok) (print-list d c.children.row w.done (sym w.rows) ∙ ap (print d) all)

pub print_fields-children-init : goal.print_fields-children-init
print_fields-children-init g t c =
    let d = suc (depth_of c.args.levels.now) in
    let w = fields_begun c.args.nodes.now.nodes c.args.node _ _ c.requires.sequence refl refl in
    (w.0, (λ p. has_written_of_eq _ _ _ _ _ (no-field_rows d ∙ ap (print_fields d 0) w.1) (search rules)))

pub print_fields-kind-requires : goal.print_fields-kind-requires
print_fields-kind-requires g t c =
    (fields_next _ _ _ _ _ c.children.invariant.0 c.requires.lists c.end-end.ensures c.children-test.true).here.below

pub print_fields-end-child-requires : goal.print_fields-end-child-requires
print_fields-end-child-requires g t c =
    (fields_next _ _ _ _ _ c.children.invariant.0 c.requires.lists c.end-end.ensures c.children-test.true).here.below

pub print_fields-print_node-requires : goal.print_fields-print_node-requires
print_fields-print_node-requires g t c =
    let nodes = c.args.nodes.now.nodes in
    let n = fields_next _ _ _ _ _ c.children.invariant.0 c.requires.lists c.end-end.ensures c.children-test.true in
    let s = child_present nodes c.children.child n.id n.slot c.kind.result n.here c.kind.ensures c.in_default.not-Absent in
    let below = n.here.below in
    let later = n.later in
    λ κs o. (grind (arith, common_steps, below, later), (search rules, (n.here.has s.0 s.1).0))

pub print_fields-children-preserved : goal.print_fields-children-preserved
print_fields-children-preserved g t c =
    let d = suc (depth_of c.args.levels.now) in
    let nodes = c.args.nodes.now.nodes in
    let child = c.children.child in
    let w = c.children.invariant.0 in
    let n = fields_next _ _ _ _ _ w c.requires.lists c.end-end.ensures c.children-test.true in
    elim c.match-kind.branch [
      | print_fields-in-Absent a ↦
          let s = child_absent nodes child n.id n.slot c.kind.result n.here c.kind.ensures a.in-Absent.is in
          let none = ap (λ o. present (entry n.id o no_fields)) s in
          let k = n.next c.end-child.result c.match-kind.row c.end-child.ensures (omega (arith, a.row-is, none)) in
          let e : print_fields d 0 w.done ≡ print_fields d 0 k.0.done =
          sym (append-nil (print_fields d 0 w.done)) ∙ ap (λ o. print_fields d 0 w.done ++ field_row d (present w.done) n.id o) (sym s) ∙ fields-more d w.done n.id n.slot ∙ ap (print_fields d 0) (sym k.1) in
          (k.0, (λ p. subst (λ y. HasWritten g.W.Write.write_str_gives c.write_str.new.self (print_fields d 0 k.0.done) y) (sym a.f-is) (has_written_of_eq _ _ _ _ _ e (c.children.invariant.1 p))))
      | print_fields-in_default+in_ok-begin_field-in_default+in_ok-print_node-in_default a ↦
          let s = child_present nodes child n.id n.slot c.kind.result n.here c.kind.ensures a.in_default.not-Absent in
          let one = ap (λ o. present (entry n.id o no_fields)) s.1 in
          let k = n.next c.end-child.result c.match-kind.row c.end-child.ensures (omega (arith, a.row-is, one)) in
          let named : a.name.result.now ≡ n.id = a.name.ensures ∙ ap (λ (v : NodeView). v.name) n.here.view in
          let lead = ap (λ r. separator r ++ indent d ++ a.name.result.now ++ codes " ") w.rows ∙ ap (λ x. separator (present w.done) ++ indent d ++ x ++ codes " ") named in
          let e = ap (λ o. print_fields d 0 w.done ++ field_row d (present w.done) n.id o) (sym s.1) ∙ fields-more d w.done n.id n.slot ∙ ap (print_fields d 0) (sym k.1) in (
            k.0,
            (λ p.
                let h0 = c.children.invariant.1 p in
                let h1 = has_written_of_eq _ _ _ _ _ lead (a.begin_field.ensures h0.plain (was_ok _ _ a.in_ok-begin_field-in_default.was)) in
                let h2 = has_written_of_eq _ _ _ _ _ (ap (λ l. print l (tree_from nodes child)) (depth-Under c.args.levels) ∙ ap (print d) (n.here.has s.0 s.1).1) (a.print_node.ensures h1.plain (was_ok _ _ a.in_ok-print_node-in_default.was)) in
                subst (λ y. HasWritten g.W.Write.write_str_gives c.write_str.new.self (print_fields d 0 k.0.done) y) (sym a.f-is) (put_three g.W.Write.write_str_gives _ _ _ _ _ _ _ _ h0 h1 h2 e)),
          )
    ]

pub print_fields-children-smaller : goal.print_fields-children-smaller
print_fields-children-smaller g t c =
    let n = fields_next _ _ _ _ _ c.children.invariant.0 c.requires.lists c.end-end.ensures c.children-test.true in
    let e = ap (λ (v : NodeView). v.end) n.here.view in
    omega (arith, e, c.end-child.ensures, c.children-test.true)

pub print_fields-returns : goal.print_fields-returns
print_fields-returns g t c = λ p ok.
    let d = depth_of c.args.levels.now in
    let w = c.children.invariant.0 in
    let all = fields_all _ _ _ _ _ w c.requires.lists c.end-end.ensures c.children-test.false in
    let h1 = c.write_str.ensures.writes p (was_ok _ _ c.in_ok-write_str.was) in
    let h2 = c.children.invariant.1 h1.plain in
    put_three g.W.Write.write_str_gives _ _ _ _ _ _ _ _ h1 h2 (c.write_close.ensures h2.plain ok) (print-fields d c.children.row w.done (sym w.rows) ∙ ap (print d) all)
