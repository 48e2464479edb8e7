use Rattle.std.proofs.Common.{arith, ◌≡◌, ◌<◌, ◌+◌, suc, ◌++◌, None, Some, List, length, length-take-le, take, get_or, sym, ap, subst, ◌∙◌, string_bytes, rules}
use Rattle.std.specs.Prelude.{codes}
use Rattle.std.proofs.Output.{has_written_of_eq}
use Rattle.std.specs.Fmt.{HasWritten}
use Rattle.std.proofs.lemmas.Grind.{put_three}
use Rattle.std.proofs.lemmas.List.{take_all, append-nil}
use Rattle.avn_grammar.specs.Print.{print, print_rows, print_fields, separator, indent}
use Rattle.avn_value.specs.declared.value.AvnValue.{AvnValue}
use Rattle.avn_value.specs.View.{tree_of, list_trees, fields_trees}
use Rattle.avn_nodes.specs.Levels.{depth_of}
use Rattle.avn_value.proofs.Views.{view-Choice, view-Sequence}
use Rattle.avn_nodes.proofs.Rows.{count_of, present, print-choice, print-list, print-fields, rows-more, fields-more, present-more, trees-next, count-trees, was_ok, depth-Under, no-rows, no-field_rows, field-next}
use Rattle.avn_value.proofs.print.+print.Goals.{print_fields-in-Some+in_ok-begin_field-in-Some+in_ok-print_at-in-Some, print_fields-in-None}
use Rattle.avn_value.proofs.print.+print.Goals as goal

pub print_at-returns-in-Sequence : goal.print_at-returns-in-Sequence
print_at-returns-in-Sequence g t c = λ p ok.
    let a = c.in-Sequence in
    has_written_of_eq _ _ _ _ _ (ap (print (depth_of c.args.levels.now)) (sym (ap tree_of a.is ∙ view-Sequence a.fields))) (c.print_fields.ensures p ok)

pub print_at-returns-in_ok-write_str-in-Choice-2 : goal.print_at-returns-in_ok-write_str-in-Choice-2
print_at-returns-in_ok-write_str-in-Choice-2 g t c = λ p ok.
    let a = c.in-Choice in
    let d = depth_of c.args.levels.now in
    let e : string_bytes a.identifier ++ (codes " : " ++ print d (tree_of a.value.value)) ≡ print d (tree_of c.args.value.now) =
    print-choice d (string_bytes a.identifier) (tree_of a.value.value) ∙ ap (print d) (sym (ap tree_of a.is ∙ view-Choice a.identifier a.value)) in
    let h1 = has_written_of_eq _ _ _ _ _ c.as_str-in-Choice.ensures.value (c.write_str-in-Choice.ensures.writes p (was_ok _ _ c.in_ok-write_str-in-Choice.was)) in
    let h2 = c.write_str-in-Choice-2.ensures.writes h1.plain (was_ok _ _ c.in_ok-write_str-in-Choice-2.was) in
    put_three g.W.Write.write_str_gives _ _ _ _ _ _ _ _ h1 h2 (has_written_of_eq _ _ _ _ _ (ap (λ x. print d (tree_of x)) c.deref-in-Choice.ensures) (c.print_at.ensures h2.plain ok)) e

pub print_list-loop-row-init : goal.print_list-loop-row-init
print_list-loop-row-init g t c = λ p. has_written_of_eq _ _ _ _ _ (no-rows (suc (depth_of c.args.levels.now))) (search rules)

pub print_list-loop-row-preserved : goal.print_list-loop-row-preserved
print_list-loop-row-preserved g t c = λ p.
    let d = suc (depth_of c.args.levels.now) in
    let xs = c.deref-item-items.result.now in
    let i = c.loop-row.row in
    let x = c.item-item.result in
    let done = list_trees (take i xs) in
    let below : i < length xs = omega arith in
    let count : i ≡ count_of done = sym (count-trees tree_of (take i xs) ∙ omega (arith, length-take-le i xs)) in
    let h0 = c.loop-row.invariant p in
    let h1 = has_written_of_eq _ _ _ _ _ (ap (λ r. separator r ++ indent d) count) (c.begin_row.ensures h0.plain (was_ok _ _ c.in_ok-begin_row.was)) in
    let h2 = has_written_of_eq _ _ _ _ _ (ap (λ l. print l (tree_of x)) (depth-Under c.args.levels) ∙ ap (λ y. print d (tree_of y)) c.item-item.is) (c.print_at.ensures h1.plain (was_ok _ _ c.in_ok-print_at.was)) in
    put_three g.W.Write.write_str_gives _ _ _ _ _ _ _ _ h0 h1 h2 (rows-more d done (tree_of (get_or xs i x)) ∙ ap (print_rows d 0) (sym (trees-next tree_of xs i x below)))

pub print_list-returns : goal.print_list-returns
print_list-returns g t c = λ p ok.
    let d = depth_of c.args.levels.now in
    let xs = c.args.list.now.items in
    let h1 = c.write_str.ensures.writes p (was_ok _ _ c.in_ok-write_str.was) in
    let all : take c.loop-row.row c.deref-item-items.result.now ≡ xs = take_all c.loop-row.row c.deref-item-items.result.now (omega arith) ∙ c.deref-item-items.ensures.value in
    let h2 = has_written_of_eq _ _ _ _ _ (ap (λ v. print_rows (suc d) 0 (list_trees v)) all) (c.loop-row.invariant h1.plain) in
    let count : count_of (list_trees xs) ≡ c.len.result = omega (arith, count-trees tree_of xs, c.len.ensures, c.deref-item-items.ensures.len, ap (λ (v : List AvnValue). length v) c.deref-item-items.ensures.value) in
    put_three g.W.Write.write_str_gives _ _ _ _ _ _ _ _ h1 h2 (c.write_close.ensures h2.plain ok) (print-list d c.len.result (list_trees xs) count)

pub print_fields-loop-name-init : goal.print_fields-loop-name-init
print_fields-loop-name-init g t c = (omega arith, omega arith, (λ p. has_written_of_eq _ _ _ _ _ (no-field_rows (suc (depth_of c.args.levels.now))) (search rules)))

pub print_fields-loop-name-preserved : goal.print_fields-loop-name-preserved
print_fields-loop-name-preserved g t c =
    let d = suc (depth_of c.args.levels.now) in
    let xs = c.deref-name-items.result.now in
    let i = c.loop-name.name-index in
    let x = c.loop-name-item.result in
    let done = fields_trees (take i xs) in
    let below : i < length xs = c.loop-name-test.true in
    let was = c.loop-name.invariant in
    elim c.match-slot.branch [
      | print_fields-in-Some+in_ok-begin_field-in-Some+in_ok-print_at-in-Some w ↦
          let v = w.in-Some.value in
          let id = string_bytes (x.0) in
          let next = field-next tree_of xs i x (Some v) below c.loop-name-item.is w.in-Some.is in
          let count = ap present (sym next) ∙ present-more done id (Some (tree_of v)) in (
            omega (arith, count, was.0, w.row-is),
            omega (arith, was.1, w.row-is),
            (λ p.
                let h0 = was.2 p in
                let lead = ap (λ r. separator r ++ indent d ++ w.as_str.result.now ++ codes " ") was.0 ∙ ap (λ y. separator (present done) ++ indent d ++ y ++ codes " ") w.as_str.ensures.value in
                let h1 = has_written_of_eq _ _ _ _ _ lead (w.begin_field.ensures h0.plain (was_ok _ _ w.in_ok-begin_field-in-Some.was)) in
                let h2 = has_written_of_eq _ _ _ _ _ (ap (λ k. print k (tree_of v)) (depth-Under c.args.levels)) (w.print_at.ensures h1.plain (was_ok _ _ w.in_ok-print_at-in-Some.was)) in
                subst (λ y. HasWritten g.W.Write.write_str_gives c.write_str.new.self (print_fields d 0 (fields_trees (take (i + 1) xs))) y) (sym w.f-is)
                (put_three g.W.Write.write_str_gives _ _ _ _ _ _ _ _ h0 h1 h2 (fields-more d done id (Some (tree_of v)) ∙ ap (print_fields d 0) next))),
          )
      | print_fields-in-None w ↦
          let id = string_bytes (x.0) in
          let next = field-next tree_of xs i x None below c.loop-name-item.is w.in-None.is in
          let count = ap present (sym next) ∙ present-more done id None in (
            omega (arith, count, was.0, w.row-is),
            omega (arith, was.1, w.row-is),
            (λ p. subst (λ y. HasWritten g.W.Write.write_str_gives c.write_str.new.self (print_fields d 0 (fields_trees (take (i + 1) xs))) y) (sym w.f-is)
                (has_written_of_eq _ _ _ _ _ (sym (append-nil (print_fields d 0 done)) ∙ fields-more d done id None ∙ ap (print_fields d 0) next) (was.2 p))),
          )
    ]

pub print_fields-returns : goal.print_fields-returns
print_fields-returns g t c = λ p ok.
    let d = depth_of c.args.levels.now in
    let xs = c.args.fields.now.items in
    let h1 = c.write_str.ensures.writes p (was_ok _ _ c.in_ok-write_str.was) in
    let all : take c.loop-name.name-index c.deref-name-items.result.now ≡ xs = take_all c.loop-name.name-index c.deref-name-items.result.now (omega arith) ∙ c.deref-name-items.ensures.value in
    let h2 = has_written_of_eq _ _ _ _ _ (ap (λ v. print_fields (suc d) 0 (fields_trees v)) all) (c.loop-name.invariant.2 h1.plain) in
    let n : present (fields_trees xs) ≡ c.loop-name.row = ap (λ v. present (fields_trees v)) (sym all) ∙ sym c.loop-name.invariant.0 in
    put_three g.W.Write.write_str_gives _ _ _ _ _ _ _ _ h1 h2 (c.write_close.ensures h2.plain ok) (print-fields d c.loop-name.row (fields_trees xs) n)
