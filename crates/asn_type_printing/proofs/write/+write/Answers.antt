use Rattle.std.proofs.Common.{◌≡◌, ◌∙◌, ◌++◌, ◌==◌, ap, arith, codes, length, refl, sym, true, false, suc, map, string_bytes, vec_len}
use Rattle.std.proofs.lemmas.Result.{on_ok_weaker}
use Rattle.asn_model.specs.Shape.{FieldAdditions, AlternativeAdditions, Shape}
use Rattle.asn_model.specs.ShapeView.{added_field_views, alternative_views, field_views, kind_view, shape_view}
use Rattle.asn_model.proofs.Viewing.{sequence_viewed}
use Rattle.asn_type_printing.specs.Levels.{level_of}
use Rattle.asn_type_printing.specs.Names.{additions_view}
use Rattle.asn_type_printing.specs.Printed.{added_alternative_lines, added_field_lines, alternative_lines, closing, field_lines, has_no_alternatives, has_no_fields, marker_line, type_text}
use Rattle.asn_type_printing.proofs.Viewed.{choice_seen, list_seen, no_alternatives_seen, no_fields_seen, set_seen, table_seen}
use Rattle.asn_type_printing.proofs.Written.{added-alternatives-written, added-fields-written, choice-written, level_within, seq-written, then}
use Rattle.asn_type_printing.proofs.write.+write.Goals as goal

pub write_type-returns-in_ok-write_fields-in-Some : goal.write_type-returns-in_ok-write_fields-in-Some
write_type-returns-in_ok-write_fields-in-Some t c =
    let names = map string_bytes c.args.names.now in
    let level = level_of c.args.level.now in
    let seq = c.in-Seq in
    let lines = string_bytes c.write_fields.new.out in
    let marked = string_bytes c.write_marker.new.out in
    let brace = string_bytes c.push_str-in-Seq.new.self in
    let none = has_no_fields (field_views seq.fields.items) in
    let counted : vec_len seq.fields ≡ length seq.fields.items = omega (arith, seq.fields.ok.0) in
    on_ok_weaker c.write_closing.result
    (λ n. seq-written names level (string_bytes c.args.out.now) (string_bytes c.push_str.new.self) brace lines (string_bytes c.write_closing.new.out) (shape_view c.args.shape.now) (kind_view seq.kind) (field_views seq.fields.items) (added_field_views seq.added) none
    (ap shape_view seq.is ∙ sequence_viewed seq.kind seq.fields seq.added) refl (c.in_ok-push_str-in-Seq.ensures.bytes ∙ ap (λ w. string_bytes c.args.out.now ++ w) c.kind_word.ensures) c.in_ok-push_str-in-Seq-2.ensures.bytes
    (c.in_ok-write_fields-in-Seq.ensures ∙ ap (λ l. brace ++ field_lines names l true (field_views c.deref-in-Seq.result.now)) (level_within c.args.level) ∙ ap (λ fs. brace ++ field_lines names (suc level) true (field_views fs)) c.deref-in-Seq.ensures.value)
    (added-fields-written names level lines marked (string_bytes c.write_fields-in-Some.new.out) (string_bytes c.write_closing.new.out) none (field_views c.in-Some.added.items)
    (c.in_ok-write_marker-in-Some.ensures ∙ ap (λ l. lines ++ marker_line l c.is_empty.result) (level_within c.args.level) ∙ ap (λ b. lines ++ marker_line (suc level) b) (c.is_empty.ensures ∙ ap (λ k. k == 0) counted ∙ sym (no_fields_seen seq.fields.items)))
    (c.in_ok-write_fields-in-Some.ensures ∙ ap (λ l. marked ++ field_lines names l false (field_views c.deref-in-Some.result.now)) (level_within c.args.level) ∙ ap (λ fs. marked ++ field_lines names (suc level) false (field_views fs)) c.deref-in-Some.ensures.value) n
    ∙ ap (λ a. lines ++ added_field_lines names level none (added_field_views a)) (sym c.in-Some.is)))
    c.write_closing.ensures

pub write_type-returns-in-None : goal.write_type-returns-in-None
write_type-returns-in-None t c =
    let names = map string_bytes c.args.names.now in
    let level = level_of c.args.level.now in
    let seq = c.in-Seq in
    let lines = string_bytes c.write_fields.new.out in
    let brace = string_bytes c.push_str-in-Seq.new.self in
    let none = has_no_fields (field_views seq.fields.items) in
    let counted : vec_len seq.fields ≡ length seq.fields.items = omega (arith, seq.fields.ok.0) in
    on_ok_weaker c.write_closing-in-None.result
    (λ n. seq-written names level (string_bytes c.args.out.now) (string_bytes c.push_str.new.self) brace lines (string_bytes c.write_closing-in-None.new.out) (shape_view c.args.shape.now) (kind_view seq.kind) (field_views seq.fields.items) (added_field_views seq.added) none
    (ap shape_view seq.is ∙ sequence_viewed seq.kind seq.fields seq.added) refl (c.in_ok-push_str-in-Seq.ensures.bytes ∙ ap (λ w. string_bytes c.args.out.now ++ w) c.kind_word.ensures) c.in_ok-push_str-in-Seq-2.ensures.bytes
    (c.in_ok-write_fields-in-Seq.ensures ∙ ap (λ l. brace ++ field_lines names l true (field_views c.deref-in-Seq.result.now)) (level_within c.args.level) ∙ ap (λ fs. brace ++ field_lines names (suc level) true (field_views fs)) c.deref-in-Seq.ensures.value)
    (n ∙ ap (λ b. lines ++ closing level b) (c.is_empty-in-None.ensures ∙ ap (λ k. k == 0) counted ∙ sym (no_fields_seen seq.fields.items)) ∙ ap (λ a. lines ++ added_field_lines names level none (added_field_views a)) (sym c.in-None.is)))
    c.write_closing-in-None.ensures

pub write_type-returns-in_ok-write_alternatives-in-Some-added : goal.write_type-returns-in_ok-write_alternatives-in-Some-added
write_type-returns-in_ok-write_alternatives-in-Some-added t c =
    let names = map string_bytes c.args.names.now in
    let level = level_of c.args.level.now in
    let choice = c.in-Choice in
    let lines = string_bytes c.write_alternatives.new.out in
    let marked = string_bytes c.write_marker-in-Some-added.new.out in
    let brace = string_bytes c.push_str-in-Choice.new.self in
    let none = has_no_alternatives (alternative_views choice.alternatives.items) in
    let counted : vec_len choice.alternatives ≡ length choice.alternatives.items = omega (arith, choice.alternatives.ok.0) in
    on_ok_weaker c.write_closing-in-Some-added.result
    (λ n. choice-written names level (string_bytes c.args.out.now) brace lines (string_bytes c.write_closing-in-Some-added.new.out) (shape_view c.args.shape.now) (alternative_views choice.alternatives.items) (additions_view choice.added) none
    (ap shape_view choice.is ∙ choice_seen choice.alternatives choice.added) refl c.in_ok-push_str-in-Choice.ensures.bytes
    (c.in_ok-write_alternatives-in-Choice.ensures ∙ ap (λ l. brace ++ alternative_lines names l true (alternative_views c.deref-in-Choice.result.now)) (level_within c.args.level) ∙ ap (λ alts. brace ++ alternative_lines names (suc level) true (alternative_views alts)) c.deref-in-Choice.ensures.value)
    (added-alternatives-written names level lines marked (string_bytes c.write_alternatives-in-Some-added.new.out) (string_bytes c.write_closing-in-Some-added.new.out) none (alternative_views c.in-Some-added.added.items)
    (c.in_ok-write_marker-in-Some-added.ensures ∙ ap (λ l. lines ++ marker_line l c.is_empty-in-Some-added.result) (level_within c.args.level) ∙ ap (λ b. lines ++ marker_line (suc level) b) (c.is_empty-in-Some-added.ensures ∙ ap (λ k. k == 0) counted ∙ sym (no_alternatives_seen choice.alternatives.items)))
    (c.in_ok-write_alternatives-in-Some-added.ensures ∙ ap (λ l. marked ++ alternative_lines names l false (alternative_views c.deref-in-Some-added.result.now)) (level_within c.args.level)
    ∙ ap (λ alts. marked ++ alternative_lines names (suc level) false (alternative_views alts)) c.deref-in-Some-added.ensures.value) n ∙ ap (λ a. lines ++ added_alternative_lines names level none (additions_view a)) (sym c.in-Some-added.is)))
    c.write_closing-in-Some-added.ensures

pub write_type-returns-in-None-added : goal.write_type-returns-in-None-added
write_type-returns-in-None-added t c =
    let names = map string_bytes c.args.names.now in
    let level = level_of c.args.level.now in
    let choice = c.in-Choice in
    let lines = string_bytes c.write_alternatives.new.out in
    let brace = string_bytes c.push_str-in-Choice.new.self in
    let none = has_no_alternatives (alternative_views choice.alternatives.items) in
    let counted : vec_len choice.alternatives ≡ length choice.alternatives.items = omega (arith, choice.alternatives.ok.0) in
    on_ok_weaker c.write_closing-in-None-added.result
    (λ n. choice-written names level (string_bytes c.args.out.now) brace lines (string_bytes c.write_closing-in-None-added.new.out) (shape_view c.args.shape.now) (alternative_views choice.alternatives.items) (additions_view choice.added) none
    (ap shape_view choice.is ∙ choice_seen choice.alternatives choice.added) refl c.in_ok-push_str-in-Choice.ensures.bytes
    (c.in_ok-write_alternatives-in-Choice.ensures ∙ ap (λ l. brace ++ alternative_lines names l true (alternative_views c.deref-in-Choice.result.now)) (level_within c.args.level) ∙ ap (λ alts. brace ++ alternative_lines names (suc level) true (alternative_views alts)) c.deref-in-Choice.ensures.value)
    (n ∙ ap (λ b. lines ++ closing level b) (c.is_empty-in-None-added.ensures ∙ ap (λ k. k == 0) counted ∙ sym (no_alternatives_seen choice.alternatives.items)) ∙ ap (λ a. lines ++ added_alternative_lines names level none (additions_view a)) (sym c.in-None-added.is)))
    c.write_closing-in-None-added.ensures

pub write_type-returns-in_ok-push_str-in-ListOf : goal.write_type-returns-in_ok-push_str-in-ListOf
write_type-returns-in_ok-push_str-in-ListOf t c =
    let names = map string_bytes c.args.names.now in
    let level = level_of c.args.level.now in
    let old = string_bytes c.args.out.now in
    let word = string_bytes c.push_str-in-ListOf.new.self in
    on_ok_weaker c.write_type.result
    (λ n. n ∙ ap (λ s. word ++ type_text names level (shape_view s)) c.deref-in-ListOf.ensures ∙ then old word (codes "SEQUENCE OF ") (type_text names level (shape_view c.in-ListOf.part.value)) c.in_ok-push_str-in-ListOf.ensures.bytes
    ∙ ap (λ s. old ++ type_text names level s) (sym (ap shape_view c.in-ListOf.is ∙ list_seen c.in-ListOf.part)))
    c.write_type.ensures

pub write_type-returns-in_ok-push_str-in-SetOf : goal.write_type-returns-in_ok-push_str-in-SetOf
write_type-returns-in_ok-push_str-in-SetOf t c =
    let names = map string_bytes c.args.names.now in
    let level = level_of c.args.level.now in
    let old = string_bytes c.args.out.now in
    let word = string_bytes c.push_str-in-SetOf.new.self in
    on_ok_weaker c.write_type-in-SetOf.result
    (λ n. n ∙ ap (λ s. word ++ type_text names level (shape_view s)) c.deref-in-SetOf.ensures ∙ then old word (codes "SET OF ") (type_text names level (shape_view c.in-SetOf.part.value)) c.in_ok-push_str-in-SetOf.ensures.bytes
    ∙ ap (λ s. old ++ type_text names level s) (sym (ap shape_view c.in-SetOf.is ∙ set_seen c.in-SetOf.part)))
    c.write_type-in-SetOf.ensures

pub write_type-returns-in_ok-push_str-in-Table : goal.write_type-returns-in_ok-push_str-in-Table
write_type-returns-in_ok-push_str-in-Table t c =
    let names = map string_bytes c.args.names.now in
    let level = level_of c.args.level.now in
    let old = string_bytes c.args.out.now in
    let word = string_bytes c.push_str-in-Table.new.self in
    on_ok_weaker c.write_type-in-Table.result
    (λ n. n ∙ ap (λ s. word ++ type_text names level (shape_view s)) c.deref-in-Table.ensures ∙ then old word (codes "SEQUENCE OF ") (type_text names level (shape_view c.in-Table.part.value)) c.in_ok-push_str-in-Table.ensures.bytes
    ∙ ap (λ s. old ++ type_text names level s) (sym (ap shape_view c.in-Table.is ∙ table_seen c.in-Table.part)))
    c.write_type-in-Table.ensures
