use Rattle.std.proofs.Common.{◌≡◌, ◌∙◌, ◌++◌, ap, refl, sym, length, map, string_bytes, Some, None, append-nil}
use Rattle.std.proofs.lemmas.Option.{slice_get-map, slice_get_past, slice_get_read}
use Rattle.std.specs.List.{slice_get}
use Rattle.std.specs.Option.{option_map}
use Rattle.asn_model.specs.ShapeView.{shape_view}
use Rattle.asn_type_printing.specs.Printed.{assignment_of, type_text}
use Rattle.asn_type_printing.proofs.Written.{assignment-written, level_outermost}
use Rattle.asn_type_printing.proofs.print.write_assignment.Goals as goal

pub returns-in_ok-push_str-in-Some-3 : goal.returns-in_ok-push_str-in-Some-3
returns-in_ok-push_str-in-Some-3 c =
    let at : slice_get c.args.types.now c.args.number ≡ Some c.in-Some.shape.now = slice_get_read c.args.types.now (length c.args.types.now) c.args.number c.in-Some.shape.now refl c.in-Some.ensures.lookup.3.0 c.in-Some.ensures.lookup.1 in
    assignment-written (map string_bytes c.args.names.now) c.args.number (string_bytes c.args.out.now) (string_bytes c.push_str.new.self) (string_bytes c.push_str-in-Some.new.self) (string_bytes c.write_type.new.out) (string_bytes c.push_str-in-Some-2.new.self)
    (shape_view c.in-Some.shape.now) (slice_get (map shape_view c.args.types.now) c.args.number) (slice_get-map shape_view c.args.types.now c.args.number ∙ ap (option_map shape_view) at)
    (c.in_ok-push_str-in-Some.ensures.bytes ∙ ap (λ n. string_bytes c.args.out.now ++ n) c.name_at.ensures) c.in_ok-push_str-in-Some-2.ensures.bytes
    (c.in_ok-write_type-in-Some.ensures ∙ ap (λ l. string_bytes c.push_str-in-Some.new.self ++ type_text (map string_bytes c.args.names.now) l (shape_view c.in-Some.shape.now)) level_outermost) c.in_ok-push_str-in-Some-3.ensures.bytes

pub returns-in-None : goal.returns-in-None
returns-in-None c =
    let past : slice_get c.args.types.now c.args.number ≡ None = slice_get_past c.args.types.now c.args.number c.in-None.ensures.lookup.3 in
    sym (append-nil (string_bytes c.args.out.now)) ∙ ap (λ s. string_bytes c.args.out.now ++ assignment_of (map string_bytes c.args.names.now) c.args.number s) (sym (slice_get-map shape_view c.args.types.now c.args.number ∙ ap (option_map shape_view) past))
