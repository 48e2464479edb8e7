use Rattle.std.proofs.Common.{◌≡◌, ◌∙◌, ◌++◌, ◌==◌, false, ap, sym, length, map, string_bytes, option_map}
use Rattle.std.proofs.lemmas.List.{length-map}
use Rattle.asn_type_printing.specs.Printed.{comma_text, enumerated_text, item_list}
use Rattle.asn_type_printing.proofs.Written.{enumerated-written}
use Rattle.asn_type_printing.proofs.write.write_enumerated.Goals as goal

pub returns-in_ok-push_str-in-Some-3 : goal.returns-in_ok-push_str-in-Some-3
returns-in_ok-push_str-in-Some-3 c =
    let old = string_bytes c.args.out.now in
    let items = map string_bytes c.args.items.now in
    enumerated-written old (string_bytes c.push_str.new.self) (string_bytes c.write_items.new.out) (string_bytes c.write_comma.new.out) (string_bytes c.push_str-in-Some.new.self) (string_bytes c.write_items-in-Some.new.out) (string_bytes c.push_str-in-Some-2.new.self) items
    (map string_bytes c.in-Some.added.items) c.in_ok-push_str-in-Some.ensures.bytes c.in_ok-write_items-in-Some.ensures
    (c.in_ok-write_comma-in-Some.ensures ∙ ap (λ b. string_bytes c.write_items.new.out ++ comma_text b) (c.is_empty.ensures ∙ ap (λ n. n == 0) (sym (length-map c.args.items.now string_bytes)))) c.in_ok-push_str-in-Some-2.ensures.bytes
    (c.in_ok-write_items-in-Some-2.ensures ∙ ap (λ l. string_bytes c.push_str-in-Some.new.self ++ item_list false (map string_bytes l)) c.deref.ensures.value) c.in_ok-push_str-in-Some-3.ensures.bytes
    ∙ ap (λ a. old ++ enumerated_text items (option_map (λ v. map string_bytes v.items) a)) (sym c.in-Some.is)
