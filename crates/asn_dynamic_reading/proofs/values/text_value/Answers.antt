use Rattle.std.proofs.Common.{◌≡◌, ◌∙◌, ap, subst, sym, true, ℕ, string_bytes}
use Rattle.std.specs.Global.{Vec}
use Rattle.std.specs.Str.{is_utf8}
use Rattle.std.proofs.lemmas.Str.{IsUtf8-string_bytes, is_utf8-from_IsUtf8}
use Rattle.asn_dynamic_reading.specs.fitting.HeldValue.{IsHeldValue}
use Rattle.asn_model.specs.Value.{Value}
use Rattle.avn_grammar.specs.Chars.{all}
use Rattle.avn_grammar.specs.WellFormed.{is_octet}
use Rattle.asn_dynamic_values.proofs.Views.{view-Text}
use Rattle.asn_dynamic_reading.proofs.values.text_value.Goals as goal

pub returns-clause-value : goal.returns-clause-value
returns-clause-value c = view-Text c.into_bytes-bytes.result ∙ ap (λ (v : Vec ℕ). Value.text v.items) c.into_bytes-bytes.ensures.value

pub returns-clause-held : goal.returns-clause-held
returns-clause-held c =
    let text = string_bytes c.args.text in
    let bytes = c.into_bytes-bytes.result in
    let same = ap (λ (v : Vec ℕ). v.items) (sym c.into_bytes-bytes.ensures.value) in
    subst IsHeldValue (sym (view-Text bytes))
    (subst (λ t. is_utf8 t ≡ true) same (is_utf8-from_IsUtf8 text (IsUtf8-string_bytes c.args.text)), subst (λ os. all is_octet os ≡ true) c.as_slice.ensures.value c.are_octets.ensures)
