use Rattle.std.proofs.Common.{◌≡◌, ap, sym, ◌∙◌, ◌&&◌, true}
use Rattle.asn_model.specs.Readable.{are_key_and_value, has_no_additions, is_entry, is_sequence}
use Rattle.asn_model.specs.ShapeView.{added_field_views, field_views, kind_view, shape_view}
use Rattle.asn_model.proofs.ShapeNames.{entry_viewed}
use Rattle.asn_model.proofs.readable.is_entry.Goals as goal

pub returns-then-are_key_and_value : goal.returns-then-are_key_and_value
returns-then-are_key_and_value c =
    let fields = field_views c.in-Seq.fields.items in
    let closed = has_no_additions (added_field_views c.in-Seq.added) in
    let sequence : is_sequence (kind_view c.in-Seq.kind) ≡ true = sym c.is_sequence.ensures ∙ c.if-is_sequence.true in
    let keyed : are_key_and_value fields ≡ true = sym (c.are_key_and_value.ensures ∙ ap (λ l. are_key_and_value (field_views l)) c.deref.ensures.value) ∙ c.if-are_key_and_value.true in
    c.has_no_additions.ensures
    ∙ sym (ap (λ s. is_entry (shape_view s)) c.in-Seq.is ∙ entry_viewed c.in-Seq.kind c.in-Seq.fields c.in-Seq.added
    ∙ ap (λ b. b && (are_key_and_value fields && closed)) sequence ∙ ap (λ b. b && closed) keyed)
