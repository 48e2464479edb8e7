use Rattle.std.proofs.Common.{◌∙◌, ap, refl}
use Rattle.asn_model.specs.Shape.{Shape, are_distinct}
use Rattle.asn_model.proofs.Readables.{names_distinct}
use Rattle.asn_coding.proofs.Members.{members_read, members_refused}
use Rattle.asn_coding.proofs.NameRows.{names-tables}
use Rattle.asn_coding.proofs.TagOrder.{read-distinct}
use Rattle.asn_traits.proofs.sequence.read_members.Goals as goal

pub open_fields-requires : goal.open_fields-requires
open_fields-requires g c =
    let t = g.T.SequenceFields in
    let kind = g.T.Kind.FieldsKind.seq_kind in
    ap are_distinct c.requires.names ∙ read-distinct kind t.fields t.added ∙ names_distinct (Shape.seq kind t.fields t.added) kind t.fields t.added g.met.T.SequenceFields.readable refl

pub returns-in-Ok : goal.returns-in-Ok
returns-in-Ok g c =
    let t = g.T.SequenceFields in
    members_read g.T.Kind.FieldsKind.seq_kind t.fields t.added _ (t.slots c.in-Ok.value) (names-tables _ _ ∙ c.requires.names) c.in_ok-open_fields.ensures c.in-Ok.ensures.read

pub returns-in-Err : goal.returns-in-Err
returns-in-Err g c =
    let t = g.T.SequenceFields in
    members_refused g.T.Kind.FieldsKind.seq_kind t.fields t.added _ (names-tables _ _ ∙ c.requires.names) (c.new-names.ensures ∙ c.requires.names) c.in_ok-open_fields.ensures c.in-Err.ensures.refused
