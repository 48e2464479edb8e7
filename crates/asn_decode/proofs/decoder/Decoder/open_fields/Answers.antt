use Rattle.std.proofs.Common.{◌∙◌, ap}
use Rattle.asn_fault.specs.Failure.{failure_of}
use Rattle.asn_model.specs.Shape.{are_distinct}
use Rattle.asn_coding.proofs.NameRows.{names-tables, place-within}
use Rattle.asn_coding.proofs.Refusing.{repeated_field}
use Rattle.asn_decode.proofs.decoder.Decoder.open_fields.Goals as goal

pub open_members-requires : goal.open_members-requires
open_members-requires g c = ap are_distinct (names-tables c.args.root.now c.args.additions.now) ∙ c.requires

pub field-requires : goal.field-requires
field-requires g c = let h = rw c.in-Ok-Repeated.field-0-is at c.in-Ok-Repeated.ensures in place-within c.args.root.now c.args.additions.now _ h.row h.at

pub returns-in-Ok-Repeated : goal.returns-in-Ok-Repeated
returns-in-Ok-Repeated g c =
    let h = rw c.in-Ok-Repeated.field-0-is at c.in-Ok-Repeated.ensures in
    repeated_field _ _ c.args.root.now c.args.additions.now _ _ _ h c.field.ensures c.codec.ensures (ap failure_of c.duplicate_field.ensures)
