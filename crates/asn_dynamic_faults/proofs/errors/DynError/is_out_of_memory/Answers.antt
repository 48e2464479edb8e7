use Rattle.std.proofs.Common.{◌∙◌, sym}
use Rattle.asn_dynamic_faults.proofs.Paths.{at_field, at_none}
use Rattle.asn_dynamic_faults.specs.DynFailure.{dyn_cause}
use Rattle.asn_dynamic_faults.proofs.errors.DynError.is_out_of_memory.Goals as goal

pub returns-then-has_field : goal.returns-then-has_field
returns-then-has_field c =
    let e = c.args.self.now in
    at_field e.notation e.path.items (dyn_cause e.kind e.codec) (rw c.as_slice.ensures.value at (sym c.has_field.ensures ∙ c.if-has_field.true))

pub returns-in-NoValues : goal.returns-in-NoValues
returns-in-NoValues c =
    let e = c.args.self.now in
    let none = at_none e.path.items (rw c.as_slice.ensures.value at (sym c.has_field.ensures ∙ c.if-has_field.false)) in
    rw (none, c.in-NoValues.is) (c.is_lack_of_memory.ensures e.codec)

pub returns-in-Other : goal.returns-in-Other
returns-in-Other c =
    let e = c.args.self.now in
    let none = at_none e.path.items (rw c.as_slice.ensures.value at (sym c.has_field.ensures ∙ c.if-has_field.false)) in
    rw (none, c.in-Other.is) (c.is_lack_of_memory-in-Other.ensures e.codec)
