use Rattle.std.proofs.Common.{sym, ◌∙◌, inl}
use Rattle.asn_dynamic_faults.proofs.Levels.{within_more}
use Rattle.asn_dynamic_faults.specs.DynFailure.{dyn_cause}
use Rattle.asn_dynamic_faults.specs.Steps.{fields_of}
use Rattle.asn_dynamic_faults.proofs.errors.DynError.within.Goals as goal

pub returns-in-Ok-insert : goal.returns-in-Ok-insert
returns-in-Ok-insert c =
    rw (c.in-Ok-insert.ensures.items, ← c.in-Ok.ensures.ok) (inl (within_more c.args.notation c.args.self.notation c.args.self.codec c.in-Ok.name (fields_of c.args.self.path.items) (dyn_cause c.args.self.kind c.args.self.codec) (sym c.is_out_of_memory.ensures ∙ c.if-is_out_of_memory.false)))
