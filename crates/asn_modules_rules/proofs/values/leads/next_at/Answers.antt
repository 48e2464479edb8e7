use Rattle.std.proofs.Common.{ap, sym, length, refl}
use Rattle.std.proofs.lemmas.Option.{slice_get_past, slice_get_read}
use Rattle.asn_modules_rules.specs.values.Leads.{joined}
use Rattle.asn_modules_rules.proofs.values.leads.next_at.Goals as goal

pub returns-in-Some : goal.returns-in-Some
returns-in-Some c =
    let looked = c.in-Some.ensures.lookup in
    let xs = c.args.nexts.now in
    sym (ap joined (slice_get_read xs (length xs) c.args.number c.in-Some.next.now refl looked.3.0 looked.1))

pub returns-in-None : goal.returns-in-None
returns-in-None c = sym (ap joined (slice_get_past c.args.nexts.now c.args.number c.in-None.ensures.lookup.3))
