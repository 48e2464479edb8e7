use Rattle.std.proofs.Common.{◌∙◌, sym, ◌<◌, length, arith, List, Option}
use Rattle.asn_slots.proofs.Flat.{first_at}
use Rattle.asn_slots.proofs.slots.take_first.Goals as goal

pub returns-clause-first : goal.returns-clause-first
returns-clause-first g c =
    let within : c.args.start < length c.args.slots.now.items = omega (arith, c.args.slots.now.ok.0, c.requires, c.if-len-start.false, c.len.ensures) in
    first_at c.args.slots.now.items c.take_last.new.self.items c.args.start c.take_last.result within (sym {A = List (Option g.row.V.Denot)} c.truncate.ensures.items ∙ c.take_last.ensures.items)
