use Rattle.std.proofs.Common.{rules, ◌∙◌, arith}
use Rattle.std.proofs.lemmas.Int.{to_z-of_z}
use Rattle.std.specs.Int.{w128}
use Rattle.asn_modules_types.proofs.Sizing.{converted_size}
use Rattle.asn_modules_types.proofs.sizes.size_of.Goals as goal

pub returns : goal.returns
returns c =
    let same = to_z-of_z w128 c.args.number (search (rules, arith)) in
    c.ok.ensures.value ∙ converted_size c.args.number c.try_from.result (rw same at c.try_from.ensures)
