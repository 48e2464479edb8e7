use Rattle.std.proofs.Common.{rules, ◌∙◌, ap, arith, sym}
use Rattle.std.proofs.lemmas.Int.{to_z-of_z}
use Rattle.std.specs.Int.{w128}
use Rattle.std.specs.Option.{option_and_then}
use Rattle.asn_modules_types.specs.Known.{scope_view}
use Rattle.asn_modules_types.specs.Sizes.{size_of}
use Rattle.asn_modules_types.proofs.Sizing.{size_named}
use Rattle.asn_modules_types.proofs.sizes.size_end.Goals as goal

pub returns-in-Some : goal.returns-in-Some
returns-in-Some c =
    let same = to_z-of_z w128 c.in-Some.number (search (rules, arith)) in
    λ limit.
    (rw same at c.size_of.ensures) ∙ ap (option_and_then size_of) (c.in-Some.ensures limit) ∙ sym (size_named (scope_view limit c.args.scope.now) c.args.token.kind c.args.token c.in_default.not-Number)

pub returns-in-None : goal.returns-in-None
returns-in-None c = λ limit.
    ap (option_and_then size_of) (c.in-None.ensures limit) ∙ sym (size_named (scope_view limit c.args.scope.now) c.args.token.kind c.args.token c.in_default.not-Number)
