use Rattle.std.proofs.Common.{refl, sym, ◌∙◌, arith}
use Rattle.std.proofs.lemmas.Result.{err_from_is_err_and}
use Rattle.asn_modules_reader.proofs.parts.SizesRead.{sizes_start, sizes_next, sizes_end, sizes_none}
use Rattle.asn_modules_reader.proofs.parts.size.read_sizes.Goals as goal

pub sizes-init : goal.sizes-init
sizes-init c = (sizes_start c.args.tokens.now c.args.tokens.now c.new-sizes.result.items refl c.new-sizes.ensures.items, omega arith)

pub returns-then-not-begins_constraint-clause-found : goal.returns-then-not-begins_constraint-clause-found
returns-then-not-begins_constraint-clause-found c =
    sizes_end c.args.tokens.now c.sizes.rest.now c.sizes.sizes.items c.sizes.invariant.0 (sym c.begins_constraint.ensures ∙ c.if-not-begins_constraint.true)

pub returns-in_err-size-clause-found : goal.returns-in_err-size-clause-found
returns-in_err-size-clause-found c =
    let p = err_from_is_err_and c.from_residual.result c.from_residual.ensures.1 in
    rw (p.1, p.2) (λ syntax xs rest q.
    sizes_none c.args.tokens.now c.sizes.rest.now c.sizes.sizes.items c.sizes.invariant.0 (sym c.begins_constraint.ensures ∙ c.if-not-begins_constraint.false) (c.in_err-size.ensures.found syntax) xs rest q)

pub sizes-preserved : goal.sizes-preserved
sizes-preserved c = (
  sizes_next c.args.tokens.now c.sizes.rest.now c.in_ok-size.after.now c.sizes.sizes.items c.add_size.new.sizes.items c.in_ok-size.size c.sizes.invariant.0
      (sym c.begins_constraint.ensures ∙ c.if-not-begins_constraint.false) c.in_ok-size.ensures.found c.in_ok-add_size.ensures,
  omega (arith, c.sizes.invariant.1, c.in_ok-size.ensures.shorter),
)
