use Rattle.std.proofs.Common.{refl, arith}
use Rattle.std.proofs.lemmas.Result.{err_from_is_err_and}
use Rattle.asn_modules_grammar.specs.notation.Lists.{no_more}
use Rattle.asn_modules_grammar.specs.notation.Tags.{TagsParse}
use Rattle.asn_modules_reader.proofs.parts.NumbersRead.{tags_next, tags_none}
use Rattle.asn_modules_reader.proofs.parts.Runs.{going_start, going_end}
use Rattle.asn_modules_reader.proofs.parts.tag.read_tags.Goals as goal

pub tags-init : goal.tags-init
tags-init c = (going_start TagsParse c.args.tokens.now c.args.tokens.now c.new-tags.result.items refl c.new-tags.ensures.items, omega arith)

pub returns-in_default-clause-found : goal.returns-in_default-clause-found
returns-in_default-clause-found c = going_end TagsParse c.args.tokens.now c.tags.rest.now c.tags.rest.now c.tags.tags.items c.tags.invariant.0 (no_more c.in_default.ensures.0)

pub returns-in_err-tag-clause-found : goal.returns-in_err-tag-clause-found
returns-in_err-tag-clause-found c =
    let p = err_from_is_err_and c.from_residual.result c.from_residual.ensures.1 in
    rw (p.1, p.2) (λ syntax xs rest q.
    tags_none c.args.tokens.now c.tags.rest.now c.in-Some.inner.now c.tags.tags.items c.in-Some._open c.tags.invariant.0 c.in-Some.ensures.0 c.in-Some.ensures.1 (c.in_err-tag.ensures.found syntax) xs rest q)

pub tags-preserved : goal.tags-preserved
tags-preserved c = (
  tags_next c.args.tokens.now c.tags.rest.now c.in-Some.inner.now c.in_ok-tag.after.now c.tags.tags.items c.push.new.self.items c.in-Some._open c.in_ok-tag.tag
      c.tags.invariant.0 c.in-Some.ensures.0 c.in-Some.ensures.1 c.in_ok-tag.ensures.found c.in_ok-push.ensures.items,
  omega (arith, c.tags.invariant.1, c.in-Some.ensures.2, c.in_ok-tag.ensures.shorter),
)
