use Rattle.std.proofs.Common.{sym, ap, subst, ◌∙◌}
use Rattle.std.proofs.lemmas.Result.{err_from_is_err_and}
use Rattle.asn_modules_grammar.specs.notation.Grammar.{BaseParses}
use Rattle.asn_modules_grammar.specs.notation.Notation as spec
use Rattle.asn_modules_grammar.specs.notation.Starts as starts
use Rattle.asn_modules_reader.specs.parts.EntryLists.{entries_of}
use Rattle.asn_modules_reader.proofs.BasesRead.{few_items, items_seen}
use Rattle.asn_modules_reader.proofs.Notations.{enumerated_read, enumerated_unopened, enumerated_none}
use Rattle.asn_modules_reader.proofs.Viewing.{enumerated_viewed}
use Rattle.asn_modules_reader.proofs.notation.read_enumerated.Goals as goal

pub returns-in_default-clause-found : goal.returns-in_default-clause-found
returns-in_default-clause-found c = λ syntax b rest q. enumerated_unopened 64 0 c.args.tokens.now c.in_default.ensures b rest q

pub returns-in_err-items-clause-found : goal.returns-in_err-items-clause-found
returns-in_err-items-clause-found c =
    let p = err_from_is_err_and c.from_residual.result c.from_residual.ensures.1 in
    rw (p.1, p.2) (λ syntax b rest q. enumerated_none 64 0 c.args.tokens.now c.in-Some.inner.now c.in-Some.ensures.1 (c.in_err-items.ensures.found syntax) b rest q)

pub returns-clause-found : goal.returns-clause-found
returns-clause-found c =
    let es = c.in_ok-items.items in
    subst (λ z. BaseParses 64 0 starts.enumerated c.args.tokens.now z c.in_ok-items.rest.now) (sym (enumerated_viewed es.root es.added ∙ ap spec.enumerated (items_seen es.root es.added es.tail (few_items c.in_ok-items.ensures.found))))
    (enumerated_read 64 0 c.args.tokens.now c.in-Some.inner.now c.in_ok-items.rest.now (entries_of es) c.in-Some.ensures.0 c.in-Some.ensures.1 c.in_ok-items.ensures.found)
