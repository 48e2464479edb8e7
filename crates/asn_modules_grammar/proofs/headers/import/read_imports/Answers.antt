use Rattle.std.proofs.Common.{map}
use Rattle.std.proofs.lemmas.Result.{err_from_is_err_and}
use Rattle.asn_modules_grammar.specs.headers.Views.{import_view}
use Rattle.asn_modules_grammar.proofs.headers.Imports.{import_lt, none_read, start_read, next_read, all_read, not_read}
use Rattle.asn_modules_grammar.proofs.headers.import.read_imports.Goals as goal

pub returns-in_default-clause-ok : goal.returns-in_default-clause-ok
returns-in_default-clause-ok c = none_read c.args.tokens.now c.new-imports.result.items c.in_default.ensures c.new-imports.ensures.items

pub imports-init : goal.imports-init
imports-init c = start_read c.in-Some.first.now c.new-imports.result.items c.new-imports.ensures.items

pub returns-in-Some-take_mark-clause-ok : goal.returns-in-Some-take_mark-clause-ok
returns-in-Some-take_mark-clause-ok c =
    all_read c.args.tokens.now c.in-Some.first.now c.imports.rest.now c.in-Some-take_mark.after.now (map import_view c.imports.imports.items)
    c.in-Some.ensures.0 c.in-Some.ensures.1 c.imports.invariant c.in-Some-take_mark.ensures.0 c.in-Some-take_mark.ensures.1

pub returns-in_err-import-clause-none : goal.returns-in_err-import-clause-none
returns-in_err-import-clause-none c =
    let p = err_from_is_err_and c.from_residual.result c.from_residual.ensures.1 in
    rw (p.1, p.2) (λ syntax imports rest q.
    not_read c.args.tokens.now c.in-Some.first.now c.imports.rest.now rest (map import_view c.imports.imports.items) imports
    c.in-Some.ensures.0 c.in-Some.ensures.1 c.imports.invariant c.in_default-take_mark.ensures (c.in_err-import.ensures syntax) q)

pub imports-smaller : goal.imports-smaller
imports-smaller c = import_lt c.imports.rest.now c.in_ok-import.after.now (import_view c.in_ok-import.import) c.in_ok-import.ensures

pub imports-preserved : goal.imports-preserved
imports-preserved c =
    next_read c.in-Some.first.now c.imports.rest.now c.in_ok-import.after.now c.imports.imports.items c.push.new.self.items c.in_ok-import.import
    c.imports.invariant c.in_default-take_mark.ensures c.in_ok-import.ensures c.in_ok-push.ensures.items
