use Rattle.asn_modules_grammar.specs.notation.View.{notation_view}
use Rattle.asn_modules_reader.proofs.MacrosRead.{assigned_plain, assigned_after, assigned_clauses}
use Rattle.asn_modules_reader.proofs.macros.read_assigned.Goals as goal

pub returns-in_default-clause-found : goal.returns-in_default-clause-found
returns-in_default-clause-found c = assigned_plain 64 c.args.tokens.now notation_view c.read_notation.result c.in_default.ensures c.read_notation.ensures.found

pub returns-in-Some-take-clause-found : goal.returns-in-Some-take-clause-found
returns-in-Some-take-clause-found c =
    assigned_after 64 c.args.tokens.now c.in-Some.behind.now c.in-Some-take.inner.now c.in-Some-take._syntax notation_view c.read_notation-in-Some-take.result
    c.in-Some.ensures.0 c.in-Some-take.ensures.0 c.in-Some-take.ensures.1 c.read_notation-in-Some-take.ensures.found

pub returns-in-None-clause-found : goal.returns-in-None-clause-found
returns-in-None-clause-found c =
    assigned_clauses 64 c.args.tokens.now c.in-Some.behind.now c.in-Some.name (notation_view c.macro_named.result)
    c.in-Some.ensures.0 c.in-None.ensures.0 c.in-Some.ensures.1 c.macro_named.ensures
