use Rattle.std.proofs.lemmas.Result.{err_from_is_err_and}
use Rattle.asn_modules_reader.proofs.ModulesRead.{unclosed}
use Rattle.asn_modules_reader.proofs.module.begins_module.Goals as goal

pub returns-in_err-listed-clause-none : goal.returns-in_err-listed-clause-none
returns-in_err-listed-clause-none c =
    let p = err_from_is_err_and c.from_residual.result c.from_residual.ensures.1 in
    rw (p.1, p.2) (λ syntax all q. unclosed 64 c.in-Some._name c.args.tokens.now c.in-Some.behind.now c.in-Some.ensures.0 c.in-Some.ensures.1 (c.in_err-listed.ensures.none syntax) all q)
