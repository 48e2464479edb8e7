use Rattle.std.proofs.Common.{sym, ap, subst, ◌∙◌}
use Rattle.std.specs.Str.{chars}
use Rattle.asn_core.specs.declared.codec.Codec.TheVariants.{Avn}
use Rattle.asn_fault.specs.Failure.{Cause, at_root}
use Rattle.avn_grammar.specs.ParseFailure.{Found}
use Rattle.avn_value.specs.Answer.{IsFoundOrMemory, excerpt, memory}
use Rattle.avn_value.proofs.parse.no_value.Goals as goal

pub returns-in-Ok-clause-error : goal.returns-in-Ok-clause-error
returns-in-Ok-clause-error c =
    let f = c.in-Ok.ensures.found in
    subst (IsFoundOrMemory (chars c.args.cursor.now.text)) (sym (c.into.ensures ∙ ap (λ b. at_root (Cause.unexpected_token b) Avn) f.2)) (excerpt f.0 (subst (λ u. Found u f.0) c.restart.ensures.rest f.1))

pub returns-in-Err-clause-error : goal.returns-in-Err-clause-error
returns-in-Err-clause-error c = subst (IsFoundOrMemory (chars c.args.cursor.now.text)) (sym c.out_of_memory.ensures) memory
