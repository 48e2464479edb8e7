use Rattle.std.proofs.Common.{sym, subst, ap, ◌∙◌}
use Rattle.std.specs.Str.{chars}
use Rattle.asn_fault.specs.Failure.{failure_of}
use Rattle.avn_value.specs.Answer.{Explains, IsFoundOrMemory, exceeds_depth, out_of_memory}
use Rattle.avn_value.proofs.Whole.{whole_read, found_explains, whole_explains}
use Rattle.avn_value.proofs.parse.read_whole.Goals as goal

pub returns-in-Err-UnexpectedToken-clause-err : goal.returns-in-Err-UnexpectedToken-clause-err
returns-in-Err-UnexpectedToken-clause-err c =
    let same = ap chars c.read_value.ensures.advances.same ∙ sym c.requires.whole in
    found_explains (c.in-Err-UnexpectedToken.ensures.none cc) (c.in-Err-UnexpectedToken.ensures.token cc) (subst (λ u. IsFoundOrMemory u (failure_of c.no_value.result)) same c.no_value.ensures.error)

pub returns-in-Err-TooDeep-clause-err : goal.returns-in-Err-TooDeep-clause-err
returns-in-Err-TooDeep-clause-err c = subst (λ e. Explains c.args.limit c.args.cursor.now.rest (failure_of e)) (sym c.from_kind.ensures) (exceeds_depth (c.in-Err-TooDeep.ensures.deep cc))

pub returns-in-Ok-clause-err : goal.returns-in-Ok-clause-err
returns-in-Ok-clause-err c = whole_explains failure_of c.args.limit c.args.cursor.now.rest c.read_value.new.cursor.rest c.in-Ok.ensures.ok.0 c.end_of_text.result c.in-Ok.ensures.ok.1 c.end_of_text.ensures.err

pub returns-in-Err-OutOfMemory-clause-err : goal.returns-in-Err-OutOfMemory-clause-err
returns-in-Err-OutOfMemory-clause-err c = subst (Explains c.args.limit c.args.cursor.now.rest) (sym c.out_of_memory.ensures) out_of_memory

pub returns-in-Ok-clause-ok : goal.returns-in-Ok-clause-ok
returns-in-Ok-clause-ok c = whole_read c.end_of_text.result c.args.nodes.now c.read_value.new.nodes c.in-Ok.ensures.ok c.end_of_text.ensures.ok
