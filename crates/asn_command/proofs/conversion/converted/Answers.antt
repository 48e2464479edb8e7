use Rattle.std.proofs.Common.{sym, ◌∙◌}
use Rattle.asn_command.proofs.Refused.{refused_so}
use Rattle.asn_command.proofs.conversion.converted.Goals as goal

pub returns-in_ok-refusal_lines-in-Err : goal.returns-in_ok-refusal_lines-in-Err
returns-in_ok-refusal_lines-in-Err g c =
    refused_so _ _ _ _ _ _ _ c.in-Err.error c.in-Err.ensures.refused c.in-Err.ensures.complete (sym c.is_out_of_memory.ensures ∙ c.if-is_out_of_memory.false) c.in_ok-refusal_lines-in-Err.ensures
