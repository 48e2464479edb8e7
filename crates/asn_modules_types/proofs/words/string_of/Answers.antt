use Rattle.std.proofs.Common.{sym, ◌∙◌}
use Rattle.asn_modules_types.proofs.Ascii.{ascii_utf8}
use Rattle.asn_modules_types.proofs.words.string_of.Goals as goal

pub returns-in-Err : goal.returns-in-Err
returns-in-Err c = absurd (c.in-Err.ensures.cases.0 (ascii_utf8 c.args.bytes.now (sym c.is_ascii.ensures ∙ c.if-not-is_ascii.false)))
