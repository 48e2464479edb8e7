use Rattle.std.proofs.Common.{sym, subst}
use Rattle.asn_modules_grammar.specs.headers.Fronts.{IsSyntax}
use Rattle.asn_modules_reader.proofs.text.NoTexts.{unexpected_refuses}
use Rattle.asn_modules_reader.proofs.text.read.read_tokens.Goals as goal

pub returns-in-Err-Unexpected-clause-refused : goal.returns-in-Err-Unexpected-clause-refused
returns-in-Err-Unexpected-clause-refused c =
    unexpected_refuses 64 c.args.file.now c.args.text.now c.args.found.now c.in-Err-Unexpected.met c.in-Err-Unexpected.expected c.unexpected_token.result
    c.requires (c.in-Err-Unexpected.ensures.none (subst IsSyntax (sym c.in-Err-Unexpected.field-0-is) tt)) c.unexpected_token.ensures

pub returns-in-Ok-clause-ok : goal.returns-in-Ok-clause-ok
returns-in-Ok-clause-ok c = record { tokens = c.args.found.now; split = c.requires; parses = c.in-Ok.ensures.ok }
