use Rattle.std.proofs.Common.{rules, length, ap, sym}
use Rattle.std.proofs.lemmas.Str.{chars-IsAscii, chars_from_encodes}
use Rattle.asn_core.proofs.scan.count_chars.Goals as goal

pub returns-then-is_ascii : goal.returns-then-is_ascii
returns-then-is_ascii c = sym (ap (λ x. length x) (chars-IsAscii c.args.text.now (search rules)))

pub returns-else-is_ascii : goal.returns-else-is_ascii
returns-else-is_ascii c = search (rules, chars_from_encodes)
