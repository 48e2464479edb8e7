use Rattle.std.proofs.Common.{◌≡◌, take, true}
use Rattle.avn_grammar.specs.Chars.{all, is_name}
use Rattle.avn_grammar.proofs.names.may_follow.Given as goal

abbrev pub invariant-loop-byte : goal.invariant-loop-byte
invariant-loop-byte l = all is_name (take l.byte-index l.bytes) ≡ true
