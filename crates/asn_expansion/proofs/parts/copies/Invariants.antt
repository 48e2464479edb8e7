use Rattle.std.proofs.Common.{◌≡◌, map, take, string_bytes}
use Rattle.asn_expansion.proofs.parts.copies.Given as goal

-- The texts so far are copied.
abbrev pub invariant-loop-text : goal.invariant-loop-text
invariant-loop-text l = map string_bytes l.copies.items ≡ map string_bytes (take l.text-index l.texts)
