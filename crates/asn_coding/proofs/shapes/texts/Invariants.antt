use Rattle.std.proofs.Common.{◌≡◌, map, take, string_bytes}
use Rattle.asn_coding.proofs.shapes.texts.Given as goal

-- The texts so far are copied.
abbrev pub invariant-loop-item : goal.invariant-loop-item
invariant-loop-item l = map string_bytes l.copies.items ≡ map (λ s. s.now) (take l.item-index l.items)
