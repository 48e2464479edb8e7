use Rattle.std.proofs.Common.{◌≡◌, ◌≤◌, ◌+◌, take}
use Rattle.asn_lexer.specs.Places.{line_after, column_after}
use Rattle.asn_lexer.proofs.place.place_of.Given as goal

abbrev pub invariant-loop-byte : goal.invariant-loop-byte
invariant-loop-byte l =
    (l.place.line ≡ line_after (take l.byte-index l.front)) × (l.place.column ≡ column_after (take l.byte-index l.front))
    × (l.place.line ≤ l.byte-index + 1) × (l.place.column ≤ l.byte-index + 1)
