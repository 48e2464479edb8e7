use Rattle.std.proofs.Common.{◌-◌, ◌≡◌, ◌+◌, ◌≤◌, length, take, string_bytes, ◌++◌}
use Rattle.std.specs.Str.{IsCharBoundary, encode_utf8_all}
use Rattle.asn_core.specs.Seen.{after}
use Rattle.asn_core.proofs.scan.Scan.excerpt.Given as goal

abbrev pub invariant-loop-copied : goal.invariant-loop-copied
invariant-loop-copied l =
    IsCharBoundary l.self-inside.text.now l.at × (l.copied ≤ l.at_most) × (l.self-inside ≡ l.initial.self-inside)
    × (string_bytes l.out ++ encode_utf8_all (take (l.at_most - l.copied) (after l.self-inside.text.now l.at)) ≡ encode_utf8_all (take l.at_most (after l.self-inside.text.now l.place)))
    × (l.copied + length (take (l.at_most - l.copied) (after l.self-inside.text.now l.at)) ≡ length (take l.at_most (after l.self-inside.text.now l.place)))

-- proposed from the loop's first test
abbrev pub decreases-loop-copied : goal.decreases-loop-copied
decreases-loop-copied l = l.at_most - l.copied
