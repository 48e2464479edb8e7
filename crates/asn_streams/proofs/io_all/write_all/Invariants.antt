use Rattle.std.proofs.Common.{◌≡◌, ◌≤◌, length, ◌-◌, take}
use Rattle.std.specs.Io.KnownBytes.{Appends}
use Rattle.asn_streams.proofs.io_all.write_all.Given as goal

abbrev pub invariant-pieces : goal.invariant-pieces
invariant-pieces g l =
    Appends (g.K.Sink.written l.initial.sink) (g.K.Sink.written l.sink) (take l.at l.text)
    × (l.at ≤ length l.text)
    × (g.K.Sink.faults l.sink ≡ g.K.Sink.faults l.initial.sink)

abbrev pub decreases-pieces : goal.decreases-pieces
decreases-pieces g l = length l.text - l.at
