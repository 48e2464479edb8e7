-- What a source in memory has left.
use Rattle.std.specs.Prelude.{ℕ, List, drop}
use Rattle.asn_streams.specs.declared.memory.SteadySource.{SteadySource}

-- the bytes from its place on
abbrev pub bytes_left : SteadySource → List ℕ
bytes_left s = drop s.at s.bytes.items
