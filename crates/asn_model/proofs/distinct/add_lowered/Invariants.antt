use Rattle.std.proofs.Common.{◌≡◌, ◌++◌, map, take, string_bytes}
use Rattle.std.specs.Char.{to_ascii_lowercase}
use Rattle.asn_model.proofs.distinct.add_lowered.Given as goal

abbrev pub invariant-loop-part : goal.invariant-loop-part
invariant-loop-part g l =
    map string_bytes l.names.items ≡ map string_bytes l.fn.names.items ++ map (map to_ascii_lowercase) (map g.T.Named.name_of (take l.part-index l.parts))
