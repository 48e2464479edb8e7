-- The number of a call, whether it is to fail, and what it leaves.
use Rattle.std.specs.Prelude.{ℕ, Contains, Result, Ok, Err}
use Rattle.asn_streams.specs.Faults.{next_count}
use Rattle.asn_streams.specs.declared.memory.Calls.{Calls}

-- one more than the calls that were made, as far as a u64 counts
abbrev pub next_number : Calls → ℕ
next_number calls = next_count calls.made

-- the number of the next call is listed
abbrev pub IsToFail : Calls → Type 0
IsToFail calls = Contains calls.failing.items (next_number calls)

-- the counts after a call with this result: a call more, and a fault more where it failed
abbrev pub calls_after : {T E : Type 0} → Calls → Result T E → Calls
calls_after calls (Ok n) = record calls { made = next_number calls }
calls_after calls (Err e) = record calls { made = next_number calls; faults = next_count calls.faults }
