-- A status as a number.
use Rattle.std.specs.Prelude.{ℕ}
use Rattle.asn_convert.specs.declared.status.Status.{Status}
use Rattle.asn_convert.specs.declared.status.Status.TheVariants.{Done, Refused, BadRequest, ReadFault, WriteFault, WantOfMemory, TooLong, NotText}

-- the exit status of the program
abbrev pub status_number : Status → ℕ
status_number Done = 0
status_number Refused = 1
status_number BadRequest = 2
status_number ReadFault = 3
status_number WriteFault = 4
status_number WantOfMemory = 5
status_number TooLong = 6
status_number NotText = 7
