-- The numbers of statuses.
use Rattle.std.specs.Prelude.{ℕ}
use Rattle.asn_replies.specs.declared.status.Status.{Status}
use Rattle.asn_replies.specs.declared.status.Status.TheVariants.{Done, Refused, BadCommand, ReadFault, WriteFault, WantOfMemory, TooLong, NotText}

-- The exit status.
abbrev pub status_number : Status → ℕ
status_number Done = 0
status_number Refused = 1
status_number BadCommand = 2
status_number ReadFault = 3
status_number WriteFault = 4
status_number WantOfMemory = 5
status_number TooLong = 6
status_number NotText = 7
