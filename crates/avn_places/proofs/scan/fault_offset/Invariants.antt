use denote.Text.{Utf8}
use denote.Shadow.{shadow}
use Rattle.avn_places.proofs.Rests.{Leads, left}
use Rattle.avn_places.proofs.scan.fault_offset.Given as goal

abbrev pub invariant-turns : goal.invariant-turns
invariant-turns l = shadow (Utf8 l.rest) × Leads l.text l.opened.items l.expected l.rest

abbrev pub decreases-turns : goal.decreases-turns
decreases-turns l = left l.rest l.expected
