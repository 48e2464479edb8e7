use Rattle.std.proofs.Common.{◌≡◌}
use Rattle.serde_json.specs.View.{members_view}
use Rattle.asn_convert.specs.Made.{made_members}
use Rattle.asn_convert.proofs.made.document.Given as goal

-- The entries at the places so far are there.
abbrev pub invariant-loop-place : goal.invariant-loop-place
invariant-loop-place l = members_view l.members.entries ≡ made_members l.place-counter
