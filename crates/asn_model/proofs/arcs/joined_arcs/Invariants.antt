use Rattle.std.proofs.Common.{◌≡◌, take, string_bytes}
use Rattle.std.specs.Fmt.{decimal}
use Rattle.std.specs.List.{join_by}
use Rattle.asn_model.proofs.arcs.joined_arcs.Given as goal

-- The text joins the arcs so far.
abbrev pub invariant-loop-place : goal.invariant-loop-place
invariant-loop-place l = string_bytes l.text ≡ join_by decimal l.separator (take l.place l.arcs)
