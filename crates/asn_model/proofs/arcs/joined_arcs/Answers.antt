use Rattle.std.proofs.Common.{ap, ◌∙◌, ◌++◌, List, ℕ, get_or, string_bytes, arith}
use Rattle.std.specs.Fmt.{decimal}
use Rattle.asn_model.proofs.Joining.{joined-first, joined-more}
use Rattle.asn_model.proofs.arcs.joined_arcs.Goals as goal
use Rattle.asn_model.proofs.arcs.joined_arcs.Goals.{then-place-gt0+in_ok-push_str, else-place-gt0}

pub loop-place-preserved : goal.loop-place-preserved
loop-place-preserved c =
    let xs = c.args.arcs.now in
    let sep = c.args.separator.now in
    let i = c.loop-place.place in
    let before = c.loop-place.invariant in
    let put = c.in_ok-write.ensures.bytes in
    let arc = λ (t : List ℕ). t ++ decimal (get_or xs i 0) in
    elim c.if-place-gt0.branch [
      | then-place-gt0+in_ok-push_str w ↦
          put ∙ ap arc (ap string_bytes w.text-is ∙ w.in_ok-push_str.ensures.bytes ∙ ap (λ t. t ++ sep) before) ∙ joined-more sep xs i w.if-place-gt0.true c.loop-place-test.true
      | else-place-gt0 w ↦ put ∙ ap arc (ap string_bytes w.text-is ∙ before) ∙ joined-first sep xs i (omega (arith, w.if-place-gt0.false)) c.loop-place-test.true
    ]
