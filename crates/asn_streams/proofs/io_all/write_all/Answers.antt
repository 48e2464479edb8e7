use Rattle.std.proofs.Common.{arith, subst, sym, ◌∙◌}
use Rattle.std.specs.Io.KnownBytes.{Appends}
use Rattle.asn_streams.proofs.Known.{Appends-more, next_front}
use Rattle.asn_streams.proofs.io_all.write_all.Goals as goal

pub pieces-preserved : goal.pieces-preserved
pieces-preserved g c =
    let h = c.in_ok-at.ensures in
    let i = c.pieces.invariant in (
      subst (λ bs. Appends (g.K.Sink.written c.args.sink.now) (g.K.Sink.written c.write.new.self) bs) (sym (next_front _ _ _ i.1 h.bound)) (Appends-more _ _ _ _ _ i.0 h.bytes),
      omega (arith, h.bound),
      h.cause.steady ∙ i.2,
    )
