use Rattle.std.proofs.Common.{◌≡◌, ◌-◌, take, drop, arith, ap, ◌∙◌, length}
use Rattle.asn_streams.proofs.Known.{copied_front, none_left, past_len}
use Rattle.asn_streams.proofs.memory.SteadySourceSource.read.Goals as goal

pub returns-clause-bytes : goal.returns-clause-bytes
returns-clause-bytes c =
    let at = c.args.self.now.at in
    let n = c.min-count.result in
    let bs = c.deref.result.now in
    let same : bs ≡ c.args.self.now.bytes.items = c.deref.ensures.value in
    let long : length (take (length bs - at) (drop at bs)) ≡ length c.args.self.now.bytes.items - at = past_len bs at ∙ ap (λ d. length d - at) same in
    let copied = c.copy_from_slice.ensures.after ∙ ap (λ d. take n (take (length d - at) (drop at d))) same in (
      copied_front c.args.self.now.bytes.items c.copy_from_slice.new.self (drop n c.args.into.now) at n (omega arith) (omega (arith, long, c.min-count.ensures)) copied,
      λ e some. none_left c.args.self.now.bytes.items at n (omega (arith, e, some, long, c.min-count.ensures)),
    )
