use Rattle.std.proofs.Common.{◌≡◌, ◌∙◌, ◌-◌, ap, chars, length}
use Rattle.std.proofs.lemmas.Iterator.{YieldsList-from_chars}
use Rattle.std.proofs.lemmas.Iterator.Consumers.{count_from_yields_List}
use Rattle.asn_value_refusals.specs.declared.shown.TheConstants.{MOST_SHOWN}
use Rattle.asn_value_refusals.proofs.shown.left_out.Goals as goal

pub returns : goal.returns
returns c =
    let all : c.count.result ≡ length (chars c.args.text.now) = count_from_yields_List _ _ c.count.ensures.ran (YieldsList-from_chars c.args.text.now c.utf8.text cc) in
    c.saturating_sub.ensures ∙ ap (λ n. n - MOST_SHOWN) all
