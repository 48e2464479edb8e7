-- Each character is the next of the text's.
use Rattle.std.proofs.Common.{◌∙◌, ◌++◌, ap, map-id, string_bytes, sym}
use Rattle.std.proofs.lemmas.Iterator.{YieldsList-from_chars, YieldsList-from_take}
use Rattle.std.proofs.lemmas.Iterator.Consumers.{YieldsList-end}
use Rattle.asn_value_refusals.specs.Excerpts.{shown_text}
use Rattle.asn_value_refusals.specs.declared.shown.TheConstants.{MOST_SHOWN}
use Rattle.asn_value_refusals.proofs.Excerpts.{shown_more}
use Rattle.asn_value_refusals.proofs.shown.add_after.Goals as goal

pub loop-character-preserved : goal.loop-character-preserved
loop-character-preserved c =
    shown_more (string_bytes c.args.line.now) (string_bytes c.loop-character.line) (string_bytes c.push.new.self) c.loop-character.yielded c.in-Some.character c.visible.result c.loop-character.invariant c.visible.ensures c.in_ok-push.ensures.bytes

pub returns : goal.returns
returns c =
    let all = YieldsList-end (YieldsList-from_take {s = c.into_iter-character-iterator.result} MOST_SHOWN (YieldsList-from_chars c.args.text.now c.utf8.text cc) cc) c.loop-character.yielded _ c.loop-character.yielded_by _ _ c.in-None.is c.next.ensures.steps in
    c.loop-character.invariant ∙ ap (λ cs. string_bytes c.args.line.now ++ shown_text cs) (sym (map-id c.loop-character.yielded) ∙ all.0)
