-- Each character is the next of the text's.
use Rattle.std.proofs.Common.{◌∙◌, ◌++◌, ap, chars, drop, map-id, string_bytes, sym}
use Rattle.std.proofs.lemmas.Iterator.{YieldsList-from_chars}
use Rattle.std.proofs.lemmas.Iterator.Adapters.{YieldsList-from_skip}
use Rattle.std.proofs.lemmas.Iterator.Consumers.{YieldsList-end}
use Rattle.asn_value_refusals.specs.Excerpts.{blanks, shown_text}
use Rattle.asn_value_refusals.proofs.Excerpts.{blanks_more, shown_more}
use Rattle.asn_value_refusals.proofs.shown.add_before.Goals as goal

pub loop-character-preserved : goal.loop-character-preserved
loop-character-preserved c = (
  shown_more (string_bytes c.args.line.now) (string_bytes c.loop-character.line) (string_bytes c.push.new.self) c.loop-character.yielded c.in-Some.character c.visible.result c.loop-character.invariant.0 c.visible.ensures c.in_ok-push.ensures.bytes,
  blanks_more (string_bytes c.args.caret.now) (string_bytes c.loop-character.caret) (string_bytes c.push-in-loop-character.new.self) c.loop-character.yielded c.in-Some.character c.loop-character.invariant.1 c.in_ok-push-2.ensures.bytes,
)

pub returns-clause-line : goal.returns-clause-line
returns-clause-line c =
    let all = YieldsList-end (YieldsList-from_skip {s = c.into_iter-character-iterator.result} c.left_out.result (YieldsList-from_chars c.args.text.now c.utf8.text cc) cc) c.loop-character.yielded _ c.loop-character.yielded_by _ _ c.in-None.is c.next.ensures.steps in
    let same = sym (map-id c.loop-character.yielded) ∙ all.0 ∙ ap (λ n. drop n (chars c.args.text.now)) c.left_out.ensures in
    c.loop-character.invariant.0 ∙ ap (λ cs. string_bytes c.args.line.now ++ shown_text cs) same

pub returns-clause-caret : goal.returns-clause-caret
returns-clause-caret c =
    let all = YieldsList-end (YieldsList-from_skip {s = c.into_iter-character-iterator.result} c.left_out.result (YieldsList-from_chars c.args.text.now c.utf8.text cc) cc) c.loop-character.yielded _ c.loop-character.yielded_by _ _ c.in-None.is c.next.ensures.steps in
    let same = sym (map-id c.loop-character.yielded) ∙ all.0 ∙ ap (λ n. drop n (chars c.args.text.now)) c.left_out.ensures in
    c.loop-character.invariant.1 ∙ ap (λ cs. string_bytes c.args.caret.now ++ blanks cs) same
