-- Each character is the next of the text's.
use Rattle.std.proofs.Common.{◌∙◌, ap, encode_utf8_all, map, map-id, string_bytes, sym}
use Rattle.std.proofs.lemmas.Iterator.{YieldsList-from_chars}
use Rattle.std.proofs.lemmas.Iterator.Consumers.{YieldsList-end}
use Rattle.asn_value_refusals.specs.Visible.{visible}
use Rattle.asn_value_refusals.proofs.Characters.{shown_more}
use Rattle.asn_value_refusals.proofs.shown.on_one_line.Goals as goal

pub loop-character-preserved : goal.loop-character-preserved
loop-character-preserved c =
    shown_more (string_bytes c.loop-character.line) (string_bytes c.push.new.self) c.loop-character.yielded c.in-Some.character c.visible.result c.loop-character.invariant c.visible.ensures c.in_ok-push.ensures.bytes

pub returns : goal.returns
returns c =
    let all =
    YieldsList-end (YieldsList-from_chars c.args.text.now c.utf8.text cc)
    c.loop-character.yielded _ c.loop-character.yielded_by _ _ c.in-None.is
    c.next.ensures.steps in
    c.loop-character.invariant ∙ ap (λ cs. encode_utf8_all (map visible cs)) (sym (map-id c.loop-character.yielded) ∙ all.0)
