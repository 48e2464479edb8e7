-- Each character is the next of the text's, all of which are units.
use Rattle.std.proofs.Common.{map-id, ◌∙◌, sym, rules}
use Rattle.std.proofs.lemmas.Iterator.{YieldsList-from_chars}
use Rattle.std.proofs.lemmas.Iterator.Consumers.{YieldsList-turn, YieldsList-end}
use Rattle.asn_strings.proofs.Places.{below_at}
use Rattle.asn_strings.proofs.bmp.units_of.Goals as goal

pub overflow_cast-character : goal.overflow_cast-character
overflow_cast-character c =
    let turn =
    YieldsList-turn (YieldsList-from_chars c.args.text.now c.utf8.text cc)
    c.loop-character.yielded _ c.loop-character.yielded_by _ _ c.in-Some.character
    c.in-Some.is c.next.ensures.steps in
    let below = below_at _ _ _ c.requires turn in
    search rules

pub returns : goal.returns
returns c =
    let all =
    YieldsList-end (YieldsList-from_chars c.args.text.now c.utf8.text cc)
    c.loop-character.yielded _ c.loop-character.yielded_by _ _ c.in-None.is
    c.next.ensures.steps in
    c.loop-character.invariant ∙ sym (map-id c.loop-character.yielded) ∙ all.0
