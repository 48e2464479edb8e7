use Rattle.std.proofs.Common.{sym, ◌∙◌}
use Rattle.std.proofs.lemmas.Bool.{ltb-true}
use Rattle.serde_json.proofs.Views.{view-Object}
use Rattle.asn_coding.proofs.Refusing.{no_choice}
use Rattle.jer_rules.proofs.Choosing.{no_choice-many, opens, opens_none}
use Rattle.jer_rules.proofs.Readings.{choice-none, choice_refused}
use Rattle.jer_rules.proofs.jer.de.DecoderDecoder.open_choice.Goals as goal

pub returns-in_ok-put-in-Some : goal.returns-in_ok-put-in-Some
returns-in_ok-put-in-Some g c =
    let h = c.in-Some.ensures in
    let o = opens _ _ h.1 h.2 in
    (_, _, _, rw c.in-Ok.ensures at c.in_ok-take.ensures, c.in_ok-put-in-Some.ensures, o.0, o.1)

pub returns-in_ok-put-in-None : goal.returns-in_ok-put-in-None
returns-in_ok-put-in-None g c =
    let o = opens_none c.in-None.ensures in
    (_, _, _, rw c.in-Ok.ensures at c.in_ok-take.ensures, c.in_ok-put-in-None.ensures, o.0, o.1)

pub returns-in-Err : goal.returns-in-Err
returns-in-Err g c =
    let h = c.in-Err.ensures in
    λ alts added. no_choice alts added _ _ _ _ c.in_ok-take.ensures (choice-none _ h.1) (choice_refused _ _ h.1 (rw h.0 at c.mismatch.ensures))

pub returns-then-has_several : goal.returns-then-has_several
returns-then-has_several g c = λ alts added. no_choice alts added _ _ _ _ (rw c.in-Ok.ensures at c.in_ok-take.ensures) (no_choice-many _ (ltb-true 1 _ (sym c.has_several.ensures ∙ c.if-has_several.true))) (rw (view-Object c.in-Ok.members) at c.mismatch-then-has_several.ensures)
