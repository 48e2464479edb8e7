-- A piece of ASCII is its own text, and any other is walked unit by unit.
use Rattle.std.proofs.Common.{◌≡◌, ◌+◌, ◌++◌, ◌∙◌, ap, get_or, rules, string_bytes, subst, sym}
use Rattle.asn_strings.specs.Units.{IsTextBefore}
use Rattle.asn_strings.proofs.UnitTexts.{one_before, piece_before, stopped_at}
use Rattle.asn_strings.proofs.bmp.push_units.Goals as goal

pub returns-then-are_ascii-clause-before : goal.returns-then-are_ascii-clause-before
returns-then-are_ascii-clause-before c =
    let added =
    c.in_ok-push_str.ensures.bytes
    ∙ ap (λ bs. string_bytes c.args.text.now ++ bs)
    (c.as_str.ensures.value ∙ c.in_ok-text_of_ascii.ensures) in
    subst (λ bs. IsTextBefore c.args.units.now c.args.end bs) (sym added)
    (piece_before _ _ _ _ c.requires.places.0 c.requires.places.1 (sym c.if-are_ascii.ensures)
    c.requires.before)

pub loop-place-init : goal.loop-place-init
loop-place-init c = c.requires.before

pub returns-in-None-clause-refused : goal.returns-in-None-clause-refused
returns-in-None-clause-refused c =
    let units = c.args.units.now in
    let place = c.loop-place.place in
    stopped_at units place (get_or units place 0) _ (search rules) (search rules) (search rules)
    (search rules) c.loop-place.invariant

pub loop-place-preserved : goal.loop-place-preserved
loop-place-preserved c =
    subst (λ bs. IsTextBefore c.args.units.now (c.loop-place.place + 1) bs)
    (sym c.in_ok-push-in-Some.ensures.bytes)
    (one_before _ _ _ _ (search rules) (search rules) (search rules) c.loop-place.invariant)

pub returns-clause-before : goal.returns-clause-before
returns-clause-before c =
    let ended : c.loop-place.place ≡ c.args.end = search rules in
    subst (λ place. IsTextBefore c.args.units.now place (string_bytes c.loop-place.text)) ended
    c.loop-place.invariant
