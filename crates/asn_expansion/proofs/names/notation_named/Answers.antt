use Rattle.std.proofs.Common.{map, sym, ◌∙◌, arith}
use Rattle.std.proofs.lemmas.Grind.{common_steps}
use Rattle.asn_notation.specs.View.{assignment_view}
use Rattle.asn_expansion.proofs.Expanding.{found_at, found_nowhere, place_within}
use Rattle.asn_expansion.proofs.names.notation_named.Goals as goal

pub bounds-names-place : goal.bounds-names-place
bounds-names-place c =
    place_within c.args.names.now.assignments.now c.args.name.now c.in-Some.place.now (sym (c.requires.places c.args.name.now) ∙ sym c.in-Some.ensures.value)

pub offset_bounds-names-place : goal.offset_bounds-names-place
offset_bounds-names-place c =
    let within = place_within c.args.names.now.assignments.now c.args.name.now c.in-Some.place.now (sym (c.requires.places c.args.name.now) ∙ sym c.in-Some.ensures.value) in
    grind (arith, common_steps, within)

pub returns-in-Some : goal.returns-in-Some
returns-in-Some c =
    let found = found_at c.args.names.now.assignments.now c.args.name.now c.in-Some.place.now c.index-names-place.result (sym (c.requires.places c.args.name.now) ∙ sym c.in-Some.ensures.value) in
    sym found.found

pub returns-in-None : goal.returns-in-None
returns-in-None c = sym (found_nowhere (map assignment_view c.args.names.now.assignments.now) c.args.name.now (sym (c.requires.places c.args.name.now) ∙ sym c.in-None.ensures.value))
