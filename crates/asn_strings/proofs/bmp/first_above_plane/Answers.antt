-- The place is that of the first character above the plane, and where there is none, all are in it.
use Rattle.std.proofs.Common.{◌≡◌, ℕ, chars, not, rules, tests}
use Rattle.std.proofs.lemmas.Iterator.{YieldsList-from_chars}
use Rattle.std.proofs.lemmas.Iterator.Search.{position_from_yields_List}
use Rattle.asn_strings.specs.Alphabets.{is_bmp, place_outside}
use Rattle.asn_strings.proofs.Places.{within_at_none}
use Rattle.asn_strings.proofs.bmp.first_above_plane.Goals as goal

pub returns-clause-within : goal.returns-clause-within
returns-clause-within c =
    let characters = chars c.args.text.now in
    let yields = YieldsList-from_chars c.args.text.now c.utf8.text c.chars.ensures.rest in
    let found : c.position.result ≡ place_outside is_bmp characters =
    position_from_yields_List (λ (n : ℕ). not (is_bmp n)) _ _ c.position.result
    c.position.ensures.ran yields (λ x b q k. search (rules, tests)) in
    within_at_none is_bmp characters c.position.result found
