-- The place is that of the first character outside, and where there is none, all are within.
use Rattle.std.proofs.Common.{◌≡◌, ◌∙◌, IsTrue, ap, ℕ, chars, not, rules, sym, tests}
use Rattle.std.proofs.lemmas.Iterator.{YieldsList-from_chars}
use Rattle.std.proofs.lemmas.Iterator.Search.{position_from_yields_List}
use Rattle.asn_strings.specs.Alphabets.{all_within, place_outside}
use Rattle.asn_strings.proofs.Places.{none_is_within, within_at_none}
use Rattle.asn_strings.proofs.Utf8Octets.{text_within}
use Rattle.asn_strings.proofs.character_sets.first_outside.Given.{Over}
use Rattle.asn_strings.proofs.character_sets.first_outside.Goals as goal

-- The octets are within, and so are the characters.
within : (g : Over) (c : goal.Then-are_within g)
    → IsTrue (all_within g.C.CharacterSet.alphabet (chars c.args.text.now))
within g c =
    let alphabet = g.C.CharacterSet.alphabet in
    let octets : IsTrue (all_within alphabet c.args.text.now) =
    ap (all_within alphabet) (sym c.as_bytes.ensures.value) ∙ sym c.if-are_within.ensures in
    text_within alphabet g.met.C.CharacterSet.alike_past_ascii c.args.text.now c.utf8.text octets

pub returns-then-are_within-clause-place : goal.returns-then-are_within-clause-place
returns-then-are_within-clause-place g c =
    sym ((none_is_within g.C.CharacterSet.alphabet (chars c.args.text.now)).1 (within g c))

pub returns-then-are_within-clause-within : goal.returns-then-are_within-clause-within
returns-then-are_within-clause-within g c = within g c

pub returns-clause-within : goal.returns-clause-within
returns-clause-within g c =
    let alphabet = g.C.CharacterSet.alphabet in
    let characters = chars c.args.text.now in
    let yields = YieldsList-from_chars c.args.text.now c.utf8.text c.chars.ensures.rest in
    let found : c.position.result ≡ place_outside alphabet characters =
    position_from_yields_List (λ (n : ℕ). not (alphabet n)) _ _ c.position.result
    c.position.ensures.ran yields (λ x b q k. search (rules, tests)) in
    within_at_none alphabet characters c.position.result found
