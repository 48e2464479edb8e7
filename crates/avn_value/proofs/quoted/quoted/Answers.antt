use Rattle.std.proofs.Common.{sym, ap, subst, ◌∙◌, ◌≡◌, false, true, MatchOption}
use Rattle.avn_grammar.specs.Chars.{tail, all}
use Rattle.avn_grammar.specs.Octets.{is_hex, packed}
use Rattle.avn_cursor.specs.HexDigits.{inside, binary_digits, is_bit_value}
use Rattle.avn_value.proofs.Tokens.{octets_read, bits_read, digits_read, closed_by, are_bits, packed_bits, count_bits}
use Rattle.avn_cursor.proofs.DigitValues.{values_pairs, values_unpaired, unpaired, no_bits}
use Rattle.avn_value.proofs.NoToken.{octets_none, bits_none, unclosed_none, digits_none}
use Rattle.avn_value.proofs.quoted.quoted.Goals as goal

pub returns-then-not-branch-clause-none : goal.returns-then-not-branch-clause-none
returns-then-not-branch-clause-none c = λ e.
    let w = c.args.cursor.now.rest in
    let bad = sym c.if-not-branch.true ∙ c.in_ok-take.ensures.valid ∙ ap (λ x. all is_hex (inside x)) c.take-open.ensures.moves in
    digits_none w c.requires.apostrophe (unpaired (inside (tail w)) bad) (no_bits (inside (tail w)) bad)

pub returns-in_default-clause-none : goal.returns-in_default-clause-none
returns-in_default-clause-none c = λ e.
    let w = c.args.cursor.now.rest in
    let d = digits_read w _ _ _ _ _ c.take-open.ensures.moves c.new-digits.ensures c.if-not-branch.false c.in_ok-take.ensures.valid c.in_ok-take.ensures.moves c.in_ok-take.ensures.taken in
    let f = c.in_default.ensures.found in
    unclosed_none w c.requires.apostrophe (λ r q. f.0 r (d.past ∙ q)) (λ r q. f.1 r (d.past ∙ q))

pub returns-in_default-octets-clause-none : goal.returns-in_default-octets-clause-none
returns-in_default-octets-clause-none c = λ e.
    let w = c.args.cursor.now.rest in
    let d = digits_read w _ _ _ _ _ c.take-open.ensures.moves c.new-digits.ensures c.if-not-branch.false c.in_ok-take.ensures.valid c.in_ok-take.ensures.moves c.in_ok-take.ensures.taken in
    let closed = closed_by w _ _ c.closing.new.cursor.rest _ _ d c.in-Some.ensures.found c.in-Hexadecimal.is in
    octets_none w _ c.requires.apostrophe closed (values_unpaired (inside (tail w)) c.take.new.self d.values c.in_default-octets.ensures)

pub returns-in_default-2-clause-none : goal.returns-in_default-2-clause-none
returns-in_default-2-clause-none c = λ e.
    let w = c.args.cursor.now.rest in
    let d = digits_read w _ _ _ _ _ c.take-open.ensures.moves c.new-digits.ensures c.if-not-branch.false c.in_ok-take.ensures.valid c.in_ok-take.ensures.moves c.in_ok-take.ensures.taken in
    let closed = closed_by w _ _ c.closing.new.cursor.rest _ _ d c.in-Some.ensures.found c.in-Binary.is in
    let vs = c.take.new.self in
    let none = subst (λ o. MatchOption o (all is_bit_value vs ≡ false) (λ octets. (all is_bit_value vs ≡ true) × (octets.items ≡ packed (binary_digits vs)))) c.in_default-2.is c.in_ok-octets-in-Binary.ensures in
    bits_none w _ c.requires.apostrophe closed (are_bits w vs _ _ d none)

pub returns-in-Hexadecimal-clause-ok : goal.returns-in-Hexadecimal-clause-ok
returns-in-Hexadecimal-clause-ok c =
    let w = c.args.cursor.now.rest in
    let r = c.closing.new.cursor.rest in
    let d = digits_read w _ _ _ _ _ c.take-open.ensures.moves c.new-digits.ensures c.if-not-branch.false c.in_ok-take.ensures.valid c.in_ok-take.ensures.moves c.in_ok-take.ensures.taken in
    let closed = closed_by w _ _ r _ _ d c.in-Some.ensures.found c.in-Hexadecimal.is in
    let paired = values_pairs (inside (tail w)) c.in-Some-octets.octets.now d.hex (sym d.values ∙ c.in-Some-octets.ensures) in
    octets_read w r _ c.args.nodes.now _ c.requires.apostrophe closed paired.0 paired.1 c.in_ok-octets_leaf-in-Hexadecimal.ensures

pub returns-clause-ok : goal.returns-clause-ok
returns-clause-ok c =
    let w = c.args.cursor.now.rest in
    let r = c.closing.new.cursor.rest in
    let d = digits_read w _ _ _ _ _ c.take-open.ensures.moves c.new-digits.ensures c.if-not-branch.false c.in_ok-take.ensures.valid c.in_ok-take.ensures.moves c.in_ok-take.ensures.taken in
    let closed = closed_by w _ _ r _ _ d c.in-Some.ensures.found c.in-Binary.is in
    let vs = c.take.new.self in
    let found = subst (λ o. MatchOption o (all is_bit_value vs ≡ false) (λ octets. (all is_bit_value vs ≡ true) × (octets.items ≡ packed (binary_digits vs)))) c.in-Some-2.is c.in_ok-octets-in-Binary.ensures in
    let bits = are_bits w vs _ _ d found.0 in
    bits_read w r _ c.len-length.result c.args.nodes.now _ c.requires.apostrophe closed bits (c.deref.ensures.value ∙ found.1 ∙ packed_bits w vs _ d bits) (c.len-length.ensures ∙ count_bits w vs _ d) c.in_ok-octets_leaf-in-Binary.ensures
