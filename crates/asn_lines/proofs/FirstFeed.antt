-- Bytes and their first line feed.
use Rattle.std.proofs.Common.{◌≡◌, ◌<◌, ◌≤◌, ◌+◌, ◌∷◌, ◌++◌, ℕ, List, Bool, length, take, drop, Some, None, true, false, refl, sym, ap, ◌∙◌, arith, cond, length-take-le}
use Rattle.std.specs.Prelude.{position}
use Rattle.std.specs.List.{position_or_len}
use Rattle.std.proofs.lemmas.Bool.{eqb-true, ltb-false}
use Rattle.std.proofs.lemmas.List.{drop_more, get_or-take, take-append-drop}
use Rattle.std.proofs.lemmas.List.Elements.{All-from_get_or}
use Rattle.std.proofs.lemmas.List.Quantifiers.{position-Some}
use Rattle.std.proofs.lemmas.List.Sums.{fails_before_first}
use Rattle.std.proofs.Math.ListN.{get_or}
use Rattle.asn_lines.specs.Lines.{is_feed}
use Rattle.asn_lines.specs.Splits.{HasNoFeed, IsFirstLine}

-- The first line is what stands before the place of the first line feed.
pub first_at : (bytes : List ℕ) (at : ℕ) → position is_feed bytes ≡ Some at → IsFirstLine bytes (take at bytes) (drop (at + 1) bytes)
first_at bytes at is =
    let found = position-Some is_feed bytes at 0 is in
    let front : length (take at bytes) ≡ at = length-take-le at bytes (omega (arith, found.0)) in
    record {
      plain = All-from_get_or (λ b. is_feed b ≡ false) (take at bytes) 0 (λ i h. let below : i < at = omega (arith, front, h) in ap is_feed (get_or-take at bytes i 0 below) ∙ found.2 i below);
      joined = sym (take-append-drop at bytes) ∙ ap (λ r. take at bytes ++ r) (drop_more bytes at 0 found.0 ∙ ap (λ b. b ∷ drop (at + 1) bytes) (eqb-true (get_or bytes at 0) 10 found.1));
    }

not_below : (b : Bool) (n : ℕ) → cond b (Some n) None ≡ None → b ≡ false
not_below true n e = cc e
not_below false n e = refl

none_before : (bytes : List ℕ) → position is_feed bytes ≡ None → length bytes ≤ position_or_len is_feed bytes
none_before bytes is = ltb-false (position_or_len is_feed bytes) (length bytes) (not_below _ (position_or_len is_feed bytes) is)

-- Where there is no place, there is no line feed.
pub none_at : (bytes : List ℕ) → position is_feed bytes ≡ None → HasNoFeed bytes
none_at bytes is =
    let far = none_before bytes is in
    All-from_get_or (λ b. is_feed b ≡ false) bytes 0 (λ i h. fails_before_first is_feed bytes i 0 (omega (arith, far, h)))
