-- The UTF-8 octets of characters in an alphabet that has every octet past ASCII.
use Rattle.std.proofs.Common.{◌≡◌, ℕ, ◌<◌, ◌≤◌, ⊎_elim, Bool, true, false, not, List, [], ◌∷◌, ◌++◌, IsTrue, length, get_or, chars, encode_utf8, encode_utf8_all, IsUtf8, refl, sym, ap, subst, ◌∙◌, ◌&&◌, arith}
use Rattle.std.proofs.lemmas.Bool.{cases_lt, false≢true}
use Rattle.std.proofs.lemmas.List.{get_or_past}
use Rattle.std.proofs.lemmas.List.Elements.{All-from_get_or}
use Rattle.std.proofs.lemmas.List.Sums.{AllPass-from_list_all, list_all-from_AllPass}
use Rattle.std.proofs.lemmas.Str.{NoCharPasses-byte, chars-IsAscii, encode_ascii, encodes-chars}
use Rattle.std.specs.List.{list_all}
use Rattle.std.specs.Str.{IsAscii, NonePass, NoCharPasses}
use Rattle.asn_strings.specs.Alphabets.{HasAllOrNonePastAscii, all_within}
use Rattle.asn_strings.proofs.Places.{true_from_not}

-- Both of two tests that pass together.
pub both : (b r : Bool) → (b && r) ≡ true → (b ≡ true) × (r ≡ true)
both true r h = (refl, h)
both false r h = absurd (false≢true h)

none_fails : (p : ℕ → Bool) (cs : List ℕ) → list_all p cs ≡ true → NonePass (λ c. not (p c)) cs
none_fails p [] h = tt
none_fails p (c ∷ cs) h =
    let passing = both (p c) (list_all p cs) h in
    (ap not passing.0, none_fails p cs passing.1)

-- An alphabet that has every octet has those of any list.
pub every_octet_within : (p : ℕ → Bool) → ((octet : ℕ) → p octet ≡ true) → (bs : List ℕ)
    → IsTrue (all_within p bs)
every_octet_within p every bs = list_all-from_AllPass p bs (λ k d h. every (get_or bs k d))

-- In an alphabet that has every octet past ASCII the octets of a text are, where its characters
-- are.
pub octets_within : (p : ℕ → Bool) → ((octet : ℕ) → 128 ≤ octet → p octet ≡ true)
    → (bs : List ℕ) → IsUtf8 bs → IsTrue (all_within p (chars bs)) → IsTrue (all_within p bs)
octets_within p past_ascii bs utf8 h =
    let none : NoCharPasses (λ c. not (p c)) bs =
    (chars bs, encodes-chars bs utf8, none_fails p (chars bs) h) in
    let in_ascii : (i : ℕ) → i < length bs → get_or bs i 0 < 128 → p (get_or bs i 0) ≡ true =
    λ i k l. true_from_not _ (NoCharPasses-byte (λ c. not (p c)) bs i none k l) in
    let octet : (i : ℕ) → i < length bs → p (get_or bs i 0) ≡ true =
    λ i k. ⊎_elim (in_ascii i k) (past_ascii (get_or bs i 0)) (cases_lt (get_or bs i 0) 128) in
    list_all-from_AllPass p bs (All-from_get_or (λ n. p n ≡ true) bs 0 octet)

-- What a list has in the alphabet after others.
later_within : (p : ℕ → Bool) (xs ys : List ℕ) → IsTrue (all_within p (xs ++ ys))
    → IsTrue (all_within p ys)
later_within p [] ys h = h
later_within p (x ∷ xs) ys h = later_within p xs ys (both (p x) (list_all p (xs ++ ys)) h).1

-- A character is in the alphabet where its octets are.
character_within : (p : ℕ → Bool) → ((c : ℕ) → 128 ≤ c → p c ≡ true) → (c : ℕ) (rest : List ℕ)
    → IsTrue (all_within p (encode_utf8 c ++ rest)) → p c ≡ true
character_within p past_ascii c rest h =
    ⊎_elim (λ l. (both (p c) (list_all p rest) (in_ascii l)).0) (past_ascii c) (cases_lt c 128)
  where
    in_ascii : c < 128 → list_all p (c ∷ rest) ≡ true
    in_ascii l = subst (λ cs. list_all p (cs ++ rest) ≡ true) (encode_ascii c l) h

each_within : (p : ℕ → Bool) → ((c : ℕ) → 128 ≤ c → p c ≡ true) → (cs : List ℕ)
    → IsTrue (all_within p (encode_utf8_all cs)) → IsTrue (all_within p cs)
each_within p past_ascii [] h = refl
each_within p past_ascii (c ∷ cs) h =
    let first = character_within p past_ascii c (encode_utf8_all cs) h in
    let others = each_within p past_ascii cs (later_within p (encode_utf8 c) _ h) in
    ap (λ b. b && list_all p cs) first ∙ others

-- In an alphabet that has every character past ASCII the characters of a text are, where its
-- octets are.
pub characters_within : (p : ℕ → Bool) → ((c : ℕ) → 128 ≤ c → p c ≡ true)
    → (bs : List ℕ) → IsUtf8 bs → IsTrue (all_within p bs) → IsTrue (all_within p (chars bs))
characters_within p past_ascii bs utf8 h =
    each_within p past_ascii (chars bs)
    (subst (λ octets. list_all p octets ≡ true) (sym (encodes-chars bs utf8)) h)

-- What is in an alphabet within ASCII is in ASCII.
pub in_ascii : (p : ℕ → Bool) → ((c : ℕ) → 128 ≤ c → p c ≡ false)
    → (bs : List ℕ) → IsTrue (all_within p bs) → IsAscii bs
in_ascii p lacks bs h =
    let passes = AllPass-from_list_all p bs h in
    let below : (i : ℕ) → i < length bs → get_or bs i 0 < 128 =
    λ i l. ⊎_elim (λ k. k) (λ k. absurd (false≢true (sym (lacks _ k) ∙ passes i 0 l)))
    (cases_lt (get_or bs i 0) 128) in
    λ i. ⊎_elim (below i) (λ k. rw (get_or_past bs i 0 k) (omega arith)) (cases_lt i (length bs))

-- In an alphabet within ASCII the characters of a text are its octets.
ascii_within : (p : ℕ → Bool) → ((c : ℕ) → 128 ≤ c → p c ≡ false)
    → (bs : List ℕ) → IsTrue (all_within p bs) → IsTrue (all_within p (chars bs))
ascii_within p lacks bs h =
    subst (λ cs. list_all p cs ≡ true) (sym (chars-IsAscii bs (in_ascii p lacks bs h))) h

-- The characters of a text are in the alphabet, where its octets are.
pub text_within : (p : ℕ → Bool) → HasAllOrNonePastAscii p → (bs : List ℕ) → IsUtf8 bs
    → IsTrue (all_within p bs) → IsTrue (all_within p (chars bs))
text_within p alike bs utf8 h =
    ⊎_elim (λ has. characters_within p has bs utf8 h) (λ lacks. ascii_within p lacks bs h) alike
