-- Where the line of a place begins and ends.
use Rattle.std.proofs.Common.{◌≡◌, ◌≢◌, ◌≤◌, ◌<◌, ◌+◌, ◌∙◌, ◌⊎◌, inl, inr, ℕ, List, [], ◌∷◌, ◌++◌, All, ap, append_assoc, arith, chars, codes, drop, encode_utf8, encode_utf8_all, get_or, length, map, refl, subst, sym, take, IsCharBoundary, MatchOption, Option, Some, None}
use Rattle.std.specs.Borrow.{Bor}
use Rattle.std.specs.Str.Pattern.{FindsChar, RFindsChar}
use Rattle.std.proofs.lemmas.List.Elements.{All-from_get_or}
use Rattle.std.proofs.lemmas.List.{append-nil, map-append, take-append-drop}
use Rattle.std.proofs.lemmas.Str.{encodes-append}
use Rattle.std.proofs.lemmas.Str.Pattern.{IsSplitOnceResult, NoCharPasses-char, drop_at_char, split_parts}
use Rattle.asn_value_refusals.specs.Excerpts.{HasNoFeed, IsExcerpt, IsFirstLine, IsLastLine, blanks, shown_before, shown_text}
use Rattle.asn_value_refusals.specs.Visible.{visible}
use Rattle.asn_value_refusals.specs.declared.shown.TheConstants.{MOST_SHOWN}

-- No byte at any place is a line feed.
no_feed : (bs : List ℕ) → ((i : ℕ) → i < length bs → get_or bs i 0 ≢ 10) → HasNoFeed bs
no_feed bs h = All-from_get_or (λ b. b ≢ 10) bs 0 h

abbrev RSplits : List ℕ → Bor (List ℕ) × Bor (List ℕ) → Type 0
RSplits bs x = (i : ℕ) × (j : ℕ) × RFindsChar 10 bs (Some (i, j)) × (x.0.now ≡ take i bs) × (x.1.now ≡ drop j bs) × (i ≤ j) × (length x.0.now ≡ i) × (length x.1.now + j ≡ length bs)

pub last_line_behind : (bs : List ℕ) (x : Bor (List ℕ) × Bor (List ℕ)) → RSplits bs x → IsLastLine bs x.1.now
last_line_behind bs x (i, j, f, a, b, _, _, _) = (
  no_feed x.1.now (λ k inside h.
      NoCharPasses-char 10 (drop j bs) k f.0 (omega arith) (omega (arith, inside, ap (λ l. length l) b)) (ap (λ l. get_or l k 0) (sym b) ∙ h)),
  inr (take i bs, sym (take-append-drop i bs) ∙ ap (λ l. take i bs ++ l) (drop_at_char 10 bs i j f.1 (omega arith) ∙ ap (λ l. 10 ∷ l) (sym b))),
)

pub last_line_whole : (bs : List ℕ) → RFindsChar 10 bs None → IsLastLine bs bs
last_line_whole bs f = (no_feed bs (λ k inside h. NoCharPasses-char 10 bs k f (omega arith) inside h), inl refl)

pub first_line_before : (bs : List ℕ) (x : Bor (List ℕ) × Bor (List ℕ)) → IsSplitOnceResult 10 bs (Some x) → IsFirstLine bs x.0.now
first_line_before bs x h =
    let parts = split_parts 10 bs (Some x) h (omega arith) in
    (no_feed x.0.now parts.1, inr (x.1.now, parts.0))

pub first_line_whole : (bs : List ℕ) → IsSplitOnceResult 10 bs None → IsFirstLine bs bs
first_line_whole bs h = (no_feed bs (split_parts 10 bs None h (omega arith)), inl refl)

pub last_line_from : (bs : List ℕ) (r : Option (Bor (List ℕ) × Bor (List ℕ))) (x : Bor (List ℕ) × Bor (List ℕ)) → MatchOption r (RFindsChar 10 bs None) (RSplits bs) → r ≡ Some x → IsLastLine bs x.1.now
last_line_from bs r x h e = last_line_behind bs x (subst (λ o. MatchOption o (RFindsChar 10 bs None) (RSplits bs)) e h)

pub last_line_of : (bs : List ℕ) (r : Option (Bor (List ℕ) × Bor (List ℕ))) → MatchOption r (RFindsChar 10 bs None) (RSplits bs) → r ≡ None → IsLastLine bs bs
last_line_of bs r h e = last_line_whole bs (subst (λ o. MatchOption o (RFindsChar 10 bs None) (RSplits bs)) e h)

pub first_line_from : (bs : List ℕ) (r : Option (Bor (List ℕ) × Bor (List ℕ))) (x : Bor (List ℕ) × Bor (List ℕ)) → IsSplitOnceResult 10 bs r → r ≡ Some x → IsFirstLine bs x.0.now
first_line_from bs r x h e = first_line_before bs x (subst (IsSplitOnceResult 10 bs) e h)

pub first_line_of : (bs : List ℕ) (r : Option (Bor (List ℕ) × Bor (List ℕ))) → IsSplitOnceResult 10 bs r → r ≡ None → IsFirstLine bs bs
first_line_of bs r h e = first_line_whole bs (subst (IsSplitOnceResult 10 bs) e h)

-- One character more, of which something is shown.
more : (show : ℕ → ℕ) (whole a b cs : List ℕ) (c d : ℕ) → a ≡ whole ++ encode_utf8_all (map show cs) → d ≡ show c → b ≡ a ++ encode_utf8 d → b ≡ whole ++ encode_utf8_all (map show (cs ++ c ∷ []))
more show whole a b cs c d e v f =
    let text = encode_utf8_all (map show cs) in
    f ∙ ap (λ x. x ++ encode_utf8 d) e ∙ ap (λ y. (whole ++ text) ++ encode_utf8 y) v ∙ append_assoc whole text (encode_utf8 (show c))
    ∙ ap (λ x. whole ++ x) (ap (λ x. text ++ x) (sym (append-nil (encode_utf8 (show c)))) ∙ sym (encodes-append (map show cs) (show c ∷ [])) ∙ ap encode_utf8_all (sym (map-append show cs (c ∷ []))))

-- One character more.
pub shown_more : (whole a b cs : List ℕ) (c d : ℕ) → a ≡ whole ++ shown_text cs → d ≡ visible c → b ≡ a ++ encode_utf8 d → b ≡ whole ++ shown_text (cs ++ c ∷ [])
shown_more whole a b cs c d e v f = more visible whole a b cs c d e v f

pub blanks_more : (whole a b cs : List ℕ) (c : ℕ) → a ≡ whole ++ blanks cs → b ≡ a ++ encode_utf8 32 → b ≡ whole ++ blanks (cs ++ c ∷ [])
blanks_more whole a b cs c e f = more (λ _. 32) whole a b cs c 32 e refl f

-- Both lines, of what was written one after another.
pub excerpt_shown : (text front rest before after line caret more blank both bytes : List ℕ) (offset : ℕ) → front ≡ take offset text → rest ≡ drop offset text → IsLastLine front before → IsFirstLine rest after → line ≡ [] → caret ≡ []
    → more ≡ line ++ shown_text (shown_before (chars before)) → blank ≡ caret ++ blanks (shown_before (chars before)) → both ≡ more ++ shown_text (take MOST_SHOWN (chars after))
    → bytes ≡ codes "  " ++ (both ++ (codes "\n  " ++ (blank ++ codes "^\n"))) → IsExcerpt text offset bytes
excerpt_shown text front rest before after line caret more blank both bytes offset f r b a l c m k o e =
    record {
      before = before;
      after = after;
      begins = subst (λ x. IsLastLine x before) f b;
      ends = subst (λ x. IsFirstLine x after) r a;
      is = e ∙ ap (λ x. codes "  " ++ (x ++ (codes "\n  " ++ (blank ++ codes "^\n")))) (o ∙ ap (λ x. x ++ shown_text (take MOST_SHOWN (chars after))) (m ∙ ap (λ x. x ++ shown_text (shown_before (chars before))) l))
          ∙ ap (λ x. codes "  " ++ ((shown_text (shown_before (chars before)) ++ shown_text (take MOST_SHOWN (chars after))) ++ (codes "\n  " ++ (x ++ codes "^\n")))) (k ∙ ap (λ x. x ++ blanks (shown_before (chars before))) c);
    }
