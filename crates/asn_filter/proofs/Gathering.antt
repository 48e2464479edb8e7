-- How far a text is cut.
use Rattle.std.proofs.Common.{◌≡◌, ◌<◌, ◌≤◌, ◌+◌, ◌++◌, ℕ, List, [], ◌∷◌, length, String, string_bytes, Result, Ok, Err, sym, ap, ◌∙◌, subst, append_assoc, append-nil, arith}
use Rattle.std.specs.Global.{Global}
use Rattle.asn_core.specs.declared.codec.Codec.{Codec}
use Rattle.asn_dynamic.specs.declared.conversion.ConvertError.{ConvertError}
use Rattle.asn_filter.specs.Kept.{Filtered, IsCut, kept_part, refused_part}
use Rattle.asn_filter.specs.Lines.{text_lines}
use Rattle.asn_model.specs.Shape.{Shape}

-- The lines of the rest, of which the first is the one after this number, come to what is still missing behind this text and these refusals.
pub record Underway (from : Codec) (old new : Shape) (input rest text : List ℕ) (refused : List (ℕ × ConvertError)) (number : ℕ) : Type 0 where
  pub room : number + length rest ≤ length input
  pub whole : (more : List ℕ) (others : List (ℕ × ConvertError)) → Filtered from old new (number + 1) (text_lines rest) more others
      → Filtered from old new 1 (text_lines input) (text ++ more) (refused ++ others)

changed : (from : Codec) (old new : Shape) (number : ℕ) (lines : List (List ℕ)) (s t : List ℕ) (q r : List (ℕ × ConvertError)) → s ≡ t → q ≡ r → Filtered from old new number lines s q → Filtered from old new number lines t r
changed from old new number lines s t q r e f h = subst (λ x. Filtered from old new number lines x r) e (subst (λ x. Filtered from old new number lines s x) f h)

pub begins : (from : Codec) (old new : Shape) (input text : List ℕ) (refused : List (ℕ × ConvertError)) → text ≡ [] → refused ≡ [] → Underway from old new input input text refused 0
begins from old new input text refused e f = record {
  room = omega arith;
  whole = λ more others h. changed from old new 1 (text_lines input) more (text ++ more) others (refused ++ others) (ap (λ t. t ++ more) (sym e)) (ap (λ r. r ++ others) (sym f)) h;
}

-- Where no line is left, all lines are done.
pub ends : (from : Codec) (old new : Shape) (input rest text : List ℕ) (refused : List (ℕ × ConvertError)) (number : ℕ) → Underway from old new input rest text refused number → text_lines rest ≡ [] → Filtered from old new 1 (text_lines input) text refused
ends from old new input rest text refused number u none =
    let last = subst (λ lines. Filtered from old new (number + 1) lines [] []) (sym none) (Filtered.no_line (number + 1)) in
    changed from old new 1 (text_lines input) (text ++ []) text (refused ++ []) refused (append-nil text) (append-nil refused) (u.whole [] [] last)

-- The first line of the rest is cut.
module _ (from : Codec) (old new : Shape) (input rest text : List ℕ) (refused : List (ℕ × ConvertError)) (number : ℕ) (u : Underway from old new input rest text refused number)
    (line after : List ℕ) (first : text_lines rest ≡ line ∷ text_lines after) (shorter : length after < length rest) where
  room_left : (number + 1) + length after ≤ length input
  room_left = omega (arith, u.room, shorter)

  added : (outcome : Result (String Global) ConvertError) → IsCut from old new line outcome → (more : List ℕ) (others : List (ℕ × ConvertError)) → Filtered from old new (number + 1 + 1) (text_lines after) more others
      → Filtered from old new 1 (text_lines input) ((text ++ kept_part outcome) ++ more) ((refused ++ refused_part (number + 1) outcome) ++ others)
  added (Ok output) is more others h =
      let one = Filtered.line_kept (number + 1) line (string_bytes output) (text_lines after) more others is h in
      let all = u.whole (string_bytes output ++ (10 ∷ more)) others (subst (λ lines. Filtered from old new (number + 1) lines (string_bytes output ++ (10 ∷ more)) others) (sym first) one) in
      changed from old new 1 (text_lines input) (text ++ (string_bytes output ++ (10 ∷ more))) ((text ++ (string_bytes output ++ 10 ∷ [])) ++ more) (refused ++ others) ((refused ++ []) ++ others)
      (sym (append_assoc text (string_bytes output ++ 10 ∷ []) more ∙ ap (λ t. text ++ t) (append_assoc (string_bytes output) (10 ∷ []) more))) (ap (λ r. r ++ others) (sym (append-nil refused))) all
  added (Err fault) is more others h =
      let one = Filtered.line_refused (number + 1) line fault (text_lines after) more others is h in
      let all = u.whole more ((number + 1, fault) ∷ others) (subst (λ lines. Filtered from old new (number + 1) lines more ((number + 1, fault) ∷ others)) (sym first) one) in
      changed from old new 1 (text_lines input) (text ++ more) ((text ++ []) ++ more) (refused ++ ((number + 1, fault) ∷ others)) ((refused ++ (number + 1, fault) ∷ []) ++ others)
      (ap (λ t. t ++ more) (sym (append-nil text))) (sym (append_assoc refused ((number + 1, fault) ∷ []) others)) all

  pub goes_on : (outcome : Result (String Global) ConvertError) → IsCut from old new line outcome → (longer : List ℕ) (others : List (ℕ × ConvertError)) → longer ≡ text ++ kept_part outcome → others ≡ refused ++ refused_part (number + 1) outcome
      → Underway from old new input after longer others (number + 1)
  goes_on outcome is longer others e f =
      subst (λ t. Underway from old new input after t others (number + 1)) (sym e)
      (subst (λ r. Underway from old new input after (text ++ kept_part outcome) r (number + 1)) (sym f) (record { room = room_left; whole = added outcome is }))
