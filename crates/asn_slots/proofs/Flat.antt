-- Frames that stand in one list.
use Rattle.std.proofs.Common.{◌≡◌, refl, ap, sym, ◌∙◌, ◌+◌, ◌≤◌, ◌<◌, ℕ, List, [], ◌∷◌, ◌++◌, length, take, drop, reverse, append_assoc, get_or, Option, Some, None, arith}
use Rattle.std.proofs.lemmas.List.{take-append-le, drop-append-le, take_more, drop_more, same_from_push, reverse-append}
use Rattle.std.specs.Option.{option_to_list}
use Rattle.asn_slots.specs.Frames.{push, Closes, frames_from, last_start, Rise}
use Rattle.asn_slots.specs.Slots.{or_some, last_present, present_of, first_of}
use Rattle.asn_slots.proofs.Lasts.{last_present-last}

-- Beginnings are at most a later end.
pub risen : (near far : ℕ) (starts : List ℕ) → near ≤ far → Rise near starts → Rise far starts
risen near far [] h r = tt
risen near far (start ∷ starts) h r = (omega (arith, h, r.0), r.1)

-- One slot more at the end is one more in the last frame.
pub one_more : {A : Type 0} (slot : A) (slots : List A) (starts : List ℕ) → Rise (length slots) starts → frames_from (slots ++ slot ∷ []) starts ≡ push slot (frames_from slots starts)
one_more slot slots [] r = refl
one_more slot slots (start ∷ starts) r =
    let back : drop start (slots ++ slot ∷ []) ≡ drop start slots ++ slot ∷ [] = drop-append-le start slots (slot ∷ []) r.0 in
    let front : take start (slots ++ slot ∷ []) ≡ take start slots = take-append-le start slots (slot ∷ []) r.0 in
    cc

-- The slots from the last beginning on are the last frame, and those before it the frames that are left.
pub last_closed : {A : Type 0} (slots : List A) (starts : List ℕ) → Closes (frames_from slots starts) (drop (last_start starts) slots) (frames_from (take (last_start starts) slots) (drop 1 starts))
last_closed slots [] = (refl, refl)
last_closed slots (start ∷ []) = (refl, refl)
last_closed slots (start ∷ next ∷ starts) = (refl, refl)

-- The same, where each part has a name of its own.
pub closes : {A : Type 0} (old : List (List A)) (slots left gone : List A) (starts rest : List ℕ) (start : ℕ)
    → frames_from slots starts ≡ old → start ≡ last_start starts → rest ≡ drop 1 starts → gone ≡ drop start slots → left ≡ take start slots → Closes old gone (frames_from left rest)
closes old slots left gone starts rest start e es er eg el = rw (← e, eg, el, er, es) (last_closed slots starts)

-- The last beginning is at most the end.
pub start_within : (end : ℕ) (starts : List ℕ) → Rise end starts → last_start starts ≤ end
start_within end [] r = omega arith
start_within end (start ∷ starts) r = r.0

-- The slot at the place is the first of those from there on.
pub first_at : {A : Type 0} (slots rest : List (Option A)) (start : ℕ) (slot : Option A) → start < length slots → take (start + 1) slots ≡ rest ++ slot ∷ [] → slot ≡ first_of (drop start slots)
first_at slots rest start slot h e =
    let same = same_from_push (take start slots) rest (get_or slots start slot) slot (sym (take_more slots start slot h) ∙ e) in
    sym (ap first_of (drop_more slots start slot h) ∙ same.1)

present_of-last : {A : Type 0} (slots : List (Option A)) (slot : Option A) → present_of (slots ++ slot ∷ []) ≡ present_of slots ++ option_to_list slot
present_of-last [] (Some x) = refl
present_of-last [] None = refl
present_of-last (None ∷ slots) slot = present_of-last slots slot
present_of-last (Some x ∷ slots) slot = ap (λ r. x ∷ r) (present_of-last slots slot)

reverse_one : {A : Type 0} (slot : Option A) (values : List A) → reverse (option_to_list slot) ++ values ≡ option_to_list slot ++ values
reverse_one (Some x) values = refl
reverse_one None values = refl

-- The last slot goes over to the values that were taken, which are in reverse.
pub present_taken : {A : Type 0} (slots left : List (Option A)) (start : ℕ) (slot : Option A) (values : List A) (all : List A) → slots ≡ left ++ slot ∷ [] → start ≤ length left
    → present_of (drop start slots) ++ reverse values ≡ all → present_of (drop start left) ++ reverse (values ++ option_to_list slot) ≡ all
present_taken slots left start slot values all e h p =
    let whole : present_of (drop start slots) ≡ present_of (drop start left) ++ option_to_list slot = ap present_of (ap (drop start) e ∙ drop-append-le start left (slot ∷ []) h) ∙ present_of-last (drop start left) slot in
    ap (λ r. present_of (drop start left) ++ r) (reverse-append values (option_to_list slot) ∙ reverse_one slot (reverse values))
    ∙ sym (append_assoc (present_of (drop start left)) (option_to_list slot) (reverse values)) ∙ ap (λ r. r ++ reverse values) (sym whole) ∙ p

-- The last present slot from the place on is that of the slots that are left, where the last one is absent.
pub last_taken : {A : Type 0} (slots left : List (Option A)) (start : ℕ) (slot : Option A) → slots ≡ left ++ slot ∷ [] → start ≤ length left → last_present (drop start slots) ≡ or_some slot (last_present (drop start left))
last_taken slots left start slot e h = ap last_present (ap (drop start) e ∙ drop-append-le start left (slot ∷ []) h) ∙ last_present-last (drop start left) slot

-- The slots before the place stay where the last one is taken.
pub front_stays : {A : Type 0} (slots left : List A) (start : ℕ) (slot : A) → slots ≡ left ++ slot ∷ [] → start ≤ length left → take start left ≡ take start slots
front_stays slots left start slot e h = sym (ap (take start) e ∙ take-append-le start left (slot ∷ []) h)
