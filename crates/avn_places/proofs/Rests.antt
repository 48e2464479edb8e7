-- What follows a turn is left of the text, and a text has an end.
use Rattle.std.proofs.Common.{◌≡◌, ◌≢◌, ◌≤◌, ◌<◌, ◌+◌, ◌-◌, ◌*◌, ◌∙◌, ℕ, zero, suc, List, [], ◌∷◌, ◌++◌, Bool, true, false, ◌==◌, ◌&&◌, ◌||◌, ap, append_assoc, unwrap_or, arith, chars, cond, drop, encode_utf8_all, if◌then◌else◌, length, length-append, refl, subst, sym, IsCharBoundary, IsUtf8, Option, Some, None}
use Rattle.std.specs.Option.{option_map}
use Rattle.std.specs.Str.{trim_start, skip_leading_whitespace}
use Rattle.std.specs.Char.{is_whitespace}
use Rattle.std.proofs.lemmas.List.{drop_at}
use Rattle.std.proofs.lemmas.Str.{encodes-append, encodes-chars, IsCharBoundary-from_drop}
use Rattle.avn_grammar.proofs.Runs.{past-step}
use Rattle.avn_grammar.specs.Chars.{has_fraction, is_digit, is_letter, is_name, is_not_apostrophe, is_space, skip, skip_while, starts_with, tail, take_while}
use Rattle.avn_grammar.specs.Grammar.{past_number}
use Rattle.avn_places.specs.Braces.{behind_value, new_braces, with_item}
use Rattle.avn_places.specs.Places.{Stops, at_fault, goes_on, opens, holds, closes, IsFaultPlace, at_braces, at_close, at_comma, at_name, at_no_name, at_simple, begins, behind_turn, holding, innermost, item_in, item_turn, named_turn, outer, past_name, turn, value_turn}
use Rattle.avn_places.specs.Tokens.{are_bits, are_pairs, begins_number, no_integer, number, past_apostrophe, past_digits, past_letter, past_octets, past_sign, past_string, simple_value, unsigned}
use Rattle.avn_places.specs.declared.braces.Braces.{Braces}
use Rattle.avn_places.specs.declared.braces.Item.{Item}
use Rattle.avn_places.specs.declared.braces.Item.TheVariants.{Named, Other, Plain}
use Rattle.avn_places.specs.declared.turn.Expected.{Expected}
use Rattle.avn_places.specs.declared.turn.Expected.TheVariants as expected
use Rattle.avn_places.specs.declared.turn.Then.{Then}
use Rattle.avn_places.specs.declared.turn.Then.TheVariants as then
use Rattle.avn_places.proofs.Fronts.{by_equal}

-- The text ends with this.
abbrev pub IsRest : List ℕ → List ℕ → Type 0
IsRest u v = (front : List ℕ) × (u ≡ front ++ v)

-- The text ends with this after its first byte.
abbrev pub IsTail : List ℕ → List ℕ → Type 0
IsTail u v = (c : ℕ) × (w : List ℕ) × (u ≡ c ∷ w) × IsRest w v

pub rest_self : (u : List ℕ) → IsRest u u
rest_self u = ([], refl)

pub rest_on : (u v w : List ℕ) → IsRest u v → IsRest v w → IsRest u w
rest_on u v w r s = (r.0 ++ s.0, r.1 ∙ ap (λ x. r.0 ++ x) s.1 ∙ sym (append_assoc r.0 s.0 w))

rest_behind : (c : ℕ) (u v : List ℕ) → IsRest u v → IsRest (c ∷ u) v
rest_behind c u v r = (c ∷ r.0, ap (λ x. c ∷ x) r.1)

pub rest_le : (u v : List ℕ) → IsRest u v → length v ≤ length u
rest_le u v r = omega (arith, ap (λ x. length x) r.1, length-append r.0 v)

tail_of : (c : ℕ) (u v : List ℕ) → IsRest u v → IsTail (c ∷ u) v
tail_of c u v r = (c, u, refl, r)

tail_rest : (u v : List ℕ) → IsTail u v → IsRest u v
tail_rest u v (c, w, e, r) = subst (λ x. IsRest x v) (sym e) (rest_behind c w v r)

tail_lt : (u v : List ℕ) → IsTail u v → length v < length u
tail_lt u v (c, w, e, r) = omega (arith, ap (λ x. length x) e, rest_le w v r)

tail_on : (u v w : List ℕ) → IsTail u v → IsRest v w → IsTail u w
tail_on u v w (c, x, e, r) s = (c, x, e, rest_on x v w r s)

on_tail : (u v w : List ℕ) → IsRest u v → IsTail v w → IsTail u w
on_tail u v w ([], e) t = subst (λ x. IsTail x w) (sym e) t
on_tail u v w (c ∷ front, e) t = subst (λ x. IsTail x w) (sym e) (tail_of c (front ++ v) w (rest_on (front ++ v) v w (front, refl) (tail_rest v w t)))

-- What holds either way holds of the choice.
either_way : {A : Type 0} (P : A → Type 0) (b : Bool) (x y : A) → (b ≡ true → P x) → (b ≡ false → P y) → P (if b then x else y)
either_way P true x y f g = f refl
either_way P false x y f g = g refl

pub run_rest : (p : ℕ → Bool) (u : List ℕ) → IsRest u (skip_while p u)
run_rest p [] = rest_self []
run_rest p (c ∷ u) = elim (p c) as (λ b. IsRest (c ∷ u) (cond b (skip_while p u) (c ∷ u))) [ true ↦ rest_behind c u _ (run_rest p u) | false ↦ rest_self (c ∷ u) ]

run_tail : (p : ℕ → Bool) (c : ℕ) (u : List ℕ) → p c ≡ true → IsTail (c ∷ u) (skip_while p (c ∷ u))
run_tail p c u h = subst (IsTail (c ∷ u)) (sym (past-step p (c ∷ u) u c h refl)) (tail_of c u _ (run_rest p u))

sign_tail : (c : ℕ) (u v : List ℕ) → past_sign c u ≡ Some v → IsTail u v
sign_tail c [] v h = let n : ⊥ = cc in absurd n
sign_tail c (d ∷ u) v h =
    by_equal (λ o. o ≡ Some v → IsTail (d ∷ u) v) d c (Some u) None (λ _ f. let e : u ≡ v = cc in subst (IsTail (d ∷ u)) e (tail_of d u u (rest_self u))) (λ _ f. let n : ⊥ = cc in absurd n) h

-- What is found is left of the text.
abbrev LeavesRest : List ℕ → Option (List ℕ) → Type 0
LeavesRest u None = Unit {0}
LeavesRest u (Some v) = IsRest u v

leaves_behind : (c : ℕ) (u : List ℕ) (o : Option (List ℕ)) → LeavesRest u o → LeavesRest (c ∷ u) o
leaves_behind c u None r = tt
leaves_behind c u (Some v) r = rest_behind c u v r

string_rest : (u : List ℕ) → LeavesRest u (past_string u)
string_rest [] = tt
string_rest (c ∷ []) = either_way (LeavesRest (c ∷ [])) (c == 34) (Some []) None (λ _. rest_behind c [] [] (rest_self [])) (λ _. tt)
string_rest (c ∷ d ∷ u) =
    either_way (LeavesRest (c ∷ d ∷ u)) (c == 34) (if d == 34 then past_string u else Some (d ∷ u)) (past_string (d ∷ u))
    (λ _. either_way (LeavesRest (c ∷ d ∷ u)) (d == 34) (past_string u) (Some (d ∷ u)) (λ _. leaves_behind c (d ∷ u) (past_string u) (leaves_behind d u (past_string u) (string_rest u))) (λ _. rest_behind c (d ∷ u) (d ∷ u) (rest_self (d ∷ u))))
    (λ _. leaves_behind c (d ∷ u) (past_string (d ∷ u)) (string_rest (d ∷ u)))

letter_rest : (u digits : List ℕ) (o p : Option (List ℕ)) → LeavesRest u o → LeavesRest u p → LeavesRest u (past_letter digits o p)
letter_rest u digits (Some v) p r s = either_way (LeavesRest u) (are_pairs (chars digits)) (Some v) None (λ _. r) (λ _. tt)
letter_rest u digits None (Some v) r s = either_way (LeavesRest u) (are_bits (chars digits)) (Some v) None (λ _. s) (λ _. tt)
letter_rest u digits None None r s = tt

sign_leaves : (c : ℕ) (u : List ℕ) (o : Option (List ℕ)) → past_sign c u ≡ o → LeavesRest u o
sign_leaves c u None h = tt
sign_leaves c u (Some v) h = tail_rest u v (sign_tail c u v h)

leaves_on : (u v : List ℕ) (o : Option (List ℕ)) → IsRest u v → LeavesRest v o → LeavesRest u o
leaves_on u v None r s = tt
leaves_on u v (Some w) r s = rest_on u v w r s

digits_rest : (u v digits : List ℕ) → IsRest u v → LeavesRest u (past_letter digits (past_sign 72 v) (past_sign 66 v))
digits_rest u v digits r = letter_rest u digits (past_sign 72 v) (past_sign 66 v) (leaves_on u v _ r (sign_leaves 72 v _ refl)) (leaves_on u v _ r (sign_leaves 66 v _ refl))

octets_of : (u digits : List ℕ) (o : Option (List ℕ)) → LeavesRest u o → LeavesRest u (past_digits (option_map {U = List ℕ × List ℕ} (λ rest. (digits, rest)) o))
octets_of u digits None r = tt
octets_of u digits (Some v) r = digits_rest u v digits r

octets_rest : (u : List ℕ) → LeavesRest u (past_octets u)
octets_rest u = octets_of u (take_while is_not_apostrophe u) (past_sign 39 (skip_while is_not_apostrophe u)) (leaves_on u (skip_while is_not_apostrophe u) _ (run_rest is_not_apostrophe u) (sign_leaves 39 (skip_while is_not_apostrophe u) _ refl))

-- A value that is found ends after the first byte.
abbrev LeavesTail : List ℕ → Option (Bool × List ℕ) → Type 0
LeavesTail u None = Unit {0}
LeavesTail u (Some s) = IsTail u s.1

no_integer_tail : (c : ℕ) (u : List ℕ) (o : Option (List ℕ)) → LeavesRest u o → LeavesTail (c ∷ u) (no_integer o)
no_integer_tail c u None r = tt
no_integer_tail c u (Some v) r = tail_of c u v r

fraction_rest : (w : List ℕ) → IsRest w (skip_while is_digit (tail w))
fraction_rest [] = rest_self []
fraction_rest (c ∷ w) = rest_behind c w _ (run_rest is_digit w)

number_rest : (w : List ℕ) → starts_with is_digit w ≡ true → IsTail w (past_number w)
number_rest [] h = let n : ⊥ = cc in absurd n
number_rest (c ∷ w) h =
    let v = skip_while is_digit (c ∷ w) in
    elim (has_fraction v) as (λ b. IsTail (c ∷ w) (cond b (skip_while is_digit (tail v)) v)) [ true ↦ tail_on (c ∷ w) v _ (run_tail is_digit c w h) (fraction_rest v) | false ↦ run_tail is_digit c w h ]

unsigned_rest : (u : List ℕ) → IsRest u (unsigned u)
unsigned_rest u = by (past_sign 45 u) refl
  where
    by : (o : Option (List ℕ)) → past_sign 45 u ≡ o → IsRest u (unwrap_or o u)
    by None e = rest_self u
    by (Some v) e = tail_rest u v (sign_tail 45 u v e)

number_tail : (u : List ℕ) → LeavesTail u (number u)
number_tail u = either_way (LeavesTail u) (starts_with is_digit (unsigned u)) _ None (λ h. on_tail u (unsigned u) (past_number (unsigned u)) (unsigned_rest u) (number_rest (unsigned u) h)) (λ _. tt)

simple_tail : (u : List ℕ) → LeavesTail u (simple_value u)
simple_tail [] = tt
simple_tail (c ∷ u) =
    either_way (LeavesTail (c ∷ u)) (c == 34) (no_integer (past_string u)) (if c == 39 then no_integer (past_octets u) else number (c ∷ u)) (λ _. no_integer_tail c u (past_string u) (string_rest u))
    (λ _. either_way (LeavesTail (c ∷ u)) (c == 39) (no_integer (past_octets u)) (number (c ∷ u)) (λ _. no_integer_tail c u (past_octets u) (octets_rest u)) (λ _. number_tail (c ∷ u)))

-- Of three turns one passes a byte.
abbrev pub rank : Expected → ℕ
rank expected.Value = 1
rank expected.Item = 2
rank (expected.Behind i) = 3

rank_le : (e : Expected) → rank e ≤ 3
rank_le expected.Value = omega arith
rank_le expected.Item = omega arith
rank_le (expected.Behind i) = omega arith

abbrev pub Falls : ℕ → ℕ → Then → Type 0
Falls k n (then.On e) = 3 * n + rank e < k
Falls k n then.Opens = 3 * n + 2 < k
Falls k n (then.Holds b e) = 3 * n + rank e < k
Falls k n then.Closes = 3 * n + 3 < k
Falls k n then.Fault = Unit {0}

abbrev pub Takes : ℕ → List ℕ → Then × List ℕ → Type 0
Takes k u p = IsRest u p.1 × Falls (3 * length u + k) (length p.1) p.0

takes_on : (k : ℕ) (e : Expected) (u v : List ℕ) → 0 < k → IsTail u v → Takes k u (then.On e, v)
takes_on k e u v h t = (tail_rest u v t, omega (arith, h, tail_lt u v t, rank_le e))

takes_holds : (k : ℕ) (b : Braces) (e : Expected) (u v : List ℕ) → 0 < k → IsTail u v → Takes k u (then.Holds b e, v)
takes_holds k b e u v h t = (tail_rest u v t, omega (arith, h, tail_lt u v t, rank_le e))

takes_fault : (k : ℕ) (u : List ℕ) → Takes k u (then.Fault, u)
takes_fault k u = (rest_self u, tt)

name_takes : (u n : List ℕ) (o : Option (List ℕ)) → IsTail u n → past_sign 58 (skip n) ≡ o → Takes 1 u (at_name n o)
name_takes u n None t h = takes_on 1 (expected.Behind false) u n (omega arith) t
name_takes u n (Some p) t h = takes_on 1 expected.Value u p (omega arith) (tail_on u n p t (rest_on n (skip n) p (run_rest is_space n) (tail_rest (skip n) p (sign_tail 58 (skip n) p h))))

braces_takes : (u n : List ℕ) (o : Option (List ℕ)) → IsTail u n → past_sign 125 (skip n) ≡ o → Takes 1 u (at_braces n o)
braces_takes u n None t h = (tail_rest u n t, omega (arith, tail_lt u n t))
braces_takes u n (Some p) t h = takes_on 1 (expected.Behind false) u p (omega arith) (tail_on u n p t (rest_on n (skip n) p (run_rest is_space n) (tail_rest (skip n) p (sign_tail 125 (skip n) p h))))

simple_takes : (u : List ℕ) (o : Option (Bool × List ℕ)) → LeavesTail u o → Takes 1 u (at_simple u o)
simple_takes u None t = takes_fault 1 u
simple_takes u (Some s) t = takes_on 1 (expected.Behind s.0) u s.1 (omega arith) t

no_name_takes : (u : List ℕ) (o : Option (List ℕ)) → past_sign 123 u ≡ o → Takes 1 u (at_no_name u o)
no_name_takes u None h = simple_takes u (simple_value u) (simple_tail u)
no_name_takes u (Some items) h = braces_takes u items _ (sign_tail 123 u items h) refl

letter_name : (c : ℕ) → is_letter c ≡ true → is_name c ≡ true
letter_name c h = ap (λ b. b || is_digit c || (c == 45) || (c == 95)) h

name_tail : (u : List ℕ) → starts_with is_letter u ≡ true → IsTail u (past_name u)
name_tail [] h = let n : ⊥ = cc in absurd n
name_tail (c ∷ u) h = run_tail is_name c u (letter_name c h)

value_takes : (u : List ℕ) → Takes 1 u (value_turn u)
value_takes u = either_way (Takes 1 u) (starts_with is_letter u) _ _ (λ h. name_takes u (past_name u) _ (name_tail u h) refl) (λ _. no_name_takes u _ refl)

holding_tail : (o : Option Braces) (e : Expected) (u v : List ℕ) → IsTail u v → Takes 2 u (holding o e u v)
holding_tail None e u v t = takes_fault 2 u
holding_tail (Some b) e u v t = takes_holds 2 b e u v (omega arith) t

holding_here : (o : Option Braces) (u : List ℕ) → Takes 2 u (holding o expected.Value u u)
holding_here None u = takes_fault 2 u
holding_here (Some b) u = (rest_self u, omega arith)

item_takes : (b : Braces) (u : List ℕ) → Takes 2 u (item_turn b u)
item_takes b u =
    let v = skip (past_name u) in
    either_way (Takes 2 u) (starts_with is_letter u) (named_turn b u v) (holding (with_item b Plain) expected.Value u u)
    (λ h. either_way (Takes 2 u) (begins 58 v) (holding (with_item b Other) expected.Value u u) _ (λ _. holding_here (with_item b Other) u)
    (λ _. either_way (Takes 2 u) (begins 44 v || begins 125 v) (holding (with_item b Other) (expected.Behind false) u (past_name u)) (holding (with_item b Named) expected.Value u (past_name u))
    (λ _. holding_tail (with_item b Other) (expected.Behind false) u (past_name u) (name_tail u h)) (λ _. holding_tail (with_item b Named) expected.Value u (past_name u) (name_tail u h))))
    (λ _. holding_here (with_item b Plain) u)

comma_takes : (b : Braces) (u : List ℕ) (o : Option (List ℕ)) → past_sign 44 u ≡ o → Takes 3 u (at_comma b u o)
comma_takes b u (Some v) h = takes_holds 3 b expected.Item u v (omega arith) (sign_tail 44 u v h)
comma_takes b u None h = either_way (Takes 3 u) (b.are_integers && begins_number u) (then.Holds b expected.Item, u) (then.Fault, u) (λ _. (rest_self u, omega arith)) (λ _. takes_fault 3 u)

close_takes : (b : Braces) (u : List ℕ) (o : Option (List ℕ)) → past_sign 125 u ≡ o → Takes 3 u (at_close b u o)
close_takes b u (Some v) h = (tail_rest u v (sign_tail 125 u v h), omega (arith, tail_lt u v (sign_tail 125 u v h)))
close_takes b u None h = comma_takes b u _ refl

white_rest : (cs : List ℕ) → IsRest cs (skip_leading_whitespace cs)
white_rest [] = rest_self []
white_rest (c ∷ cs) = elim (is_whitespace c) as (λ b. IsRest (c ∷ cs) (cond b (skip_leading_whitespace cs) (c ∷ cs))) [ true ↦ rest_behind c cs _ (white_rest cs) | false ↦ rest_self (c ∷ cs) ]

trim_rest : (u : List ℕ) → IsUtf8 u → IsRest u (trim_start u)
unfolding trim_start
trim_rest u utf8 =
    let r = white_rest (chars u) in
    (encode_utf8_all r.0, sym (encodes-chars u utf8) ∙ ap encode_utf8_all r.1 ∙ encodes-append r.0 (skip_leading_whitespace (chars u)))

behind_takes : (o : Option Braces) (i : Bool) (u : List ℕ) → IsUtf8 u → Takes 3 u (behind_turn o i u)
behind_takes None i u utf8 = (trim_rest u utf8, tt)
behind_takes (Some b) i u utf8 = close_takes (behind_value b i) u _ refl

pub turn_takes : (o : Option Braces) (e : Expected) (u : List ℕ) → IsUtf8 u → Takes (rank e) u (turn o e u)
turn_takes o expected.Value u utf8 = value_takes u
turn_takes None expected.Item u utf8 = takes_fault 2 u
turn_takes (Some b) expected.Item u utf8 = item_takes b u
turn_takes o (expected.Behind i) u utf8 = behind_takes o i u utf8

-- What the turns so far lead to.
abbrev pub Leads : List ℕ → List Braces → Expected → List ℕ → Type 0
Leads text opened e u = IsRest text u × ((rest : List ℕ) → Stops opened e u rest → Stops [] expected.Value text rest)

pub leads_first : (text : List ℕ) → Leads text [] expected.Value text
leads_first text = (rest_self text, λ rest s. s)

-- What stands at the front of the text after its white space.
abbrev pub Turned : List Braces → Expected → List ℕ → Then × List ℕ → Type 0
Turned opened e u p = IsUtf8 (skip u) × (turn (innermost opened) e (skip u) ≡ p)

pub turned : (u w v : List ℕ) (opened : List Braces) (b : Option Braces) (e : Expected) (s t : Then) → IsUtf8 w → w ≡ skip u → b ≡ innermost opened → (s, v) ≡ turn b e w → s ≡ t → Turned opened e u (t, v)
turned u w v opened b e s t utf8 same inner h is =
    (subst IsUtf8 same utf8, ap (λ x. turn x e (skip u)) (sym inner) ∙ ap (turn b e) (sym same) ∙ sym h ∙ ap (λ x. (x, v)) is)

-- One turn more.
turn_rest : (o : Option Braces) (e : Expected) (u v : List ℕ) (t : Then) → IsUtf8 (skip u) → turn o e (skip u) ≡ (t, v) → IsRest u v
turn_rest o e u v t utf8 h = rest_on u (skip u) v (run_rest is_space u) (subst (IsRest (skip u)) (ap (λ p. p.1) h) (turn_takes o e (skip u) utf8).0)

pub leads_on : (text u v : List ℕ) (opened : List Braces) (e next : Expected) → Leads text opened e u → Turned opened e u (then.On next, v) → Leads text opened next v
leads_on text u v opened e next l (utf8, h) = (rest_on text u v l.0 (turn_rest (innermost opened) e u v (then.On next) utf8 h), λ rest s. l.1 rest (goes_on h s))

pub leads_in : (text u v : List ℕ) (opened : List Braces) (e : Expected) → Leads text opened e u → Turned opened e u (then.Opens, v) → Leads text (opened ++ new_braces ∷ []) expected.Item v
leads_in text u v opened e l (utf8, h) = (rest_on text u v l.0 (turn_rest (innermost opened) e u v then.Opens utf8 h), λ rest s. l.1 rest (opens h s))

pub leads_holding : (text u v : List ℕ) (opened : List Braces) (b : Braces) (e next : Expected) → Leads text opened e u → Turned opened e u (then.Holds b next, v) → Leads text (outer opened ++ b ∷ []) next v
leads_holding text u v opened b e next l (utf8, h) = (rest_on text u v l.0 (turn_rest (innermost opened) e u v (then.Holds b next) utf8 h), λ rest s. l.1 rest (holds h s))

pub leads_out : (text u v : List ℕ) (opened : List Braces) (e : Expected) → Leads text opened e u → Turned opened e u (then.Closes, v) → Leads text (outer opened) (expected.Behind false) v
leads_out text u v opened e l (utf8, h) = (rest_on text u v l.0 (turn_rest (innermost opened) e u v then.Closes utf8 h), λ rest s. l.1 rest (closes h s))

pub fault_rest : (text u v : List ℕ) (opened : List Braces) (e : Expected) → Leads text opened e u → Turned opened e u (then.Fault, v) → IsRest text v
fault_rest text u v opened e l (utf8, h) = rest_on text u v l.0 (turn_rest (innermost opened) e u v then.Fault utf8 h)

rest_drop : (text v : List ℕ) → IsRest text v → drop (length text - length v) text ≡ v
rest_drop text v r =
    ap (λ x. drop (length text - length v) x) r.1 ∙ drop_at r.0 v (length text - length v) (omega (arith, ap (λ x. length x) r.1, length-append r.0 v))

pub leads_to_fault : (text u v : List ℕ) (opened : List Braces) (e : Expected) → IsUtf8 v → Leads text opened e u → Turned opened e u (then.Fault, v) → IsFaultPlace text (length text - length v)
leads_to_fault text u v opened e ends l (utf8, h) =
    let r = rest_on text u v l.0 (turn_rest (innermost opened) e u v then.Fault utf8 h) in
    let same = rest_drop text v r in
    record {
      within = omega arith;
      boundary = IsCharBoundary-from_drop text (length text - length v) (omega arith) (subst IsUtf8 (sym same) ends);
      stops = l.1 (drop (length text - length v) text) (at_fault (h ∙ ap (λ x. (then.Fault, x)) (sym same)));
    }

-- How much is left for the turns.
abbrev pub left : List ℕ → Expected → ℕ
left u e = 3 * length u + rank e

falls : (u v : List ℕ) (t : Then) (o : Option Braces) (e : Expected) → IsUtf8 (skip u) → turn o e (skip u) ≡ (t, v) → Falls (left u e) (length v) t
falls u v t o e utf8 h = longer t (subst (λ p. Falls (3 * length (skip u) + rank e) (length p.1) p.0) h (turn_takes o e (skip u) utf8).1)
  where
    less : length (skip u) ≤ length u
    less = rest_le u (skip u) (run_rest is_space u)

    longer : (s : Then) → Falls (3 * length (skip u) + rank e) (length v) s → Falls (left u e) (length v) s
    longer (then.On x) f = omega (arith, less, f)
    longer then.Opens f = omega (arith, less, f)
    longer (then.Holds b x) f = omega (arith, less, f)
    longer then.Closes f = omega (arith, less, f)
    longer then.Fault f = tt

pub falls_on : (u v : List ℕ) (opened : List Braces) (e next : Expected) → Turned opened e u (then.On next, v) → left v next < left u e
falls_on u v opened e next (utf8, h) = falls u v (then.On next) (innermost opened) e utf8 h

pub falls_in : (u v : List ℕ) (opened : List Braces) (e : Expected) → Turned opened e u (then.Opens, v) → left v expected.Item < left u e
falls_in u v opened e (utf8, h) = falls u v then.Opens (innermost opened) e utf8 h

pub falls_holding : (u v : List ℕ) (opened : List Braces) (b : Braces) (e next : Expected) → Turned opened e u (then.Holds b next, v) → left v next < left u e
falls_holding u v opened b e next (utf8, h) = falls u v (then.Holds b next) (innermost opened) e utf8 h

pub falls_out : (u v : List ℕ) (opened : List Braces) (e : Expected) → Turned opened e u (then.Closes, v) → left v (expected.Behind false) < left u e
falls_out u v opened e (utf8, h) = falls u v then.Closes (innermost opened) e utf8 h
