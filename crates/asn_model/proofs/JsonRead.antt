-- A JSON text that is UTF-8 gives a value that can be held.
use Rattle.std.proofs.Common.{◌≡◌, refl, ap, subst, arith, ℕ, zero, suc, pos, neg_ℤ, negsuc, ◌^◌, ◌-◌, List, [], ◌∷◌, drop, length, Bool, true, false, ◌&&◌, ◌==◌, nat_lt, nat_le, if◌then◌else◌, Ordering, Less, Equal, Greater, nat_cmp, Option, Some, None}
use Rattle.std.specs.Cmp.Lexicographic.{slice_cmp}
use Rattle.std.specs.Float.{binary64, float_is_finite}
use Rattle.std.specs.List.{AllByRecursion}
use Rattle.std.specs.Ordering.{match_ordering}
use Rattle.std.specs.Prelude.{option_and_then, option_map, slice_index}
use Rattle.std.specs.Str.{IsUtf8, is_utf8}
use Rattle.std.proofs.lemmas.Bool.{leb-true}
use Rattle.std.proofs.lemmas.Int.{ints}
use Rattle.std.specs.Float.Numeral.{Parts, minus, nearest_float, numeral_digits, scan_numeral}
use Rattle.json.specs.Json as json
use Rattle.json.specs.Json.{Parse, after_end_array, items, items_step, members, members_step, parse_map, read_key, value, value_with}
use Rattle.json.specs.Lex.{tokens}
use Rattle.json.specs.Token.{Token}
use Rattle.serde_json.specs.Data.{Data, Items, Members, Num, put}
use Rattle.serde_json.specs.Read.{float_of, is_integer, max_depth, number_from, number_of, of_items, of_json, of_members, read}
use Rattle.asn_model.specs.HeldJson.{are_items_held, are_members_held, is_held, is_held_number}
use Rattle.asn_model.proofs.JsonStrings.{IsTokenUtf8, map-some, then-some, tokens-utf8}
use Rattle.asn_model.proofs.Nesting.{no_list, same_some}
use Rattle.asn_model.proofs.Ranges.{between}
use Rattle.asn_model.proofs.Readables.{and-both, and-left, and-right}

abbrev mutual
  -- The strings of a JSON value are UTF-8.
  IsSound : json.Json → Type 0
  IsSound (json.Json.string s) = is_utf8 s ≡ true
  IsSound (json.Json.array js) = AreItemsSound js
  IsSound (json.Json.object ms) = AreMembersSound ms
  IsSound _ = Unit {0}

  AreItemsSound : json.Items → Type 0
  AreItemsSound json.Items.no_items = Unit {0}
  AreItemsSound (json.Items.item j js) = IsSound j × AreItemsSound js

  AreMembersSound : json.Members → Type 0
  AreMembersSound json.Members.no_members = Unit {0}
  AreMembersSound (json.Members.member k j ms) = IsSound j × AreMembersSound ms

abbrev AllUtf8 : List Token → Type 0
AllUtf8 ts = AllByRecursion IsTokenUtf8 ts

-- Of tokens whose strings are UTF-8 a parser makes what is so, and leaves such tokens.
abbrev Keeps : {A : Type 0} → (A → Type 0) → Parse A → Type 0
Keeps {A} P parse = (ts : List Token) (a : A) (r : List Token) → parse ts ≡ Some (a, r) → AllUtf8 ts → P a × AllUtf8 r

mapped : {A B : Type 0} (P : A → Type 0) (Q : B → Type 0) (f : A → B) (o : Option (A × List Token)) {b : B} {r : List Token} → ((a : A) → P a → Q (f a)) → ((a : A) (s : List Token) → o ≡ Some (a, s) → P a × AllUtf8 s) → parse_map f o ≡ Some (b, r) → Q b × AllUtf8 r
mapped {A} {B} P Q f o {b} {r} make had e =
    let p = map-some (λ (p : A × List Token). (f p.0, p.1)) o e in
    let h = had p.0.0 p.0.1 p.1 in
    (subst Q (ap (λ (q : B × List Token). q.0) p.2) (make p.0.0 h.0), subst AllUtf8 (ap (λ (q : B × List Token). q.1) p.2) h.1)

same_read : {j : json.Json} {r : List Token} (k : json.Json) (s : List Token) → ◌≡◌ {A = json.Json × List Token} (k, s) (j, r) → IsSound k → AllUtf8 s → IsSound j × AllUtf8 r
same_read k s e h all = (subst IsSound (ap (λ (p : json.Json × List Token). p.0) e) h, subst AllUtf8 (ap (λ (p : json.Json × List Token). p.1) e) all)

with-keeps : (a : Parse json.Items) (o : Parse json.Members) → Keeps AreItemsSound a → Keeps AreMembersSound o → Keeps IsSound (value_with a o)
with-keeps a o ka ko [] j r e h = no_list e
with-keeps a o ka ko (Token.begin_object ∷ ts) j r e h = mapped AreMembersSound IsSound json.Json.object (o ts) (λ ms k. k) (λ ms s f. ko ts ms s f h.1) e
with-keeps a o ka ko (Token.end_object ∷ ts) j r e h = no_list e
with-keeps a o ka ko (Token.begin_array ∷ ts) j r e h = mapped AreItemsSound IsSound json.Json.array (a ts) (λ js k. k) (λ js s f. ka ts js s f h.1) e
with-keeps a o ka ko (Token.end_array ∷ ts) j r e h = no_list e
with-keeps a o ka ko (Token.key s ∷ ts) j r e h = no_list e
with-keeps a o ka ko (Token.string s ∷ ts) j r e h = same_read (json.Json.string s) ts (same_some e) h.0 h.1
with-keeps a o ka ko (Token.number s ∷ ts) j r e h = same_read (json.Json.number s) ts (same_some e) tt h.1
with-keeps a o ka ko (Token.boolean b ∷ ts) j r e h = same_read (json.Json.boolean b) ts (same_some e) tt h.1
with-keeps a o ka ko (Token.null ∷ ts) j r e h = same_read json.Json.null ts (same_some e) tt h.1
with-keeps a o ka ko (Token.bad ∷ ts) j r e h = no_list e

-- What follows the end of an array, and a key with what follows it.
end-keeps : (ts r : List Token) → after_end_array ts ≡ Some r → AllUtf8 ts → AllUtf8 r
end-keeps (Token.end_array ∷ ts) r e h = subst AllUtf8 (same_some e) h.1
end-keeps [] r e h = no_list e
end-keeps (Token.begin_object ∷ ts) r e h = no_list e
end-keeps (Token.end_object ∷ ts) r e h = no_list e
end-keeps (Token.begin_array ∷ ts) r e h = no_list e
end-keeps (Token.key s ∷ ts) r e h = no_list e
end-keeps (Token.string s ∷ ts) r e h = no_list e
end-keeps (Token.number s ∷ ts) r e h = no_list e
end-keeps (Token.boolean b ∷ ts) r e h = no_list e
end-keeps (Token.null ∷ ts) r e h = no_list e
end-keeps (Token.bad ∷ ts) r e h = no_list e

key-keeps : Keeps (λ k. Unit {0}) read_key
key-keeps (Token.end_object ∷ ts) k r e h = (tt, subst AllUtf8 (ap (λ (p : Option (List ℕ) × List Token). p.1) (same_some e)) h.1)
key-keeps (Token.key s ∷ ts) k r e h = (tt, subst AllUtf8 (ap (λ (p : Option (List ℕ) × List Token). p.1) (same_some e)) h.1)
key-keeps [] k r e h = no_list e
key-keeps (Token.begin_object ∷ ts) k r e h = no_list e
key-keeps (Token.begin_array ∷ ts) k r e h = no_list e
key-keeps (Token.end_array ∷ ts) k r e h = no_list e
key-keeps (Token.string s ∷ ts) k r e h = no_list e
key-keeps (Token.number s ∷ ts) k r e h = no_list e
key-keeps (Token.boolean b ∷ ts) k r e h = no_list e
key-keeps (Token.null ∷ ts) k r e h = no_list e
key-keeps (Token.bad ∷ ts) k r e h = no_list e

items-keep : (p : Parse json.Json) → Keeps IsSound p → (n : ℕ) → Keeps AreItemsSound (items p n)
unfolding items
items-keep p kp zero ts js r e h = no_list e
items-keep p kp (suc n) ts js r e h = by (λ s f k. items-keep p kp n s f k) (after_end_array ts) refl e
  where
    by : Keeps AreItemsSound (items p n) → (o : Option (List Token)) → after_end_array ts ≡ o → items_step p (items p n) ts o ≡ Some (js, r) → AreItemsSound js × AllUtf8 r
    by more (Some s) f g = (subst AreItemsSound (ap (λ (q : json.Items × List Token). q.0) (same_some g)) tt, subst AllUtf8 (ap (λ (q : json.Items × List Token). q.1) (same_some g)) (end-keeps ts s f h))
    by more None f g =
        let q = then-some (λ (q : json.Json × List Token). parse_map (json.Items.item q.0) (items p n q.1)) (p ts) g in
        let k = kp ts q.0.0 q.0.1 q.1 h in
        mapped AreItemsSound AreItemsSound (json.Items.item q.0.0) (items p n q.0.1) (λ ks m. (k.0, m)) (λ ks s l. more q.0.1 ks s l k.1) q.2

members-keep : (p : Parse json.Json) → Keeps IsSound p → (n : ℕ) → Keeps AreMembersSound (members p n)
unfolding members
members-keep p kp zero ts ms r e h = no_list e
members-keep p kp (suc n) ts ms r e h =
    let q = then-some (λ (q : Option (List ℕ) × List Token). members_step p (members p n) q.0 q.1) (read_key ts) e in
    let k = key-keeps ts q.0.0 q.0.1 q.1 h in
    by (λ s f t. members-keep p kp n s f t) q.0.0 q.0.1 k.1 q.2
  where
    by : Keeps AreMembersSound (members p n) → (k : Option (List ℕ)) (s : List Token) → AllUtf8 s → members_step p (members p n) k s ≡ Some (ms, r) → AreMembersSound ms × AllUtf8 r
    by more None s all g = (subst AreMembersSound (ap (λ (q : json.Members × List Token). q.0) (same_some g)) tt, subst AllUtf8 (ap (λ (q : json.Members × List Token). q.1) (same_some g)) all)
    by more (Some k) s all g =
        let q = then-some (λ (q : json.Json × List Token). parse_map (json.Members.member k q.0) (members p n q.1)) (p s) g in
        let j = kp s q.0.0 q.0.1 q.1 all in
        mapped AreMembersSound AreMembersSound (json.Members.member k q.0.0) (members p n q.0.1) (λ ks m. (j.0, m)) (λ ks t l. more q.0.1 ks t l j.1) q.2

value-keeps : (n : ℕ) → Keeps IsSound (value n)
unfolding value
value-keeps zero ts j r e h = with-keeps (λ ts. None) (λ ts. None) (λ s a t f k. no_list f) (λ s a t f k. no_list f) ts j r e h
value-keeps (suc n) ts j r e h =
    with-keeps (λ ts. items (value n) (length ts) ts) (λ ts. members (value n) (length ts) ts)
    (λ s a t f k. items-keep (value n) (value-keeps n) (length s) s a t f k) (λ s a t f k. members-keep (value n) (value-keeps n) (length s) s a t f k) ts j r e h

-- A whole number of a text has 64 bits.
float-held : (sign : Bool) (p : Parts) (n : Num) → float_of sign p ≡ Some n → is_held_number n ≡ true
float-held sign p n e = by (float_is_finite (nearest_float binary64 sign p)) e
  where
    by : (b : Bool) → (if b then Some (Num.float (nearest_float binary64 sign p)) else None) ≡ Some n → is_held_number n ≡ true
    by true f = subst (λ m. is_held_number m ≡ true) (same_some f) refl
    by false f = no_list f

negative-held : (d : ℕ) → nat_lt 0 d ≡ true → nat_le d (2 ^ 63) ≡ true → is_held_number (Num.negative (neg_ℤ (pos d))) ≡ true
negative-held zero l h = let k : false ≡ true = l in cc k
negative-held (suc m) l h = between (negsuc (2 ^ 63 - 1)) (negsuc 0) (negsuc m) (omega (arith, ints, leb-true (suc m) (2 ^ 63) h)) (omega (arith, ints))

from-held : (sign : Bool) (p : Parts) (n : Num) → number_from sign p ≡ Some n → is_held_number n ≡ true
from-held false p n e = by (is_integer p && nat_lt (numeral_digits p) (2 ^ 64)) refl e
  where
    by : (b : Bool) → (is_integer p && nat_lt (numeral_digits p) (2 ^ 64)) ≡ b → (if b then Some (Num.unsigned (numeral_digits p)) else float_of false p) ≡ Some n → is_held_number n ≡ true
    by true f g = subst (λ m. is_held_number m ≡ true) (same_some g) (and-right (is_integer p) (nat_lt (numeral_digits p) (2 ^ 64)) f)
    by false f g = float-held false p n g
from-held true p n e = by (is_integer p && nat_lt 0 (numeral_digits p) && nat_le (numeral_digits p) (2 ^ 63)) refl e
  where
    by : (b : Bool) → (is_integer p && nat_lt 0 (numeral_digits p) && nat_le (numeral_digits p) (2 ^ 63)) ≡ b → (if b then Some (Num.negative (neg_ℤ (pos (numeral_digits p)))) else float_of true p) ≡ Some n → is_held_number n ≡ true
    by true f g =
        subst (λ m. is_held_number m ≡ true) (same_some g)
        (negative-held (numeral_digits p) (and-right (is_integer p) (nat_lt 0 (numeral_digits p)) (and-left (is_integer p && nat_lt 0 (numeral_digits p)) (nat_le (numeral_digits p) (2 ^ 63)) f)) (and-right (is_integer p && nat_lt 0 (numeral_digits p)) (nat_le (numeral_digits p) (2 ^ 63)) f))
    by false f g = float-held true p n g

number-held : (s : List ℕ) (n : Num) → number_of s ≡ Some n → is_held_number n ≡ true
unfolding number_of
number-held s n e = by (slice_index s 0 == minus) e
  where
    by : (b : Bool) → (if b then number_from true (scan_numeral (drop 1 s)) else number_from false (scan_numeral s)) ≡ Some n → is_held_number n ≡ true
    by true f = from-held true (scan_numeral (drop 1 s)) n f
    by false f = from-held false (scan_numeral s) n f

ordered-held : (o : Ordering) (a b c : Members) → are_members_held a ≡ true → are_members_held b ≡ true → are_members_held c ≡ true → are_members_held (match_ordering o a b c) ≡ true
ordered-held Less a b c p q r = p
ordered-held Equal a b c p q r = q
ordered-held Greater a b c p q r = r

put-held : (k : List ℕ) (d : Data) (ms : Members) → is_held d ≡ true → are_members_held ms ≡ true → are_members_held (put k d ms) ≡ true
put-held k d Members.no_members p q = and-both _ _ p refl
put-held k d (Members.member l e ms) p q =
    let others = and-right (is_held e) (are_members_held ms) q in
    ordered-held (slice_cmp nat_cmp k l) (Members.member k d (Members.member l e ms)) (Members.member l d ms) (Members.member l e (put k d ms)) (and-both _ _ p q) (and-both _ _ p others)
    (and-both _ _ (and-left (is_held e) (are_members_held ms) q) (put-held k d ms p others))

mutual
  json-held : (j : json.Json) (d : Data) → of_json j ≡ Some d → IsSound j → is_held d ≡ true
  json-held json.Json.null d e h = subst (λ x. is_held x ≡ true) (same_some e) refl
  json-held (json.Json.boolean b) d e h = subst (λ x. is_held x ≡ true) (same_some e) refl
  json-held (json.Json.number s) d e h = let n = map-some Data.number (number_of s) e in subst (λ x. is_held x ≡ true) n.2 (number-held s n.0 n.1)
  json-held (json.Json.string s) d e h = subst (λ x. is_held x ≡ true) (same_some e) h
  json-held (json.Json.array js) d e h = let n = map-some Data.array (of_items js) e in subst (λ x. is_held x ≡ true) n.2 (items-held js n.0 n.1 h)
  json-held (json.Json.object ms) d e h = let n = map-some Data.object (of_members ms Members.no_members) e in subst (λ x. is_held x ≡ true) n.2 (members-held ms Members.no_members n.0 n.1 h refl)

  items-held : (js : json.Items) (ds : Items) → of_items js ≡ Some ds → AreItemsSound js → are_items_held ds ≡ true
  items-held json.Items.no_items ds e h = subst (λ x. are_items_held x ≡ true) (same_some e) refl
  items-held (json.Items.item j js) ds e h =
      let d = then-some (λ d. option_map (Items.item d) (of_items js)) (of_json j) e in
      let n = map-some (Items.item d.0) (of_items js) d.2 in
      subst (λ x. are_items_held x ≡ true) n.2 (and-both _ _ (json-held j d.0 d.1 h.0) (items-held js n.0 n.1 h.1))

  members-held : (ms : json.Members) (found out : Members) → of_members ms found ≡ Some out → AreMembersSound ms → are_members_held found ≡ true → are_members_held out ≡ true
  members-held json.Members.no_members found out e h held = subst (λ x. are_members_held x ≡ true) (same_some e) held
  members-held (json.Members.member k j ms) found out e h held =
      let d = then-some (λ d. of_members ms (put k d found)) (of_json j) e in
      members-held ms (put k d.0 found) out d.2 h.1 (put-held k d.0 found (json-held j d.0 d.1 h.0) held)

-- Nothing follows the value of a text.
last-sound : (j k : json.Json) (r : List Token) → json.if_last j r ≡ Some k → IsSound j → IsSound k
last-sound j k [] e h = subst IsSound (same_some e) h
last-sound j k (t ∷ r) e h = no_list e

pub text-held : (text : List ℕ) (d : Data) → IsUtf8 text → read text ≡ Some d → is_held d ≡ true
text-held text d u e =
    let j = then-some of_json (option_and_then (λ (p : json.Json × List Token). json.if_last p.0 p.1) (value max_depth (tokens text))) e in
    let p = then-some (λ (p : json.Json × List Token). json.if_last p.0 p.1) (value max_depth (tokens text)) j.1 in
    let k = value-keeps max_depth (tokens text) p.0.0 p.0.1 p.1 (tokens-utf8 text u) in
    json-held j.0 d j.2 (last-sound p.0.0 j.0 p.0.1 p.2 k.0)
