-- Which name stands twice.
use Rattle.std.proofs.Common.{◌≡◌, ◌≤◌, ℕ, ◌+◌, ◌<◌, List, [], ◌∷◌, ◌++◌, map, Bool, true, false, not, if◌then◌else◌, Option, Some, None, refl, sym, ap, ◌∙◌, get_or, take, drop, length, zero, suc, arith}
use Rattle.std.proofs.lemmas.List.{take_more, drop_all, map-append}
use Rattle.std.specs.Borrow.{Bor}
use Rattle.std.specs.Cmp.Lexicographic.{nat_list_eq_equiv}
use Rattle.std.specs.HashSet.{HashSet, UpdatesBy, contains}
use Rattle.std.specs.List.{list_any}
use Rattle.std.specs.Str.{bytes_eq}
use Rattle.asn_model.specs.Shape.{is_item}
use Rattle.asn_modules_names.specs.Mentions.{Mention, mention_view, name_of}
use Rattle.asn_modules_names.specs.Repeats.{repeated_behind}
use Rattle.asn_modules_names.specs.declared.mention.Mention as code
use Rattle.asn_modules_names.proofs.Founds.{drop_at}

-- The set has these names.
abbrev pub Knows : {S : Type 0} → HashSet (Bor (List ℕ)) S → List (List ℕ) → Type 0
Knows seen names = (q : Bor (List ℕ)) → contains (λ x y. bytes_eq x.now y.now) seen q ≡ is_item names q.now

either : (a b c : Bool) → (if a then true else if b then true else c) ≡ (if b then true else if a then true else c)
either true true c = refl
either true false c = refl
either false true c = refl
either false false c = refl

item_more : (ns : List (List ℕ)) (n q : List ℕ) → (if bytes_eq n q then true else is_item ns q) ≡ is_item (ns ++ n ∷ []) q
item_more [] n q = ap (λ b. if b then true else false) (nat_list_eq_equiv.symm n q)
item_more (m ∷ ns) n q = either (bytes_eq n q) (bytes_eq q m) (is_item ns q) ∙ ap (λ b. if bytes_eq q m then true else b) (item_more ns n q)

-- One more name.
pub knows_more : {S : Type 0} (old new : HashSet (Bor (List ℕ)) S) (names more : List (List ℕ)) (k : Bor (List ℕ)) (n : List ℕ) → Knows old names → k.now ≡ n → more ≡ names ++ n ∷ []
    → UpdatesBy (λ x y. bytes_eq x.now y.now) (λ y. bytes_eq k.now y.now) old new true → Knows new more
knows_more old new names more k n known e m updates = λ q.
    updates.0 q ∙ ap (λ b. if bytes_eq k.now q.now then true else b) (known q) ∙ ap (λ x. if bytes_eq x q.now then true else is_item names q.now) e ∙ item_more names n q.now ∙ ap (λ l. is_item l q.now) (sym m)

not_false : (b : Bool) → not b ≡ false → b ≡ true
not_false true e = refl
not_false false e = let x : ⊥ = cc in absurd x

not_true : (b : Bool) → not b ≡ true → b ≡ false
not_true false e = refl
not_true true e = let x : ⊥ = cc in absurd x

-- Whether the name was there, by what adding it answers.
pub was_there : {S : Type 0} (seen : HashSet (Bor (List ℕ)) S) (names : List (List ℕ)) (k : Bor (List ℕ)) (n : List ℕ) (added : Bool) → Knows seen names → k.now ≡ n
    → added ≡ not (contains (λ x y. bytes_eq x.now y.now) seen k) → added ≡ false → is_item names n ≡ true
was_there seen names k n added known e a f = ap (is_item names) (sym e) ∙ sym (known k) ∙ not_false _ (sym a ∙ f)

pub was_new : {S : Type 0} (seen : HashSet (Bor (List ℕ)) S) (names : List (List ℕ)) (k : Bor (List ℕ)) (n : List ℕ) (added : Bool) → Knows seen names → k.now ≡ n
    → added ≡ not (contains (λ x y. bytes_eq x.now y.now) seen k) → added ≡ true → is_item names n ≡ false
was_new seen names k n added known e a f = ap (is_item names) (sym e) ∙ sym (known k) ∙ not_true _ (sym a ∙ f)

get_or-same : {A : Type 0} (xs : List A) (i : ℕ) (d e : A) → i < length xs → get_or xs i d ≡ get_or xs i e
get_or-same [] i d e h = let x : ⊥ = omega (arith, h) in absurd x
get_or-same (x ∷ xs) zero d e h = refl
get_or-same (x ∷ xs) (suc i) d e h = get_or-same xs i d e (omega (arith, h))

-- The names before a place.
abbrev pub names_before : List code.Mention → ℕ → List (List ℕ)
names_before ms i = map name_of (map mention_view (take i ms))

pub before_more : (ms : List code.Mention) (i : ℕ) (m : code.Mention) → i < length ms → m ≡ get_or ms i m → names_before ms (i + 1) ≡ names_before ms i ++ name_of (mention_view m) ∷ []
before_more ms i m h e =
    ap (λ l. map name_of (map mention_view l)) (take_more ms i m h ∙ ap (λ y. take i ms ++ y ∷ []) (sym e))
    ∙ ap (map name_of) (map-append mention_view (take i ms) (m ∷ [])) ∙ map-append name_of (map mention_view (take i ms)) (mention_view m ∷ [])

-- The first that stands twice, from a place on.
abbrev pub repeated_from : List code.Mention → ℕ → Option Mention
repeated_from ms i = repeated_behind (names_before ms i) (map mention_view (drop i ms))

at_place : (ms : List code.Mention) (i : ℕ) (m : code.Mention) (b : Bool) → i < length ms → m ≡ get_or ms i m → is_item (names_before ms i) (name_of (mention_view m)) ≡ b
    → repeated_from ms i ≡ (if b then Some (mention_view m) else repeated_behind (names_before ms i ++ name_of (mention_view m) ∷ []) (map mention_view (drop (i + 1) ms)))
at_place ms i m b h e there =
    ap (λ l. repeated_behind (names_before ms i) (map mention_view l)) (drop_at ms i m h e)
    ∙ ap (λ x. if x then Some (mention_view m) else repeated_behind (names_before ms i ++ name_of (mention_view m) ∷ []) (map mention_view (drop (i + 1) ms))) there

pub repeated_here : (ms : List code.Mention) (i : ℕ) (m : code.Mention) → i < length ms → m ≡ get_or ms i m → is_item (names_before ms i) (name_of (mention_view m)) ≡ true → repeated_from ms i ≡ Some (mention_view m)
repeated_here ms i m h e there = at_place ms i m true h e there

pub repeated_later : (ms : List code.Mention) (i : ℕ) (m : code.Mention) → i < length ms → m ≡ get_or ms i m → is_item (names_before ms i) (name_of (mention_view m)) ≡ false → repeated_from ms i ≡ repeated_from ms (i + 1)
repeated_later ms i m h e there = at_place ms i m false h e there ∙ ap (λ l. repeated_behind l (map mention_view (drop (i + 1) ms))) (sym (before_more ms i m h e))

pub repeated_never : (ms : List code.Mention) (i : ℕ) → length ms ≤ i → repeated_from ms i ≡ None
repeated_never ms i h = ap (λ l. repeated_behind (names_before ms i) (map mention_view l)) (drop_all i ms h)

-- An empty set has no names.
pub knows_none : {S : Type 0} (seen : HashSet (Bor (List ℕ)) S) → seen.keys ≡ [] → Knows seen []
knows_none seen e = λ q. ap (list_any (λ y. bytes_eq q.now y.now)) e

-- Past a name that is new, the set has it, and none that stands twice was passed.
pub new_passed : {S : Type 0} (old new : HashSet (Bor (List ℕ)) S) (ms : List code.Mention) (i : ℕ) (m : code.Mention) (k : Bor (List ℕ)) (added : Bool) → i < length ms → Knows old (names_before ms i)
    → k.now ≡ name_of (mention_view (get_or ms i m)) → added ≡ not (contains (λ x y. bytes_eq x.now y.now) old k) → added ≡ true → UpdatesBy (λ x y. bytes_eq x.now y.now) (λ y. bytes_eq k.now y.now) old new true
    → repeated_from ms 0 ≡ repeated_from ms i → Knows new (names_before ms (i + 1)) × (repeated_from ms 0 ≡ repeated_from ms (i + 1))
new_passed old new ms i m k added h known e a t updates was =
    let n = get_or ms i m in
    let here : n ≡ get_or ms i n = get_or-same ms i m n h in (
      knows_more old new (names_before ms i) (names_before ms (i + 1)) k (name_of (mention_view n)) known e (before_more ms i n h here) updates,
      was ∙ repeated_later ms i n h here (was_new old (names_before ms i) k (name_of (mention_view n)) added known e a t),
    )

-- Past a name, the set has it.
pub name_kept : {S : Type 0} (old new : HashSet (Bor (List ℕ)) S) (ms : List code.Mention) (i : ℕ) (m : code.Mention) (k : Bor (List ℕ)) → i < length ms → Knows old (names_before ms i) → k.now ≡ name_of (mention_view (get_or ms i m))
    → UpdatesBy (λ x y. bytes_eq x.now y.now) (λ y. bytes_eq k.now y.now) old new true → Knows new (names_before ms (i + 1))
name_kept old new ms i m k h known e updates =
    let n = get_or ms i m in
    knows_more old new (names_before ms i) (names_before ms (i + 1)) k (name_of (mention_view n)) known e (before_more ms i n h (get_or-same ms i m n h)) updates
