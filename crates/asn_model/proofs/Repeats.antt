-- Keys that stand twice in a list, by a set of those before.
use Rattle.std.proofs.Common.{◌≡◌, ◌≤◌, ℕ, ◌+◌, ◌<◌, List, [], ◌∷◌, ◌++◌, map, Bool, true, false, not, if◌then◌else◌, refl, sym, ap, ◌∙◌, get_or, take, drop, length, drop-cons, append-nil, take_all, nat_eq, ◌&&◌, suc}
use Rattle.std.proofs.lemmas.List.{take_more, take-append-drop, map-append}
use Rattle.std.proofs.Math.ListN.{get_or-map}
use Rattle.std.specs.Borrow.{Bor}
use Rattle.std.specs.Cmp.Lexicographic.{nat_list_eq_equiv}
use Rattle.std.proofs.lemmas.Cmp.{nat_eq_equiv}
use Rattle.std.specs.HashSet.{HashSet, UpdatesBy, contains}
use Rattle.std.specs.List.{list_any}
use Rattle.std.specs.Str.{bytes_eq}
use Rattle.std.specs.Char.{to_ascii_lowercase}
use Rattle.asn_core.specs.declared.tag.Tag.{Tag}
use Rattle.asn_model.specs.Readable.{differ_ignoring_case, has_identifier}
use Rattle.asn_model.specs.Shape.{is_item, are_distinct, class_number, has_tag, tag_eq, tags_distinct}

nested : (a b c : Bool) → (if a then true else if b then true else c) ≡ (if if a then true else b then true else c)
nested true b c = refl
nested false b c = refl

swapped : (a b : Bool) → (if a then true else b) ≡ (if b then true else if a then true else false)
swapped true true = refl
swapped true false = refl
swapped false true = refl
swapped false false = refl

neither : (a b : Bool) → (if a then true else b) ≡ false → (a ≡ false) × (b ≡ false)
neither true b e = let d : true ≡ false = e in cc d
neither false b e = (refl, e)

both_hold : (a b : Bool) → (if a then false else b) ≡ true → (a ≡ false) × (b ≡ true)
both_hold true b e = let d : false ≡ true = e in cc d
both_hold false b e = (refl, e)

last_true : (a b : Bool) → b ≡ true → (if a then true else b) ≡ true
last_true true b e = refl
last_true false b e = e

last_false : (a b : Bool) → b ≡ false → (if a then false else b) ≡ false
last_false true b e = refl
last_false false b e = e

not_true : (b : Bool) → not b ≡ true → b ≡ false
not_true false e = refl
not_true true e = let d : false ≡ true = e in cc d

not_false : (b : Bool) → not b ≡ false → b ≡ true
not_false true e = refl
not_false false e = let d : true ≡ false = e in cc d

module _ {K : Type 0} (eq : K → K → Bool) (symm : (x y : K) → eq x y ≡ eq y x) where
  -- One of the keys is equal to this one.
  abbrev pub has : List K → K → Bool
  has [] x = false
  has (k ∷ ks) x = if eq k x then true else has ks x

  -- No key stands twice.
  abbrev pub differ : List K → Bool
  differ [] = true
  differ (k ∷ ks) = if has ks k then false else differ ks

  has_append : (ks ls : List K) (x : K) → has (ks ++ ls) x ≡ (if has ks x then true else has ls x)
  has_append [] ls x = refl
  has_append (k ∷ ks) ls x = ap (λ b. if eq k x then true else b) (has_append ks ls x) ∙ nested (eq k x) (has ks x) (has ls x)

  differ_more : (ks : List K) (x : K) → differ ks ≡ true → has ks x ≡ false → differ (ks ++ x ∷ []) ≡ true
  differ_more [] x d h = refl
  differ_more (k ∷ ks) x d h =
      let held = both_hold (has ks k) (differ ks) d in
      let new = neither (eq k x) (has ks x) h in
      let apart : has (ks ++ x ∷ []) k ≡ false = has_append ks (x ∷ []) k ∙ ap (λ b. if b then true else if eq x k then true else false) held.0 ∙ ap (λ b. if b then true else false) (symm x k ∙ new.0) in
      ap (λ b. if b then false else differ (ks ++ x ∷ [])) apart ∙ differ_more ks x held.1 new.1

  repeats : (ks : List K) (x : K) (ls : List K) → has ks x ≡ true → differ (ks ++ x ∷ ls) ≡ false
  repeats [] x ls h = let d : false ≡ true = h in cc d
  repeats (k ∷ ks) x ls h = by (eq k x) refl (repeats ks x ls)
    where
      by : (b : Bool) → eq k x ≡ b → (has ks x ≡ true → differ (ks ++ x ∷ ls) ≡ false) → differ ((k ∷ ks) ++ x ∷ ls) ≡ false
      by true e later =
          ap (λ b. if b then false else differ (ks ++ x ∷ ls))
          (has_append ks (x ∷ ls) k ∙ last_true (has ks k) (has (x ∷ ls) k) (ap (λ b. if b then true else has ls k) (symm x k ∙ e)))
      by false e later = last_false (has (ks ++ x ∷ ls) k) _ (later (ap (λ b. if b then true else has ks x) (sym e) ∙ h))

  -- The set has these keys.
  abbrev pub Knows : {S : Type 0} → HashSet K S → List K → Type 0
  Knows seen ks = (q : K) → contains eq seen q ≡ has ks q

  -- The keys before the place are distinct, and the set has them.
  pub record AreNew {S : Type 0} (seen : HashSet K S) (ks : List K) (i : ℕ) : Type 0 where
    pub known : Knows seen (take i ks)
    pub new : differ (take i ks) ≡ true

  -- An empty set has none.
  pub none_new : {S : Type 0} (seen : HashSet K S) (ks : List K) → seen.keys ≡ [] → AreNew seen ks 0
  none_new seen ks e = record { known = λ q. ap (list_any (λ y. eq q y)) e; new = refl }

  -- So for the next place, where the set had no such key.
  pub one_new : {S : Type 0} (old new : HashSet K S) (ks : List K) (i : ℕ) (k d : K) (added : Bool) → i < length ks → k ≡ get_or ks i d → AreNew old ks i
      → added ≡ not (contains eq old k) → added ≡ true → UpdatesBy eq (eq k) old new true → AreNew new ks (i + 1)
  one_new old new ks i k d added h at are a t updates =
      let more : take (i + 1) ks ≡ take i ks ++ k ∷ [] = take_more ks i d h ∙ ap (λ x. take i ks ++ x ∷ []) (sym at) in record {
        known = λ q. updates.0 q ∙ ap (λ b. if eq k q then true else b) (are.known q) ∙ swapped (eq k q) (has (take i ks) q) ∙ sym (has_append (take i ks) (k ∷ []) q) ∙ ap (λ l. has l q) (sym more);
        new = ap differ more ∙ differ_more (take i ks) k are.new (sym (are.known k) ∙ not_true _ (sym a ∙ t));
      }

  -- A key that the set had stands twice.
  pub one_known : {S : Type 0} (seen : HashSet K S) (ks : List K) (i : ℕ) (k d : K) (added : Bool) → i < length ks → k ≡ get_or ks i d → AreNew seen ks i
      → added ≡ not (contains eq seen k) → added ≡ false → differ ks ≡ false
  one_known seen ks i k d added h at are a f =
      ap differ (sym (take-append-drop i ks) ∙ ap (λ l. take i ks ++ l) (drop-cons ks i d h ∙ ap (λ x. x ∷ drop (suc i) ks) (sym at)))
      ∙ repeats (take i ks) k (drop (suc i) ks) (sym (are.known k) ∙ not_false _ (sym a ∙ f))

  -- All are distinct, where those before the end are.
  pub all_new : {S : Type 0} (seen : HashSet K S) (ks : List K) (i : ℕ) → length ks ≤ i → AreNew seen ks i → differ ks ≡ true
  all_new seen ks i h are = ap differ (sym (take_all i ks h)) ∙ are.new

-- Whether texts are the same.
abbrev pub same_text : Bor (List ℕ) → Bor (List ℕ) → Bool
same_text x y = bytes_eq x.now y.now

pub same_text_symm : (x y : Bor (List ℕ)) → same_text x y ≡ same_text y x
same_text_symm x y = nat_list_eq_equiv.symm x.now y.now

has_item : (ts : List (Bor (List ℕ))) (x : Bor (List ℕ)) → has same_text same_text_symm ts x ≡ is_item (map (λ t. t.now) ts) x.now
has_item [] x = refl
has_item (t ∷ ts) x = ap (λ b. if b then true else has same_text same_text_symm ts x) (same_text_symm t x) ∙ ap (λ b. if same_text x t then true else b) (has_item ts x)

-- Texts that differ are distinct names.
pub differ_distinct : (ts : List (Bor (List ℕ))) → differ same_text same_text_symm ts ≡ are_distinct (map (λ t. t.now) ts)
differ_distinct [] = refl
differ_distinct (t ∷ ts) =
    ap (λ b. if b then false else differ same_text same_text_symm ts) (has_item ts t) ∙ ap (λ b. if is_item (map (λ t. t.now) ts) t.now then false else b) (differ_distinct ts)

has_lowered : (ns : List (List ℕ)) (n : List ℕ) → has_identifier ns n ≡ is_item (map (map to_ascii_lowercase) ns) (map to_ascii_lowercase n)
has_lowered [] n = refl
has_lowered (m ∷ ns) n =
    let a = map to_ascii_lowercase m in
    let b = map to_ascii_lowercase n in
    ap (λ x. if x then true else has_identifier ns n) (nat_list_eq_equiv.symm a b) ∙ ap (λ x. if bytes_eq b a then true else x) (has_lowered ns n)

-- Names that differ in more than case are distinct in lower case.
lowered_distinct : (ns : List (List ℕ)) → differ_ignoring_case ns ≡ are_distinct (map (map to_ascii_lowercase) ns)
lowered_distinct [] = refl
lowered_distinct (n ∷ ns) =
    ap (λ b. if b then false else differ_ignoring_case ns) (has_lowered ns n) ∙ ap (λ b. if is_item (map (map to_ascii_lowercase) ns) (map to_ascii_lowercase n) then false else b) (lowered_distinct ns)

-- So are those of two lists, by a list of both in lower case.
pub both_lowered : (lowered ns ms : List (List ℕ)) → lowered ≡ map (map to_ascii_lowercase) ns ++ map (map to_ascii_lowercase) ms → are_distinct (lowered ++ []) ≡ differ_ignoring_case (ns ++ ms)
both_lowered lowered ns ms e = ap are_distinct (append-nil lowered ∙ e ∙ sym (map-append (map to_ascii_lowercase) ns ms)) ∙ sym (lowered_distinct (ns ++ ms))

-- Whether the pairs have the same numbers.
abbrev pub same_pair : ℕ × ℕ → ℕ × ℕ → Bool
same_pair x y = nat_eq x.0 y.0 && nat_eq x.1 y.1

pub same_pair_symm : (x y : ℕ × ℕ) → same_pair x y ≡ same_pair y x
same_pair_symm x y = ap (λ b. b && nat_eq x.1 y.1) (nat_eq_equiv.symm x.0 y.0) ∙ ap (λ b. nat_eq y.0 x.0 && b) (nat_eq_equiv.symm x.1 y.1)

-- The numbers of a tag.
abbrev pub tag_pair : Tag → ℕ × ℕ
tag_pair t = (class_number t.class, t.value)

has_pair : (ts : List Tag) (t : Tag) → has same_pair same_pair_symm (map tag_pair ts) (tag_pair t) ≡ has_tag ts t
has_pair [] t = refl
has_pair (u ∷ ts) t = ap (λ b. if tag_eq u t then true else b) (has_pair ts t)

-- Tags whose numbers differ are distinct.
pub pairs_distinct : (ts : List Tag) → differ same_pair same_pair_symm (map tag_pair ts) ≡ tags_distinct ts
pairs_distinct [] = refl
pairs_distinct (t ∷ ts) =
    ap (λ b. if b then false else differ same_pair same_pair_symm (map tag_pair ts)) (has_pair ts t) ∙ ap (λ b. if has_tag ts t then false else b) (pairs_distinct ts)

-- The numbers of the tag at a place.
pub pair_at : (ts : List Tag) (i : ℕ) (d : Tag) (n : ℕ) → n ≡ class_number (get_or ts i d).class → (n, (get_or ts i d).value) ≡ get_or (map tag_pair ts) i (tag_pair d)
pair_at ts i d n e = ap (λ m. (m, (get_or ts i d).value)) e ∙ sym (get_or-map tag_pair ts i d)
