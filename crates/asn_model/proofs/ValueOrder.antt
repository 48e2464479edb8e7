-- The order on values is total, and ties only what is one value: a value is told by its row.
use Rattle.std.proofs.Common.{◌≡◌, ℕ, ℤ, pos, negsuc, Bool, true, false, List, [], ◌∷◌, ◌++◌, append_assoc, Option, None, Some, refl, sym, ap, ◌∙◌, arith}
use Rattle.std.specs.Cmp.{IsTotalOrder}
use Rattle.std.specs.FinMap.{IsAntisymmetric, int_cmp-IsAntisymmetric, slice_cmp-IsAntisymmetric}
use Rattle.std.proofs.lemmas.Cmp.{on_total, lists_total, int_cmp_total}
use Rattle.asn_model.specs.Value.{Value, Values, Slots, value_row, element_row, member_row, number_row, bit_row, size_row, flag_number, value_cmp}

same_flag : (a b : Bool) → flag_number a ≡ flag_number b → a ≡ b
same_flag true true e = refl
same_flag false false e = refl
same_flag true false e = absurd (grind arith)
same_flag false true e = absurd (grind arith)

first : List ℤ → ℤ
first [] = pos 0
first (x ∷ xs) = x

rest : List ℤ → List ℤ
rest [] = []
rest (x ∷ xs) = xs

heads : (x y : ℤ) (xs ys : List ℤ) → x ∷ xs ≡ y ∷ ys → x ≡ y
unfolding first
heads x y xs ys e = ap first e

tails : (x y : ℤ) (xs ys : List ℤ) → x ∷ xs ≡ y ∷ ys → xs ≡ ys
unfolding rest
tails x y xs ys e = ap rest e

the_number : ℤ → ℕ
the_number (pos n) = n
the_number (negsuc n) = n

same_pos : (m n : ℕ) → pos m ≡ pos n → m ≡ n
unfolding the_number
same_pos m n e = ap the_number e

pub numbers_back : (m n : List ℕ) (r s : List ℤ) → number_row m ++ r ≡ number_row n ++ s → (m ≡ n) × (r ≡ s)
numbers_back [] [] r s e = (refl, tails _ _ _ _ e)
numbers_back (x ∷ xs) (y ∷ ys) r s e =
    let t = tails _ _ _ _ e in
    let h = same_pos x y (heads _ _ _ _ t) in
    let p = numbers_back xs ys r s (tails _ _ _ _ t) in
    ((λ i. h i ∷ p.0 i), p.1)
numbers_back [] (y ∷ ys) r s e = absurd (grind arith)
numbers_back (x ∷ xs) [] r s e = absurd (grind arith)

pub bits_back : (m n : List Bool) (r s : List ℤ) → bit_row m ++ r ≡ bit_row n ++ s → (m ≡ n) × (r ≡ s)
bits_back [] [] r s e = (refl, tails _ _ _ _ e)
bits_back (x ∷ xs) (y ∷ ys) r s e =
    let t = tails _ _ _ _ e in
    let h = same_flag x y (heads _ _ _ _ t) in
    let p = bits_back xs ys r s (tails _ _ _ _ t) in
    ((λ i. h i ∷ p.0 i), p.1)
bits_back [] (y ∷ ys) r s e = absurd (grind arith)
bits_back (x ∷ xs) [] r s e = absurd (grind arith)

pub size_back : (m n : Option ℕ) (r s : List ℤ) → size_row m ++ r ≡ size_row n ++ s → (m ≡ n) × (r ≡ s)
size_back None None r s e = (refl, tails _ _ _ _ e)
size_back (Some x) (Some y) r s e =
    let t = tails _ _ _ _ e in
    (ap (λ n. Some n) (same_pos x y (heads _ _ _ _ t)), tails _ _ _ _ t)
size_back None (Some y) r s e = absurd (grind arith)
size_back (Some x) None r s e = absurd (grind arith)

-- A row within a row.
split : (a b r s c d : List ℤ) → (a ++ c) ++ r ≡ (b ++ d) ++ s → a ++ (c ++ r) ≡ b ++ (d ++ s)
split a b r s c d e = sym (append_assoc a c r) ∙ e ∙ append_assoc b d s

mutual
  pub value_back : (v w : Value) (r s : List ℤ) → value_row v ++ r ≡ value_row w ++ s → (v ≡ w) × (r ≡ s)
  value_back Value.null Value.null r s e = (refl, tails _ _ _ _ e)
  value_back (Value.boolean a) (Value.boolean b) r s e = let t = tails _ _ _ _ e in (ap (λ x. Value.boolean x) (same_flag a b (heads _ _ _ _ t)), tails _ _ _ _ t)
  value_back (Value.int a) (Value.int b) r s e = let t = tails _ _ _ _ e in (ap (λ x. Value.int x) (heads _ _ _ _ t), tails _ _ _ _ t)
  value_back (Value.bits a m) (Value.bits b n) r s e =
      let t = split (bit_row a) (bit_row b) r s (size_row m) (size_row n) (tails _ _ _ _ e) in
      let p = bits_back a b _ _ t in
      let q = size_back m n r s p.1 in
      ((λ i. Value.bits (p.0 i) (q.0 i)), q.1)
  value_back (Value.octets a) (Value.octets b) r s e = let p = numbers_back a b r s (tails _ _ _ _ e) in (ap (λ x. Value.octets x) p.0, p.1)
  value_back (Value.arcs a) (Value.arcs b) r s e = let p = numbers_back a b r s (tails _ _ _ _ e) in (ap (λ x. Value.arcs x) p.0, p.1)
  value_back (Value.text a) (Value.text b) r s e = let p = numbers_back a b r s (tails _ _ _ _ e) in (ap (λ x. Value.text x) p.0, p.1)
  value_back (Value.units a) (Value.units b) r s e = let p = numbers_back a b r s (tails _ _ _ _ e) in (ap (λ x. Value.units x) p.0, p.1)
  value_back (Value.utc a) (Value.utc b) r s e = let t = tails _ _ _ _ e in (ap (λ x. Value.utc x) (heads _ _ _ _ t), tails _ _ _ _ t)
  value_back (Value.gen a) (Value.gen b) r s e = let t = tails _ _ _ _ e in (ap (λ x. Value.gen x) (heads _ _ _ _ t), tails _ _ _ _ t)
  value_back (Value.day a) (Value.day b) r s e = let t = tails _ _ _ _ e in (ap (λ x. Value.day x) (heads _ _ _ _ t), tails _ _ _ _ t)
  value_back (Value.item a) (Value.item b) r s e = let p = numbers_back a b r s (tails _ _ _ _ e) in (ap (λ x. Value.item x) p.0, p.1)
  value_back (Value.members a) (Value.members b) r s e = let p = members_back a b r s (tails _ _ _ _ e) in (ap (λ x. Value.members x) p.0, p.1)
  value_back (Value.list a) (Value.list b) r s e = let p = elements_back a b r s (tails _ _ _ _ e) in (ap (λ x. Value.list x) p.0, p.1)
  value_back (Value.bag a) (Value.bag b) r s e = let p = elements_back a b r s (tails _ _ _ _ e) in (ap (λ x. Value.bag x) p.0, p.1)
  value_back (Value.choice a v) (Value.choice b w) r s e =
      let t = split (number_row a) (number_row b) r s (value_row v) (value_row w) (tails _ _ _ _ e) in
      let p = numbers_back a b _ _ t in
      let q = value_back v w r s p.1 in
      ((λ i. Value.choice (p.0 i) (q.0 i)), q.1)
  value_back _ _ r s e = absurd (grind arith)

  pub elements_back : (a b : Values) (r s : List ℤ) → element_row a ++ r ≡ element_row b ++ s → (a ≡ b) × (r ≡ s)
  elements_back Values.no_values Values.no_values r s e = (refl, tails _ _ _ _ e)
  elements_back (Values.value v vs) (Values.value w ws) r s e =
      let t = split (value_row v) (value_row w) r s (element_row vs) (element_row ws) (tails _ _ _ _ e) in
      let p = value_back v w _ _ t in
      let q = elements_back vs ws r s p.1 in
      ((λ i. Values.value (p.0 i) (q.0 i)), q.1)
  elements_back _ _ r s e = absurd (grind arith)

  pub members_back : (a b : Slots) (r s : List ℤ) → member_row a ++ r ≡ member_row b ++ s → (a ≡ b) × (r ≡ s)
  members_back Slots.no_slots Slots.no_slots r s e = (refl, tails _ _ _ _ e)
  members_back (Slots.absent m ms) (Slots.absent n ns) r s e =
      let t = split (number_row m) (number_row n) r s (pos 0 ∷ member_row ms) (pos 0 ∷ member_row ns) (tails _ _ _ _ e) in
      let p = numbers_back m n _ _ t in
      let q = members_back ms ns r s (tails _ _ _ _ p.1) in
      ((λ i. Slots.absent (p.0 i) (q.0 i)), q.1)
  members_back (Slots.present m v ms) (Slots.present n w ns) r s e =
      let t = split (number_row m) (number_row n) r s (pos 1 ∷ (value_row v ++ member_row ms)) (pos 1 ∷ (value_row w ++ member_row ns)) (tails _ _ _ _ e) in
      let p = numbers_back m n _ _ t in
      let u = split (value_row v) (value_row w) r s (member_row ms) (member_row ns) (tails _ _ _ _ p.1) in
      let q = value_back v w _ _ u in
      let z = members_back ms ns r s q.1 in
      ((λ i. Slots.present (p.0 i) (q.0 i) (z.0 i)), z.1)
  members_back (Slots.absent m ms) (Slots.present n w ns) r s e =
      let t = split (number_row m) (number_row n) r s (pos 0 ∷ member_row ms) (pos 1 ∷ (value_row w ++ member_row ns)) (tails _ _ _ _ e) in
      let p = numbers_back m n _ _ t in
      let h = same_pos 0 1 (heads _ _ _ _ p.1) in
      absurd (omega arith)
  members_back (Slots.present m v ms) (Slots.absent n ns) r s e =
      let t = split (number_row m) (number_row n) r s (pos 1 ∷ (value_row v ++ member_row ms)) (pos 0 ∷ member_row ns) (tails _ _ _ _ e) in
      let p = numbers_back m n _ _ t in
      let h = same_pos 1 0 (heads _ _ _ _ p.1) in
      absurd (omega arith)
  members_back _ _ r s e = absurd (grind arith)

-- The order on values is total.
pub value_cmp_total : IsTotalOrder value_cmp
unfolding value_cmp
value_cmp_total = on_total value_row (lists_total int_cmp_total)

-- It ties only what is one value.
pub value_cmp-IsAntisymmetric : IsAntisymmetric value_cmp
unfolding value_cmp
value_cmp-IsAntisymmetric v w e =
    let same = slice_cmp-IsAntisymmetric int_cmp-IsAntisymmetric (value_row v) (value_row w) e in
    (value_back v w [] [] (ap (λ l. l ++ []) same)).0
