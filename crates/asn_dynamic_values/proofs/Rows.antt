-- Rows of numbers are compared part by part: no row is the front of another.
use Rattle.std.proofs.Common.{◌≡◌, refl, sym, ap, ◌∙◌, ℕ, ℤ, pos, List, [], ◌∷◌, ◌++◌, drop, Bool, true, false, Option, Some, None}
use Rattle.std.specs.Cmp.Lexicographic.{slice_cmp}
use Rattle.std.specs.declared.cmp.Ordering.{Ordering}
use Rattle.std.specs.declared.cmp.Ordering.TheVariants.{Less, Equal, Greater}
use Rattle.std.specs.Ordering.{bool_cmp, int_cmp, nat_cmp, ordering_then}
use Rattle.std.specs.FinMap.{int_cmp-IsAntisymmetric}
use Rattle.asn_model.specs.Value.{Value, Values, Slots, bit_row, element_row, flag_number, member_row, number_row, size_row, value_cmp, value_row}
use Rattle.asn_model.proofs.ValueOrder.{bits_back, numbers_back, value_back}
use Rattle.asn_core.specs.Bounds.{nat_cmp-int_cmp}
use Rattle.asn_dynamic_values.specs.Order.{contents_cmp, elements_cmp, kind_number, members_cmp, size_cmp}

-- Where the rows begin alike they are the same.
abbrev PrefixFree : List ℤ → List ℤ → Type 0
PrefixFree a b = (r s : List ℤ) → a ++ r ≡ b ++ s → a ≡ b

same_tail : (x y : ℤ) (xs ys : List ℤ) → x ∷ xs ≡ y ∷ ys → xs ≡ ys
same_tail x y xs ys e = cc e

prefix_then : (a b r s : List ℤ) → PrefixFree a b → slice_cmp int_cmp (a ++ r) (b ++ s) ≡ ordering_then (slice_cmp int_cmp a b) (slice_cmp int_cmp r s)
prefix_then [] [] r s free = refl
prefix_then [] (y ∷ ys) r s free = let d : [] ≡ y ∷ ys = free ((y ∷ ys) ++ []) [] refl in cc d
prefix_then (x ∷ xs) [] r s free = let d : x ∷ xs ≡ [] = free [] ((x ∷ xs) ++ []) refl in cc d
prefix_then (x ∷ xs) (y ∷ ys) r s free = by (int_cmp x y) refl (prefix_then xs ys r s)
  where
    by : (o : Ordering) → int_cmp x y ≡ o → (PrefixFree xs ys → slice_cmp int_cmp (xs ++ r) (ys ++ s) ≡ ordering_then (slice_cmp int_cmp xs ys) (slice_cmp int_cmp r s))
        → ordering_then o (slice_cmp int_cmp (xs ++ r) (ys ++ s)) ≡ ordering_then (ordering_then o (slice_cmp int_cmp xs ys)) (slice_cmp int_cmp r s)
    by Less e k = refl
    by Greater e k = refl
    by Equal e k =
        let same : x ≡ y = int_cmp-IsAntisymmetric x y e in
        k (λ p q t. same_tail x y xs ys (free p q (λ i. same i ∷ t i)))

value_then : (v w : Value) (r s : List ℤ) → slice_cmp int_cmp (value_row v ++ r) (value_row w ++ s) ≡ ordering_then (value_cmp v w) (slice_cmp int_cmp r s)
unfolding value_cmp
value_then v w r s = prefix_then (value_row v) (value_row w) r s (λ p q e. ap value_row (value_back v w p q e).0)

then_Equal : (o : Ordering) → ordering_then o Equal ≡ o
then_Equal Less = refl
then_Equal Equal = refl
then_Equal Greater = refl

one_cmp : (x y : ℤ) → slice_cmp int_cmp (x ∷ []) (y ∷ []) ≡ int_cmp x y
one_cmp x y = then_Equal (int_cmp x y)

pub numbers_cmp : (a b : List ℕ) → slice_cmp int_cmp (number_row a) (number_row b) ≡ slice_cmp nat_cmp a b
numbers_cmp [] [] = refl
numbers_cmp [] (y ∷ ys) = refl
numbers_cmp (x ∷ xs) [] = refl
numbers_cmp (x ∷ xs) (y ∷ ys) = ap (λ o. ordering_then o (slice_cmp int_cmp (number_row xs) (number_row ys))) (sym (nat_cmp-int_cmp x y)) ∙ ap (ordering_then (nat_cmp x y)) (numbers_cmp xs ys)

numbers_then : (a b : List ℕ) (r s : List ℤ) → slice_cmp int_cmp (number_row a ++ r) (number_row b ++ s) ≡ ordering_then (slice_cmp nat_cmp a b) (slice_cmp int_cmp r s)
numbers_then a b r s = prefix_then (number_row a) (number_row b) r s (λ p q e. ap number_row (numbers_back a b p q e).0) ∙ ap (λ o. ordering_then o (slice_cmp int_cmp r s)) (numbers_cmp a b)

flags_cmp : (a b : Bool) → int_cmp (flag_number a) (flag_number b) ≡ bool_cmp a b
flags_cmp true true = refl
flags_cmp true false = refl
flags_cmp false true = refl
flags_cmp false false = refl

bits_cmp : (a b : List Bool) → slice_cmp int_cmp (bit_row a) (bit_row b) ≡ slice_cmp bool_cmp a b
bits_cmp [] [] = refl
bits_cmp [] (y ∷ ys) = refl
bits_cmp (x ∷ xs) [] = refl
bits_cmp (x ∷ xs) (y ∷ ys) = ap (λ o. ordering_then o (slice_cmp int_cmp (bit_row xs) (bit_row ys))) (flags_cmp x y) ∙ ap (ordering_then (bool_cmp x y)) (bits_cmp xs ys)

sizes_cmp : (m n : Option ℕ) → slice_cmp int_cmp (size_row m) (size_row n) ≡ size_cmp m n
sizes_cmp None None = refl
sizes_cmp None (Some n) = refl
sizes_cmp (Some m) None = refl
sizes_cmp (Some m) (Some n) = one_cmp (pos m) (pos n) ∙ sym (nat_cmp-int_cmp m n)

elements_rows : (vs ws : Values) → slice_cmp int_cmp (element_row vs) (element_row ws) ≡ elements_cmp vs ws
elements_rows Values.no_values Values.no_values = refl
elements_rows Values.no_values (Values.value w ws) = refl
elements_rows (Values.value v vs) Values.no_values = refl
elements_rows (Values.value v vs) (Values.value w ws) = value_then v w (element_row vs) (element_row ws) ∙ ap (ordering_then (value_cmp v w)) (elements_rows vs ws)

members_rows : (ms ns : Slots) → slice_cmp int_cmp (member_row ms) (member_row ns) ≡ members_cmp ms ns
members_rows Slots.no_slots Slots.no_slots = refl
members_rows Slots.no_slots (Slots.absent n ns) = refl
members_rows Slots.no_slots (Slots.present n w ns) = refl
members_rows (Slots.absent m ms) Slots.no_slots = refl
members_rows (Slots.present m v ms) Slots.no_slots = refl
members_rows (Slots.absent m ms) (Slots.absent n ns) = numbers_then m n _ _ ∙ ap (ordering_then (slice_cmp nat_cmp m n)) (members_rows ms ns)
members_rows (Slots.absent m ms) (Slots.present n w ns) = numbers_then m n _ _
members_rows (Slots.present m v ms) (Slots.absent n ns) = numbers_then m n _ _
members_rows (Slots.present m v ms) (Slots.present n w ns) =
    numbers_then m n _ _ ∙ ap (ordering_then (slice_cmp nat_cmp m n)) (value_then v w (member_row ms) (member_row ns) ∙ ap (ordering_then (value_cmp v w)) (members_rows ms ns))

-- A row begins with the number of the value's kind.
first_row : (v : Value) → value_row v ≡ pos (kind_number v) ∷ drop 1 (value_row v)
first_row Value.null = refl
first_row (Value.boolean b) = refl
first_row (Value.int n) = refl
first_row (Value.bits bs n) = refl
first_row (Value.octets o) = refl
first_row (Value.arcs a) = refl
first_row (Value.text t) = refl
first_row (Value.units u) = refl
first_row (Value.utc n) = refl
first_row (Value.gen n) = refl
first_row (Value.day n) = refl
first_row (Value.item i) = refl
first_row (Value.members ms) = refl
first_row (Value.list vs) = refl
first_row (Value.bag vs) = refl
first_row (Value.choice i v) = refl

-- What follows the kinds in two rows.
abbrev rests_cmp : Value → Value → Ordering
rests_cmp v w = slice_cmp int_cmp (drop 1 (value_row v)) (drop 1 (value_row w))

choice_rest : (i j : List ℕ) (v w : Value) → ordering_then (slice_cmp nat_cmp i j) (slice_cmp int_cmp (value_row v) (value_row w)) ≡ ordering_then (slice_cmp nat_cmp i j) (value_cmp v w)
unfolding value_cmp
choice_rest i j v w = refl

by_kinds : (v w : Value) → ordering_then (nat_cmp (kind_number v) (kind_number w)) (rests_cmp v w) ≡ ordering_then (nat_cmp (kind_number v) (kind_number w)) (contents_cmp v w)
by_kinds Value.null Value.null = refl
by_kinds (Value.boolean a) (Value.boolean b) = one_cmp (flag_number a) (flag_number b) ∙ flags_cmp a b
by_kinds (Value.int a) (Value.int b) = one_cmp a b
by_kinds (Value.bits a m) (Value.bits b n) = prefix_then (bit_row a) (bit_row b) (size_row m) (size_row n) (λ p q e. ap bit_row (bits_back a b p q e).0) ∙ (λ i. ordering_then (bits_cmp a b i) (sizes_cmp m n i))
by_kinds (Value.octets a) (Value.octets b) = numbers_cmp a b
by_kinds (Value.arcs a) (Value.arcs b) = numbers_cmp a b
by_kinds (Value.text a) (Value.text b) = numbers_cmp a b
by_kinds (Value.units a) (Value.units b) = numbers_cmp a b
by_kinds (Value.utc a) (Value.utc b) = one_cmp a b
by_kinds (Value.gen a) (Value.gen b) = one_cmp a b
by_kinds (Value.day a) (Value.day b) = one_cmp a b
by_kinds (Value.item a) (Value.item b) = numbers_cmp a b
by_kinds (Value.members ms) (Value.members ns) = members_rows ms ns
by_kinds (Value.list vs) (Value.list ws) = elements_rows vs ws
by_kinds (Value.bag vs) (Value.bag ws) = elements_rows vs ws
by_kinds (Value.choice i v) (Value.choice j w) = numbers_then i j (value_row v) (value_row w) ∙ choice_rest i j v w
by_kinds _ _ = refl

-- Values are ordered by kind, and then by contents.
pub cmp_parts : (v w : Value) → ordering_then (nat_cmp (kind_number v) (kind_number w)) (contents_cmp v w) ≡ value_cmp v w
unfolding value_cmp
cmp_parts v w =
    sym (by_kinds v w)
    ∙ ap (λ o. ordering_then o (rests_cmp v w)) (nat_cmp-int_cmp (kind_number v) (kind_number w))
    ∙ (λ i. slice_cmp int_cmp (sym (first_row v) i) (sym (first_row w) i))

pub then_unequal : (o p : Ordering) → (o ≡ Equal → ⊥) → o ≡ ordering_then o p
then_unequal Less p h = refl
then_unequal Greater p h = refl
then_unequal Equal p h = absurd (h refl)
