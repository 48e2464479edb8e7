-- The names that a module has, among those of all modules.
use Rattle.std.proofs.Common.{◌≡◌, ◌<◌, ℕ, zero, suc, ◌+◌, List, [], ◌∷◌, Bool, true, false, ◌&&◌, ◌||◌, if◌then◌else◌, Some, nat_eq, refl, ap, ◌∙◌, arith}
use Rattle.std.proofs.lemmas.Bool.{and_right, ne_eqb}
use Rattle.std.proofs.lemmas.List.Folds.{list_any-append}
use Rattle.std.proofs.lemmas.Option.{none-some, same_Some}
use Rattle.std.specs.Cmp.{nat_eq_equiv}
use Rattle.std.specs.List.{slice_get}
use Rattle.std.specs.Set.{is_member}
use Rattle.std.specs.Str.{bytes_eq}
use Rattle.asn_model.specs.Shape.{is_item}
use Rattle.asn_modules_names.specs.imports.Tables.{names_by, numbered_by, same_named}
use Rattle.asn_modules_names.specs.lookup.Homes.{Home}

module _ (n : List ℕ) where
  -- The name with the number is one of these.
  abbrev is_there : ℕ → List (List ℕ × ℕ) → Bool
  is_there j es = is_member same_named es (n, j)

  one : (a b r : Bool) → b ≡ true → ((a && b) || r) ≡ (if a then true else r)
  one true b r e = ap (λ x. x || r) e
  one false b r e = refl

  -- Among the names with this number.
  own : (k : ℕ) (ns : List (List ℕ)) → is_there k (numbered_by k ns) ≡ is_item ns n
  own k [] = refl
  own k (m ∷ ns) = one (bytes_eq n m) (nat_eq k k) (is_there k (numbered_by k ns)) (nat_eq_equiv.refl k) ∙ ap (λ b. if bytes_eq n m then true else b) (own k ns)

  -- Among those with another one.
  others : (j k : ℕ) (ns : List (List ℕ)) → nat_eq j k ≡ false → is_there j (numbered_by k ns) ≡ false
  others j k [] e = refl
  others j k (m ∷ ns) e = ap (λ b. b || is_there j (numbered_by k ns)) (and_right (bytes_eq n m) (nat_eq j k) e) ∙ others j k ns e

  module _ (f : Home → List (List ℕ)) where
    parts : (j k : ℕ) (h : Home) (hs : List Home) → is_there j (names_by f k (h ∷ hs)) ≡ (is_there j (numbered_by k (f h)) || is_there j (names_by f (suc k) hs))
    parts j k h hs = list_any-append (same_named (n, j)) (numbered_by k (f h)) (names_by f (suc k) hs)

    later : (j k : ℕ) (hs : List Home) → j < k → is_there j (names_by f k hs) ≡ false
    later j k [] l = refl
    later j k (h ∷ hs) l =
        parts j k h hs ∙ ap (λ b. b || is_there j (names_by f (suc k) hs)) (others j k (f h) (ne_eqb j k (λ e. omega (arith, l, e)))) ∙ later j (suc k) hs (omega (arith, l))

    or_false : (b c : Bool) → c ≡ false → (b || c) ≡ b
    or_false true c e = refl
    or_false false c e = e

    kept : (hs : List Home) (i j k : ℕ) (h : Home) → j ≡ k + i → slice_get hs i ≡ Some h → is_there j (names_by f k hs) ≡ is_item (f h) n
    kept [] i j k h e there = absurd (none-some h there)
    kept (g ∷ hs) zero j k h e there =
        let same : j ≡ k = omega (arith, e) in
        parts j k g hs ∙ or_false (is_there j (numbered_by k (f g))) (is_there j (names_by f (suc k) hs)) (later j (suc k) hs (omega (arith, e)))
        ∙ ap (λ x. is_there x (numbered_by k (f g))) same ∙ own k (f g) ∙ ap (λ x. is_item (f x) n) (same_Some g h there)
    kept (g ∷ hs) (suc i) j k h e there =
        parts j k g hs ∙ ap (λ b. b || is_there j (names_by f (suc k) hs)) (others j k (f g) (ne_eqb j k (λ s. omega (arith, e, s)))) ∙ kept hs i j (suc k) h (omega (arith, e)) there

    -- Where the module of the number is this one.
    pub kept_by : (hs : List Home) (i : ℕ) (h : Home) → slice_get hs i ≡ Some h → is_there i (names_by f 0 hs) ≡ is_item (f h) n
    kept_by hs i h there = kept hs i i 0 h (omega arith) there
