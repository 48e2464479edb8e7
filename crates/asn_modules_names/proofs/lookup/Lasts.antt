-- The last entries of keys.
use Rattle.std.proofs.Common.{◌≡◌, List, [], ◌∷◌, map, Bool, true, false, if◌then◌else◌, Option, Some, None, refl, ap, ◌∙◌}
use Rattle.std.specs.Map.{update, update_all}
use Rattle.std.specs.Option.{option_map, option_or}
use Rattle.asn_modules_names.specs.lookup.Lookup.{last_of}

module _ {K X : Type 0} (same : K → K → Bool) where
  or_last : (o : Option X) (b : Bool) (x : X) (p : Option X) → option_or o (if b then Some x else p) ≡ option_or (option_or o (if b then Some x else None)) p
  or_last None true x p = refl
  or_last None false x p = refl
  or_last (Some y) true x p = refl
  or_last (Some y) false x p = refl

  -- What stands beside a key after all entries were put in turn.
  pub put_all : (f : K → Option X) (es : List (K × X)) (q : K) → update_all same f es q ≡ option_or (last_of same es q) (f q)
  put_all f [] q = refl
  put_all f (e ∷ es) q = put_all (update same f e.0 (Some e.1)) es q ∙ or_last (last_of same es q) (same e.0 q) e.1 (f q)

  none_else : (o : Option X) → option_or o None ≡ o
  none_else None = refl
  none_else (Some x) = refl

  pub put_first : (es : List (K × X)) (q : K) → update_all same (λ _. None) es q ≡ last_of same es q
  put_first es q = put_all (λ _. None) es q ∙ none_else (last_of same es q)

-- The last entry, seen through views of keys and values.
module _ {K X L Y : Type 0} (same : K → K → Bool) (other : L → L → Bool) (v : K → L) (w : X → Y) (agree : (k q : K) → same k q ≡ other (v k) (v q)) where
  abbrev pub seen : K × X → L × Y
  seen e = (v e.0, w e.1)

  mapped : (o : Option X) (b : Bool) (x : X) → option_map w (option_or o (if b then Some x else None)) ≡ option_or (option_map w o) (if b then Some (w x) else None)
  mapped None true x = refl
  mapped None false x = refl
  mapped (Some y) true x = refl
  mapped (Some y) false x = refl

  pub last_seen : (es : List (K × X)) (q : K) → option_map w (last_of same es q) ≡ last_of other (map seen es) (v q)
  last_seen [] q = refl
  last_seen (e ∷ es) q =
      mapped (last_of same es q) (same e.0 q) e.1
      ∙ ap (λ b. option_or (option_map w (last_of same es q)) (if b then Some (w e.1) else None)) (agree e.0 q)
      ∙ ap (λ o. option_or o (if other (v e.0) (v q) then Some (w e.1) else None)) (last_seen es q)

-- A value that stays.
pub map_same : {X : Type 0} (o : Option X) → option_map (λ x. x) o ≡ o
map_same None = refl
map_same (Some x) = refl
