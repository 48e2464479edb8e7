-- Of components that are read or fail, the first one that fails in the order of reading.
use Rattle.std.proofs.Common.{◌≡◌, sym, subst, ℕ, Bool, true, false, if◌then◌else◌, List, [], ◌∷◌, ◌++◌, map, Some, None, ◌⊎◌, inl, inr}
use Rattle.std.specs.List.{AllByRecursion}
use Rattle.std.specs.Ordering.{is_gt, on}
use Rattle.std.specs.declared.cmp.Ordering.{Ordering}
use Rattle.asn_fault.specs.Failure.{Cause}
use Rattle.asn_model.specs.Components.{Component, Standing, component_names, components, reading_order, root_order, tag_cmp, with_additions}
use Rattle.asn_model.specs.DecodesTo.{DecodesTo}
use Rattle.asn_model.specs.FailsWith.{Path}
use Rattle.asn_model.specs.Notation.{Notation}
use Rattle.asn_model.specs.Shape.{Shape, SeqKind, Fields, FieldAdditions}
use Rattle.asn_model.specs.Sorting.{insert_in_order, sort}
use Rattle.asn_model.specs.Tree.{Tree, Slot}
use Rattle.asn_model.specs.Value.{Value, may_lack}
use Rattle.asn_model.proofs.Sorting.{each-sort}
use Rattle.asn_growth.specs.ComesUpon.{ComesUpon, FieldsComeUpon}

-- Some component is so.
abbrev pub SomeComponent : (Component → Type 0) → List Component → Type 0
SomeComponent P [] = ⊥
SomeComponent P (c ∷ cs) = P c ⊎ SomeComponent P cs

-- What holds of components holds of them in the order of reading.
module _ (P : Component → Type 0) where
  some-insert : (cmp : Component → Component → Ordering) (x : Component) (ys : List Component) → P x ⊎ SomeComponent P ys → SomeComponent P (insert_in_order cmp x ys)
  some-insert cmp x [] h = h
  some-insert cmp x (y ∷ ys) h = by (λ k. some-insert cmp x ys k) (is_gt (cmp x y)) h
    where
      by : (P x ⊎ SomeComponent P ys → SomeComponent P (insert_in_order cmp x ys)) → (b : Bool) → P x ⊎ (P y ⊎ SomeComponent P ys) → SomeComponent P (if b then y ∷ insert_in_order cmp x ys else x ∷ y ∷ ys)
      by later true (inl p) = inr (later (inl p))
      by later true (inr (inl p)) = inl p
      by later true (inr (inr h)) = inr (later (inr h))
      by later false h = h

  some-sort : (cmp : Component → Component → Ordering) (xs : List Component) → SomeComponent P xs → SomeComponent P (sort cmp xs)
  some-sort cmp [] h = elim h [ ]
  some-sort cmp (x ∷ xs) (inl p) = some-insert cmp x (sort cmp xs) (inl p)
  some-sort cmp (x ∷ xs) (inr h) = some-insert cmp x (sort cmp xs) (inr (some-sort cmp xs h))

  all-appended : (cs ds : List Component) → AllByRecursion P cs → AllByRecursion P ds → AllByRecursion P (cs ++ ds)
  all-appended [] ds h k = k
  all-appended (c ∷ cs) ds h k = (h.0, all-appended cs ds h.1 k)

  some-appended : (cs ds : List Component) → SomeComponent P cs ⊎ SomeComponent P ds → SomeComponent P (cs ++ ds)
  some-appended [] ds (inl h) = elim h [ ]
  some-appended [] ds (inr h) = h
  some-appended (c ∷ cs) ds (inl (inl h)) = inl h
  some-appended (c ∷ cs) ds (inl (inr h)) = inr (some-appended cs ds (inl h))
  some-appended (c ∷ cs) ds (inr h) = inr (some-appended cs ds (inr h))

  all-parted : (cs ds : List Component) → AllByRecursion P (cs ++ ds) → AllByRecursion P cs × AllByRecursion P ds
  all-parted [] ds h = (tt, h)
  all-parted (c ∷ cs) ds h = let r = all-parted cs ds h.1 in ((h.0, r.0), r.1)

  some-parted : (cs ds : List Component) → SomeComponent P (cs ++ ds) → SomeComponent P cs ⊎ SomeComponent P ds
  some-parted [] ds h = inr h
  some-parted (c ∷ cs) ds (inl h) = inl (inl h)
  some-parted (c ∷ cs) ds (inr h) = by (some-parted cs ds h)
    where
      by : SomeComponent P cs ⊎ SomeComponent P ds → SomeComponent P (c ∷ cs) ⊎ SomeComponent P ds
      by (inl k) = inl (inr k)
      by (inr k) = inr k

  all-root : (kind : SeqKind) (fs : Fields) → AllByRecursion P (components Standing.root fs) → AllByRecursion P (root_order kind fs)
  all-root SeqKind.sequence fs h = h
  all-root SeqKind.set fs h = each-sort (on (λ (c : Component). c.tag) tag_cmp) P (components Standing.root fs) h

  some-root : (kind : SeqKind) (fs : Fields) → SomeComponent P (components Standing.root fs) → SomeComponent P (root_order kind fs)
  some-root SeqKind.sequence fs h = h
  some-root SeqKind.set fs h = some-sort (on (λ (c : Component). c.tag) tag_cmp) (components Standing.root fs) h

  pub all-read : (kind : SeqKind) (fs : Fields) (added : FieldAdditions) → AllByRecursion P (with_additions (components Standing.root fs) added) → AllByRecursion P (reading_order kind fs added)
  all-read kind fs FieldAdditions.closed_fields h = all-root kind fs h
  all-read kind fs (FieldAdditions.extended_fields more) h = let r = all-parted (components Standing.root fs) (components Standing.addition more) h in all-appended (root_order kind fs) (components Standing.addition more) (all-root kind fs r.0) r.1

  pub some-read : (kind : SeqKind) (fs : Fields) (added : FieldAdditions) → SomeComponent P (with_additions (components Standing.root fs) added) → SomeComponent P (reading_order kind fs added)
  some-read kind fs FieldAdditions.closed_fields h = some-root kind fs h
  some-read kind fs (FieldAdditions.extended_fields more) h = some-appended (root_order kind fs) (components Standing.addition more) (by (some-parted (components Standing.root fs) (components Standing.addition more) h))
    where
      by : SomeComponent P (components Standing.root fs) ⊎ SomeComponent P (components Standing.addition more) → SomeComponent P (root_order kind fs) ⊎ SomeComponent P (components Standing.addition more)
      by (inl k) = inl (some-root kind fs k)
      by (inr k) = inr k

-- A reader comes upon a reason of this kind in the slot.
abbrev pub Upon : (Cause → Type 0) → Notation → Shape → Slot → Type 0
Upon K n s slot = (t : Tree) × (slot ≡ Some t) × (p : Path) × (w : Cause) × ComesUpon n s t p w × K w

module _ (K : Cause → Type 0) (n : Notation) (look : List ℕ → Slot) where
  -- The component fails, for a reason of this kind.
  abbrev pub FailsHere : Component → Type 0
  FailsHere c = Upon K n c.shape (look c.name) ⊎ ((look c.name ≡ None) × (may_lack c.presence ≡ false) × (c.standing ≡ Standing.addition) × K (Cause.missing_field c.name))

  -- The component is read, or it fails.
  abbrev pub IsRead : Component → Type 0
  IsRead c = (((v : Value) × DecodesTo n c.shape (look c.name) v) ⊎ ((look c.name ≡ None) × (may_lack c.presence ≡ true))) ⊎ FailsHere c

  abbrev pub FirstFailure : List Component → Type 0
  FirstFailure cs = (p : Path) × (w : Cause) × FieldsComeUpon n cs (map look (component_names cs)) p w × K w

  failure-here : (c : Component) (cs : List Component) → FailsHere c → FirstFailure (c ∷ cs)
  failure-here c cs (inl (t, e, p, w, u, k)) = (c.name ∷ p, w, subst (λ slot. FieldsComeUpon n (c ∷ cs) (slot ∷ map look (component_names cs)) (c.name ∷ p) w) (sym e) (FieldsComeUpon.upon_field c cs t (map look (component_names cs)) p w u), k)
  failure-here c cs (inr (e, needed, at, k)) = ([], Cause.missing_field c.name, subst (λ slot. FieldsComeUpon n (c ∷ cs) (slot ∷ map look (component_names cs)) [] (Cause.missing_field c.name)) (sym e) (FieldsComeUpon.upon_missing c cs (map look (component_names cs)) needed at), k)

  -- The first of them.
  pub first-failure : (cs : List Component) → AllByRecursion IsRead cs → SomeComponent FailsHere cs → FirstFailure cs
  first-failure [] h k = elim k [ ]
  first-failure (c ∷ cs) h k = by (λ j. first-failure cs h.1 j) h.0 k
    where
      by : (SomeComponent FailsHere cs → FirstFailure cs) → IsRead c → FailsHere c ⊎ SomeComponent FailsHere cs → FirstFailure (c ∷ cs)
      by later h (inl u) = failure-here c cs u
      by later (inr u) (inr ks) = failure-here c cs u
      by later (inl (inl (v, d))) (inr ks) = let r = later ks in (r.0, r.1, FieldsComeUpon.past_present c cs (look c.name) (map look (component_names cs)) v r.0 r.1 d r.2, r.3)
      by later (inl (inr (e, lack))) (inr ks) =
          let r = later ks in
          (r.0, r.1, subst (λ slot. FieldsComeUpon n (c ∷ cs) (slot ∷ map look (component_names cs)) r.0 r.1) (sym e) (FieldsComeUpon.past_absent c cs (map look (component_names cs)) r.0 r.1 lack r.2), r.3)
