-- Slots and frames by their trees.
use Rattle.std.proofs.Common.{◌≡◌, refl, ap, sym, ◌∙◌, List, [], ◌∷◌, map, drop, Option, Some, None, ◌⊎◌, inl, inr}
use Rattle.std.proofs.lemmas.List.{map_push}
use Rattle.std.specs.Prelude.{option_map, MatchOption}
use Rattle.asn_slots.specs.Frames.{push, close, Closes}
use Rattle.asn_slots.specs.Slots.{or_some, last_present, present_of, first_of}
use Rattle.asn_slots.specs.Trees.{trees_of, SameTrees}

abbrev Frames : Type 0 → Type 0
Frames A = List (List (Option A))

-- A slot more is a tree more.
pub push-trees : {A T : Type 0} (f : A → T) (s : Option A) (fs : Frames A) → map (trees_of f) (push s fs) ≡ push (option_map f s) (map (trees_of f) fs)
push-trees f s [] = refl
push-trees f s (slots ∷ fs) = ap (λ g. g ∷ map (trees_of f) fs) (map_push (option_map f) slots s)

-- Where a slot is taken, the first tree is gone.
pub dropped : {V T : Type 0} (f : V → T) (o : Option (Option V)) (old new : List (Option V)) → MatchOption o ((old ≡ []) × (new ≡ old)) (λ slot. old ≡ slot ∷ new) → trees_of f new ≡ drop 1 (trees_of f old)
dropped f (Some slot) old new taken = sym (ap (λ l. drop 1 (trees_of f l)) taken)
dropped f None old new none = ap (trees_of f) (none.1 ∙ none.0) ∙ sym (ap (λ l. drop 1 (trees_of f l)) none.0)

-- A slot that is added to both is one slot more.
pub slot_added : {A V T : Type 0} (written : A → T) (kept : V → T) (s : Option A) (t : Option V) (old new : Frames V) → option_map kept t ≡ option_map written s → new ≡ push t old
    → (fs : Frames A) → SameTrees written kept fs old → SameTrees written kept (push s fs) new
slot_added written kept s t old new e put fs h =
    push-trees written s fs ∙ ap (push (option_map written s)) h ∙ ap (λ r. push r (map (trees_of kept) old)) (sym e) ∙ sym (ap (map (trees_of kept)) put ∙ push-trees kept t old)

-- The last frame has the trees of the slots that closing answers, and those below it take a slot as the frames after closing do.
closed_top : {A V T : Type 0} (written : A → T) (kept : V → T) (old mid : Frames V) (slots : List (Option V)) (f : List (Option A)) (fs : Frames A) → Closes old slots mid → SameTrees written kept (f ∷ fs) old
    → (trees_of written f ≡ trees_of kept slots) × ((s : Option T) → push s (map (trees_of written) fs) ≡ push s (map (trees_of kept) mid))
closed_top written kept [] mid slots f fs c h = absurd c
closed_top written kept (g ∷ []) mid slots f fs c h =
    let top : trees_of written f ≡ trees_of kept g = cc h in
    let rest : map (trees_of written) fs ≡ [] = cc h in
    (top ∙ ap (trees_of kept) (sym c.0), λ s. ap (push s) rest ∙ sym (ap (λ m. push s (map (trees_of kept) m)) c.1))
closed_top written kept (g ∷ k ∷ gs) mid slots f fs c h =
    let top : trees_of written f ≡ trees_of kept g = cc h in
    let rest : map (trees_of written) fs ≡ map (trees_of kept) (k ∷ gs) = cc h in
    (top ∙ ap (trees_of kept) (sym c.0), λ s. ap (push s) (rest ∙ sym (ap (map (trees_of kept)) c.1)))

no_frame : {A V T : Type 0} (written : A → T) (kept : V → T) (old mid : Frames V) (slots : List (Option V)) → Closes old slots mid → SameTrees written kept [] old → ⊥
no_frame written kept [] mid slots c h = absurd c
no_frame written kept (g ∷ []) mid slots c h = cc h
no_frame written kept (g ∷ k ∷ gs) mid slots c h = cc h

-- A slot that is put in the place of the last frame closes it.
pub frame_closed : {A V T : Type 0} (written : A → T) (kept : V → T) (F : List (Option A) → Option A) (old mid new : Frames V) (slots : List (Option V)) (t : Option V) → Closes old slots mid
    → ((f : List (Option A)) → trees_of written f ≡ trees_of kept slots → option_map kept t ≡ option_map written (F f)) → new ≡ push t mid
    → (fs : Frames A) → SameTrees written kept fs old → SameTrees written kept (close F fs) new
frame_closed written kept F old mid new slots t c e put [] h = absurd (no_frame written kept old mid slots c h)
frame_closed written kept F old mid new slots t c e put (f ∷ fs) h =
    let top = closed_top written kept old mid slots f fs c h in
    push-trees written (F f) fs ∙ ap (λ r. push r (map (trees_of written) fs)) (sym (e f top.0)) ∙ top.1 (option_map kept t) ∙ sym (ap (map (trees_of kept)) put ∙ push-trees kept t mid)

or_some-trees : {A T : Type 0} (f : A → T) (a b : Option A) → or_some (option_map f a) (option_map f b) ≡ option_map f (or_some a b)
or_some-trees f (Some x) b = refl
or_some-trees f None b = refl

-- The tree of the last value is the last tree.
pub last-trees : {A T : Type 0} (f : A → T) (slots : List (Option A)) → last_present (trees_of f slots) ≡ option_map f (last_present slots)
last-trees f [] = refl
last-trees f (s ∷ slots) = ap (λ o. or_some o (option_map f s)) (last-trees f slots) ∙ or_some-trees f (last_present slots) s

-- In the last frame the last values have the same tree.
pub last_same : {A V T : Type 0} (written : A → T) (kept : V → T) (old mid : Frames V) (slots : List (Option V)) (f : List (Option A)) (fs : Frames A) → Closes old slots mid → SameTrees written kept (f ∷ fs) old
    → option_map written (last_present f) ≡ option_map kept (last_present slots)
last_same written kept old mid slots f fs c h = sym (last-trees written f) ∙ ap last_present (closed_top written kept old mid slots f fs c h).0 ∙ last-trees kept slots

-- Where there is no tree, there is no value.
pub no_tree : {A T : Type 0} (f : A → T) (o : Option A) → option_map f o ≡ None → o ≡ None
no_tree f None e = refl
no_tree {T = T} f (Some x) e = let d : ◌≡◌ {A = Option T} (Some (f x)) None = e in cc d

-- In the last frame nothing is present where nothing is kept.
pub last_none : {A V T : Type 0} (written : A → T) (kept : V → T) (old mid : Frames V) (slots : List (Option V)) (f : List (Option A)) (fs : Frames A) → Closes old slots mid → SameTrees written kept (f ∷ fs) old → None ≡ last_present slots → last_present f ≡ None
last_none written kept old mid slots f fs c h none = no_tree written (last_present f) (last_same written kept old mid slots f fs c h ∙ ap (option_map kept) (sym none))

first-trees : {A T : Type 0} (f : A → T) (slots : List (Option A)) → first_of (trees_of f slots) ≡ option_map f (first_of slots)
first-trees f [] = refl
first-trees f (s ∷ slots) = refl

-- The first slots have the same tree.
pub first_same : {A V T : Type 0} (written : A → T) (kept : V → T) (f : List (Option A)) (slots : List (Option V)) → trees_of written f ≡ trees_of kept slots → option_map written (first_of f) ≡ option_map kept (first_of slots)
first_same written kept f slots h = sym (first-trees written f) ∙ ap first_of h ∙ first-trees kept slots

present-trees : {A T : Type 0} (f : A → T) (slots : List (Option A)) → present_of (trees_of f slots) ≡ map f (present_of slots)
present-trees f [] = refl
present-trees f (None ∷ slots) = present-trees f slots
present-trees f (Some x ∷ slots) = ap (λ r. f x ∷ r) (present-trees f slots)

-- The values that are present have the same trees.
pub present_same : {A V T : Type 0} (written : A → T) (kept : V → T) (f : List (Option A)) (slots : List (Option V)) → trees_of written f ≡ trees_of kept slots → map written (present_of f) ≡ map kept (present_of slots)
present_same written kept f slots h = sym (present-trees written f) ∙ ap present_of h ∙ present-trees kept slots

no_value : {A : Type 0} (v : A) → Some v ≡ None → ⊥
no_value v e = cc e

-- Where a value is held at the root, no reason stands that none is there.
pub value_kept : {A P Q : Type 0} (holds : Frames A → Type 0) (v : A) → holds ((Some v ∷ []) ∷ []) → P ⊎ (Q × ((f : List (Option A)) (fs : Frames A) → holds (f ∷ fs) → last_present f ≡ None)) → P
value_kept holds v held (inl p) = p
value_kept holds v held (inr none) = absurd (no_value v (none.1 (Some v ∷ []) [] held))
