-- What flags say of the items of braces.
use Rattle.std.proofs.Common.{◌≡◌, ℕ, List, [], ◌∷◌, ◌++◌, inl, inr, true, false, Bool, cond, refl, sym, ap, ◌∙◌}
use Rattle.std.proofs.lemmas.Bool.{cases_Bool}
use Rattle.avn_grammar.specs.Grammar.{Item, named, bare, is_integer, fields_of, trees_of, AllIntegers, AllNamed, AllBare}
use Rattle.avn_grammar.specs.Tree.{Tree, sequence, sequence_of}
use Rattle.avn_value.specs.Gathering.{Holds, MakesKind}
use Rattle.avn_value.specs.ReadNodes.{kind_of_item}
use Rattle.avn_value.specs.declared.brace_items.ItemKind.TheVariants as entry
use Rattle.avn_value.specs.declared.brace_items.BraceItems.{BraceItems}
use Rattle.avn_nodes.specs.declared.node_kind.NodeKind.TheVariants as kind

not_integers : (xs : List Item) (id : List ℕ) (t : Tree) → AllIntegers (xs ++ (named id t ∷ [])) → ⊥
not_integers [] id t h = h
not_integers (named i v ∷ xs) id t h = h
not_integers (bare v ∷ xs) id t h = not_integers xs id t h.1

more_integers : (xs : List Item) (t : Tree) → AllIntegers xs → is_integer t ≡ true → AllIntegers (xs ++ (bare t ∷ []))
more_integers [] t h e = (e, tt)
more_integers (named i v ∷ xs) t h e = absurd h
more_integers (bare v ∷ xs) t h e = (h.0, more_integers xs t h.1 e)

were_integers : (xs : List Item) (t : Tree) → AllIntegers (xs ++ (bare t ∷ [])) → AllIntegers xs × (is_integer t ≡ true)
were_integers [] t h = (tt, h.0)
were_integers (named i v ∷ xs) t h = absurd h
were_integers (bare v ∷ xs) t h = let q = were_integers xs t h.1 in ((h.0, q.0), q.1)

not_bare : (xs : List Item) (id : List ℕ) (t : Tree) → AllBare (xs ++ (named id t ∷ [])) → ⊥
not_bare [] id t h = h
not_bare (named i v ∷ xs) id t h = h
not_bare (bare v ∷ xs) id t h = not_bare xs id t h

not_named : (xs : List Item) (t : Tree) → AllNamed (xs ++ (bare t ∷ [])) → ⊥
not_named [] t h = h
not_named (named i v ∷ xs) t h = not_named xs t h
not_named (bare v ∷ xs) t h = h

were_bare : (xs : List Item) (t : Tree) → AllBare (xs ++ (bare t ∷ [])) → AllBare xs
were_bare [] t h = tt
were_bare (named i v ∷ xs) t h = absurd h
were_bare (bare v ∷ xs) t h = were_bare xs t h

were_named : (xs : List Item) (id : List ℕ) (t : Tree) → AllNamed (xs ++ (named id t ∷ [])) → AllNamed xs
were_named [] id t h = tt
were_named (named i v ∷ xs) id t h = were_named xs id t h
were_named (bare v ∷ xs) id t h = absurd h

more_bare : (xs : List Item) (t : Tree) → AllBare xs → AllBare (xs ++ (bare t ∷ []))
more_bare [] t h = tt
more_bare (named i v ∷ xs) t h = absurd h
more_bare (bare v ∷ xs) t h = more_bare xs t h

more_named : (xs : List Item) (id : List ℕ) (t : Tree) → AllNamed xs → AllNamed (xs ++ (named id t ∷ []))
more_named [] id t h = tt
more_named (named i v ∷ xs) id t h = more_named xs id t h
more_named (bare v ∷ xs) id t h = absurd h

no : {A : Type 0} → true ≡ false → A
no e = let n : ⊥ = cc in absurd n

-- Which entry an item has.
named_entry : (x : Item) → entry.Named ≡ kind_of_item x → (id : List ℕ) × (t : Tree) × (x ≡ named id t)
named_entry (named id t) e = (id, t, refl)
named_entry (bare t) e = elim (cases_Bool (is_integer t)) [
  | inl i ↦ let f : entry.Named ≡ entry.Integer = e ∙ ap (λ b. cond b entry.Integer entry.Value) i in let n : ⊥ = cc in absurd n
  | inr i ↦ let f : entry.Named ≡ entry.Value = e ∙ ap (λ b. cond b entry.Integer entry.Value) i in let n : ⊥ = cc in absurd n
]

integer_entry : (x : Item) → entry.Integer ≡ kind_of_item x → (t : Tree) × (x ≡ bare t) × (is_integer t ≡ true)
integer_entry (named id t) e = let n : ⊥ = cc in absurd n
integer_entry (bare t) e = elim (cases_Bool (is_integer t)) [
  | inl i ↦ (t, refl, i)
  | inr i ↦ let f : entry.Integer ≡ entry.Value = e ∙ ap (λ b. cond b entry.Integer entry.Value) i in let n : ⊥ = cc in absurd n
]

value_entry : (x : Item) → entry.Value ≡ kind_of_item x → (t : Tree) × (x ≡ bare t) × (is_integer t ≡ false)
value_entry (named id t) e = let n : ⊥ = cc in absurd n
value_entry (bare t) e = elim (cases_Bool (is_integer t)) [
  | inl i ↦ let f : entry.Value ≡ entry.Integer = e ∙ ap (λ b. cond b entry.Integer entry.Value) i in let n : ⊥ = cc in absurd n
  | inr i ↦ (t, refl, i)
]

named_held : (g : BraceItems) (before : List Item) (id : List ℕ) (t : Tree) → Holds g before → Holds (record g { named = true; integers = false }) (before ++ (named id t ∷ []))
named_held g before id t k = record {
  named = λ _. not_bare before id t;
  only_bare = λ e. no e;
  bare = λ e a. k.bare e (were_named before id t a);
  only_named = λ e. more_named before id t (k.only_named e);
  integers = λ e. no (sym e);
  only_integers = λ a. absurd (not_integers before id t a);
}

bare_held : (g : BraceItems) (before : List Item) (t : Tree) (b : Bool) → (g.integers ≡ true → is_integer t ≡ true → b ≡ true) → (b ≡ true → (g.integers ≡ true) × (is_integer t ≡ true)) → Holds g before → Holds (record g { bare = true; integers = b }) (before ++ (bare t ∷ []))
bare_held g before t b f h k = record {
  named = λ e a. k.named e (were_bare before t a);
  only_bare = λ e. more_bare before t (k.only_bare e);
  bare = λ _. not_named before t;
  only_named = λ e. no e;
  integers = λ e. more_integers before t (k.integers (h e).0) (h e).1;
  only_integers = λ a. let q = were_integers before t a in f (k.only_integers q.0) q.1;
}

pub named_added : (g : BraceItems) (before : List Item) (x : Item) → entry.Named ≡ kind_of_item x → Holds g before → Holds (record g { named = true; integers = false }) (before ++ (x ∷ []))
named_added g before x e k = let q = named_entry x e in rw q.2 (named_held g before q.0 q.1 k)

pub integer_added : (g : BraceItems) (before : List Item) (x : Item) → entry.Integer ≡ kind_of_item x → Holds g before → Holds (record g { bare = true }) (before ++ (x ∷ []))
integer_added g before x e k = let q = integer_entry x e in rw q.1 (bare_held g before q.0 g.integers (λ i _. i) (λ i. (i, q.2)) k)

pub value_added : (g : BraceItems) (before : List Item) (x : Item) → entry.Value ≡ kind_of_item x → Holds g before → Holds (record g { bare = true; integers = false }) (before ++ (x ∷ []))
value_added g before x e k = let q = value_entry x e in rw q.1 (bare_held g before q.0 false (λ _ i. sym q.2 ∙ i) (λ i. no (sym i)) k)

pub list_kind : (g : BraceItems) (items : List Item) → g.named ≡ false → Holds g items → MakesKind items kind.SequenceOf
list_kind g items e k = (sequence_of (trees_of items), inr (k.only_bare e, refl), refl)

pub fields_kind : (g : BraceItems) (items : List Item) → g.bare ≡ false → Holds g items → MakesKind items kind.Sequence
fields_kind g items e k = (sequence (fields_of items), inl (k.only_named e, refl), refl)
