-- What the entries of a list are seen as.
use Rattle.std.proofs.Common.{◌≡◌, List, [], ◌∷◌, ◌++◌, map, Bool, true, false, Option, Some, None, refl, sym, ap, ◌∙◌, is_some, append_assoc}
use Rattle.std.specs.Global.{Vec}
use Rattle.asn_notation.specs.Notation.{any}
use Rattle.asn_notation.specs.View.{marked}
use Rattle.asn_module_reader.specs.EntryLists.{entries_of, is_marker}
use Rattle.asn_module_reader.specs.declared.entries.Entries.{Entries}

-- What an entry is seen as, where m stands for the marker.
abbrev pub seen_as : {A B : Type 0} → (A → B) → B → Option A → B
seen_as f m None = m
seen_as f m (Some x) = f x

pub map_join : {A B : Type 0} (f : A → B) (xs ys : List A) → map f (xs ++ ys) ≡ map f xs ++ map f ys
map_join f [] ys = refl
map_join f (x ∷ xs) ys = ap (λ l. f x ∷ l) (map_join f xs ys)

some_seen : {A B : Type 0} (f : A → B) (m : B) (xs : List A) → map (seen_as f m) (map (λ x. Some x) xs) ≡ map f xs
some_seen f m [] = refl
some_seen f m (x ∷ xs) = ap (λ l. f x ∷ l) (some_seen f m xs)

marked_seen : {A B : Type 0} (f : A → B) (m : B) (added : Option (Vec A)) → map (seen_as f m) (marked (λ x. Some x) None added) ≡ marked f m added
marked_seen f m None = refl
marked_seen f m (Some xs) = ap (λ l. m ∷ l) (some_seen f m xs.items)

-- The entries, each seen as f says, and the marker as m.
pub entries_seen : {A B : Type 0} (f : A → B) (m : B) (es : Entries A) → map (seen_as f m) (entries_of es) ≡ map f es.root.items ++ marked f m es.added
entries_seen f m es = map_join (seen_as f m) (map (λ x. Some x) es.root.items) (marked (λ x. Some x) None es.added)
    ∙ ap (λ l. l ++ map (seen_as f m) (marked (λ x. Some x) None es.added)) (some_seen f m es.root.items)
    ∙ ap (λ l. map f es.root.items ++ l) (marked_seen f m es.added)

-- With one entry more.
pub entry_seen : {A B : Type 0} (f : A → B) (m : B) (es more : Entries A) (x : Option A) → entries_of more ≡ entries_of es ++ x ∷ []
    → map f more.root.items ++ marked f m more.added ≡ (map f es.root.items ++ marked f m es.added) ++ seen_as f m x ∷ []
entry_seen f m es more x e = sym (entries_seen f m more) ∙ ap (λ l. map (seen_as f m) l) e ∙ map_join (seen_as f m) (entries_of es) (x ∷ [])
    ∙ ap (λ l. l ++ seen_as f m x ∷ []) (entries_seen f m es)

-- With none.
pub no_entries_seen : {A B : Type 0} (f : A → B) (m : B) (es : Entries A) → entries_of es ≡ [] → map f es.root.items ++ marked f m es.added ≡ []
no_entries_seen f m es e = sym (entries_seen f m es) ∙ ap (λ l. map (seen_as f m) l) e

any_seen : {A B : Type 0} (p : B → Bool) (f : A → B) (m : B) → p m ≡ true → ((x : A) → p (f x) ≡ false) → (xs : List (Option A)) → any p (map (seen_as f m) xs) ≡ any is_marker xs
any_seen p f m here there [] = refl
any_seen p f m here there (None ∷ xs) = rw here refl
any_seen p f m here there (Some x ∷ xs) = rw (there x) (any_seen p f m here there xs)

-- Whether the marker is among them.
pub marker_seen : {A B : Type 0} (p : B → Bool) (f : A → B) (m : B) → p m ≡ true → ((x : A) → p (f x) ≡ false) → (es : Entries A) → any p (map f es.root.items ++ marked f m es.added) ≡ any is_marker (entries_of es)
marker_seen p f m here there es = sym (ap (λ l. any p l) (entries_seen f m es)) ∙ any_seen p f m here there (entries_of es)

some_unmarked : {A : Type 0} (xs : List A) (ys : List (Option A)) → any is_marker (map (λ x. Some x) xs ++ ys) ≡ any is_marker ys
some_unmarked [] ys = refl
some_unmarked (x ∷ xs) ys = some_unmarked xs ys

-- The marker is among the entries where it was read.
pub extensible : {A : Type 0} (es : Entries A) (added : Option (Vec A)) → added ≡ es.added → any is_marker (entries_of es) ≡ is_some added
extensible es None e = some_unmarked es.root.items (marked (λ x. Some x) None es.added) ∙ ap (λ a. any is_marker (marked (λ x. Some x) None a)) (sym e)
extensible es (Some xs) e = some_unmarked es.root.items (marked (λ x. Some x) None es.added) ∙ ap (λ a. any is_marker (marked (λ x. Some x) None a)) (sym e)

-- The marker behind the others.
pub marked_last : {A : Type 0} (es : Entries A) (added : Option (Vec A)) (more : Vec A) → added ≡ es.added → any is_marker (entries_of es) ≡ false → more.items ≡ []
    → map (λ x. Some x) es.root.items ++ (None ∷ map (λ x. Some x) more.items) ≡ entries_of es ++ None ∷ []
marked_last es None more e n m =
    let front = map (λ y. Some y) es.root.items in
    rw m (sym (ap (λ a. (front ++ marked (λ y. Some y) None a) ++ None ∷ []) (sym e) ∙ append_assoc front [] (None ∷ [])))
marked_last es (Some xs) more e n m = let t : true ≡ false = sym (extensible es (Some xs) e) ∙ n in absurd (let x : ⊥ = cc in x)
