-- The frames of slots that were written.
use Rattle.std.specs.Prelude.{◌≡◌, ◌≤◌, ℕ, List, [], ◌∷◌, ◌++◌, take, drop}

-- The frames with a slot more in the last one, which is the first of the list; where none is open, one opens.
abbrev pub push : {A : Type 0} → A → List (List A) → List (List A)
push s [] = (s ∷ []) ∷ []
push s (f ∷ fs) = (f ++ (s ∷ [])) ∷ fs

-- The last frame becomes one slot of the frame before it.
abbrev pub close : {A : Type 0} → (List A → A) → List (List A) → List (List A)
close f [] = []
close f (slots ∷ fs) = push (f slots) fs

-- The last frame is closed and has these slots; where it was the only one, an empty one is open after it.
abbrev pub Closes : {A : Type 0} → List (List A) → List A → List (List A) → Type 0
Closes [] slots after = ⊥
Closes (f ∷ []) slots after = (slots ≡ f) × (after ≡ [] ∷ [])
Closes (f ∷ g ∷ fs) slots after = (slots ≡ f) × (after ≡ g ∷ fs)

-- The frames of slots that stand in one list, the root's first, where each frame above the root's begins at one of the beginnings, the last one first.
abbrev pub frames_from : {A : Type 0} → List A → List ℕ → List (List A)
frames_from slots [] = slots ∷ []
frames_from slots (start ∷ starts) = drop start slots ∷ frames_from (take start slots) starts

-- Where the last frame begins.
abbrev pub last_start : List ℕ → ℕ
last_start [] = 0
last_start (start ∷ starts) = start

-- The beginnings, the last one first, do not fall from the root's on, and are at most the end.
abbrev pub Rise : ℕ → List ℕ → Type 0
Rise end [] = Unit {0}
Rise end (start ∷ starts) = (start ≤ end) × Rise start starts
