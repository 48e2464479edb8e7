-- The names that lists of components refer to.
use Rattle.std.proofs.Common.{◌≡◌, ℕ, suc, ◌+◌, ◌<◌, List, [], ◌∷◌, ◌++◌, map, Bool, true, false, if◌then◌else◌, Option, Some, None, refl, sym, ap, ◌∙◌, get_or, drop, length, add-one, append_assoc, append-nil}
use Rattle.std.proofs.Math.Seq.{drop-cons}
use Rattle.std.specs.Global.{Vec}
use Rattle.asn_notation.specs.Names.{references, element_references, first_failing, module_references}
use Rattle.asn_notation.specs.Notation.{Element, Assignment, component, marker, elements_of}
use Rattle.asn_notation.specs.View.{marked, component_view, components_view, notation_view, assignment_view}
use Rattle.asn_notation.specs.declared.notation.Component.{Component}
use Rattle.asn_notation.specs.declared.notation.Components.{Components, out-Components}
use Rattle.asn_notation.specs.declared.notation.Assignment as code
use Rattle.asn_notation.proofs.Viewing.{components_out}

-- What is at a place, and what follows it.
pub drop_at : {A : Type 0} (xs : List A) (i : ℕ) (x : A) → i < length xs → x ≡ get_or xs i x → drop i xs ≡ x ∷ drop (i + 1) xs
drop_at xs i x h e = drop-cons xs i x h ∙ ap (λ y. y ∷ drop (suc i) xs) (sym e) ∙ ap (λ k. x ∷ drop k xs) (sym (add-one i))

-- The first name of two lists that fails a test.
step : (b : Bool) (m : List ℕ) (x y : Option (List ℕ)) (n : List ℕ) → (x ≡ Some n → y ≡ Some n) → (if b then x else Some m) ≡ Some n → (if b then y else Some m) ≡ Some n
step true m x y n h e = h e
step false m x y n h e = e

step_none : (b : Bool) (m : List ℕ) (x y z : Option (List ℕ)) → (x ≡ None → y ≡ z) → (if b then x else Some m) ≡ None → (if b then y else Some m) ≡ z
step_none true m x y z h e = h e
step_none false m x y z h e = let n : ⊥ = cc in absurd n

pub failing-first : (p : List ℕ → Bool) (ns ms : List (List ℕ)) (n : List ℕ) → first_failing p ns ≡ Some n → first_failing p (ns ++ ms) ≡ Some n
failing-first p [] ms n e = let x : ⊥ = cc in absurd x
failing-first p (m ∷ ns) ms n e = step (p m) m (first_failing p ns) (first_failing p (ns ++ ms)) n (λ h. failing-first p ns ms n h) e

pub failing-second : (p : List ℕ → Bool) (ns ms : List (List ℕ)) → first_failing p ns ≡ None → first_failing p (ns ++ ms) ≡ first_failing p ms
failing-second p [] ms e = refl
failing-second p (m ∷ ns) ms e = step_none (p m) m (first_failing p ns) (first_failing p (ns ++ ms)) (first_failing p ms) (λ h. failing-second p ns ms h) e

pub references-join : (xs ys : List Element) → element_references (elements_of (xs ++ ys)) ≡ element_references (elements_of xs) ++ element_references (elements_of ys)
references-join [] ys = refl
references-join (component name n optional ∷ xs) ys = ap (λ l. references n ++ l) (references-join xs ys) ∙ sym (append_assoc (references n) (element_references (elements_of xs)) (element_references (elements_of ys)))
references-join (marker ∷ xs) ys = references-join xs ys

-- The names that additions refer to.
added_references : Option (Vec Component) → List (List ℕ)
added_references None = []
added_references (Some added) = element_references (elements_of (map component_view added.items))

references-marked : (added : Option (Vec Component)) → element_references (elements_of (marked component_view marker added)) ≡ added_references added
unfolding added_references
references-marked None = refl
references-marked (Some added) = refl

references-components : (c : Components) → element_references (elements_of (components_view c)) ≡ element_references (elements_of (map component_view (out-Components c).root.items)) ++ added_references (out-Components c).added
references-components c =
    let o = out-Components c in
    ap (λ es. element_references (elements_of es)) (components_out c) ∙ references-join (map component_view o.root.items) (marked component_view marker o.added)
    ∙ ap (λ l. element_references (elements_of (map component_view o.root.items)) ++ l) (references-marked o.added)

-- The first name of components that fails a test: in the root, else among the additions, if there are any.
pub failing-root : (p : List ℕ → Bool) (c : Components) (n : List ℕ) → first_failing p (element_references (elements_of (map component_view (out-Components c).root.items))) ≡ Some n
    → first_failing p (element_references (elements_of (components_view c))) ≡ Some n
failing-root p c n e = ap (first_failing p) (references-components c) ∙ failing-first p _ _ n e

pub failing-added : (p : List ℕ → Bool) (c : Components) (added : Vec Component) → (out-Components c).added ≡ Some added → first_failing p (element_references (elements_of (map component_view (out-Components c).root.items))) ≡ None
    → first_failing p (element_references (elements_of (components_view c))) ≡ first_failing p (element_references (elements_of (map component_view added.items)))
unfolding added_references
failing-added p c added e h = ap (first_failing p) (references-components c) ∙ failing-second p _ _ h ∙ ap (λ a. first_failing p (added_references a)) e

pub failing-none : (p : List ℕ → Bool) (c : Components) → (out-Components c).added ≡ None → first_failing p (element_references (elements_of (map component_view (out-Components c).root.items))) ≡ None
    → first_failing p (element_references (elements_of (components_view c))) ≡ None
unfolding added_references
failing-none p c e h = ap (first_failing p) (references-components c) ∙ failing-second p _ _ h ∙ ap (λ a. first_failing p (added_references a)) e

-- A list of components from a place on.
pub failing-here : (p : List ℕ → Bool) (cs : List Component) (i : ℕ) (c : Component) (n : List ℕ) → i < length cs → c ≡ get_or cs i c → first_failing p (references (notation_view c.notation)) ≡ Some n
    → first_failing p (element_references (elements_of (map component_view (drop i cs)))) ≡ Some n
failing-here p cs i c n h e f = ap (λ l. first_failing p (element_references (elements_of (map component_view l)))) (drop_at cs i c h e) ∙ failing-first p (references (notation_view c.notation)) _ n f

pub failing-behind : (p : List ℕ → Bool) (cs : List Component) (i : ℕ) (c : Component) → i < length cs → c ≡ get_or cs i c → first_failing p (references (notation_view c.notation)) ≡ None
    → first_failing p (element_references (elements_of (map component_view (drop i cs)))) ≡ first_failing p (element_references (elements_of (map component_view (drop (i + 1) cs))))
failing-behind p cs i c h e f = ap (λ l. first_failing p (element_references (elements_of (map component_view l)))) (drop_at cs i c h e) ∙ failing-second p (references (notation_view c.notation)) _ f

-- The same of assignments.
pub unassigned-here : (p : List ℕ → Bool) (xs : List code.Assignment) (i : ℕ) (a : code.Assignment) (n : List ℕ) → i < length xs → a ≡ get_or xs i a → first_failing p (references (notation_view a.notation)) ≡ Some n
    → first_failing p (module_references (map assignment_view (drop i xs))) ≡ Some n
unassigned-here p xs i a n h e f = ap (λ l. first_failing p (module_references (map assignment_view l))) (drop_at xs i a h e) ∙ failing-first p (references (notation_view a.notation)) _ n f

pub unassigned-behind : (p : List ℕ → Bool) (xs : List code.Assignment) (i : ℕ) (a : code.Assignment) → i < length xs → a ≡ get_or xs i a → first_failing p (references (notation_view a.notation)) ≡ None
    → first_failing p (module_references (map assignment_view (drop i xs))) ≡ first_failing p (module_references (map assignment_view (drop (i + 1) xs)))
unassigned-behind p xs i a h e f = ap (λ l. first_failing p (module_references (map assignment_view l))) (drop_at xs i a h e) ∙ failing-second p (references (notation_view a.notation)) _ f
