-- The names of types that a module assigns and refers to.
use Rattle.std.specs.Prelude.{ℕ, List, [], ◌∷◌, ◌++◌, Bool, if◌then◌else◌, Option, Some, None, map}
use Rattle.asn_model.specs.Shape.{is_item}
use Rattle.asn_notation.specs.Notation.{Notation, Elements, Assignment, members, list_of, choice, reference, component, marker, no_elements, element}

-- The names that are assigned, in order.
abbrev pub assigned_names : List Assignment → List (List ℕ)
assigned_names assignments = map (λ a. a.name) assignments

abbrev mutual
  -- The names of types that the notation refers to, in the order of its text.
  pub references : Notation → List (List ℕ)
  references (members kind es) = element_references es
  references (list_of kind n) = references n
  references (choice es) = element_references es
  references (reference name) = name ∷ []
  references n = []

  -- Those that the elements refer to.
  pub element_references : Elements → List (List ℕ)
  element_references no_elements = []
  element_references (element (component name n optional) es) = references n ++ element_references es
  element_references (element marker es) = element_references es

-- The names that the assignments refer to, in the order of their text.
abbrev pub module_references : List Assignment → List (List ℕ)
module_references [] = []
module_references (a ∷ more) = references a.notation ++ module_references more

-- The first name that fails a test.
abbrev pub first_failing : (List ℕ → Bool) → List (List ℕ) → Option (List ℕ)
first_failing p [] = None
first_failing p (n ∷ ns) = if p n then first_failing p ns else Some n

-- The first name that is among those before it, some of which are given.
abbrev pub first_repeated_in : List (List ℕ) → List (List ℕ) → Option (List ℕ)
first_repeated_in before [] = None
first_repeated_in before (n ∷ ns) = if is_item before n then Some n else first_repeated_in (before ++ n ∷ []) ns

-- The name of the first assignment whose name was assigned before.
abbrev pub first_repeated : List Assignment → Option (List ℕ)
first_repeated assignments = first_repeated_in [] (assigned_names assignments)

-- The first name that is referred to and not assigned.
abbrev pub first_unassigned : List Assignment → Option (List ℕ)
first_unassigned assignments = first_failing (λ n. is_item (assigned_names assignments) n) (module_references assignments)
