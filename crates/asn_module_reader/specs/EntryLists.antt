-- The entries of a list between braces, of which `None` is the extension marker.
use Rattle.std.specs.Prelude.{◌≡◌, List, ◌++◌, map, Bool, true, false, Option, Some, None}
use Rattle.asn_notation.specs.Notation.{any}
use Rattle.asn_notation.specs.View.{marked}
use Rattle.asn_module_reader.specs.declared.entries.Entries.{Entries}

-- The entry is the extension marker.
abbrev pub is_marker : {A : Type 0} → Option A → Bool
is_marker None = true
is_marker (Some x) = false

-- The entries in order.
abbrev pub entries_of : {A : Type 0} → Entries A → List (Option A)
entries_of es = map (λ x. Some x) es.root.items ++ marked (λ x. Some x) None es.added

-- The entry may stand behind these: it is no second extension marker.
abbrev pub Allows : {A : Type 0} → (A → Bool) → List A → A → Type 0
Allows p xs x = p x ≡ true → any p xs ≡ false
