-- What the items of braces are so far (X.680, clauses 25 and 26).
use Rattle.std.specs.Prelude.{Bool, true, false, ◌&&◌, ◌==◌, if◌then◌else◌, Option, Some, None}
use Rattle.avn_places.specs.declared.braces.Braces.{Braces}
use Rattle.avn_places.specs.declared.braces.Item.{Item}
use Rattle.avn_places.specs.declared.braces.Item.TheVariants.{Named, Other, Plain}

-- Braces before their first item.
abbrev pub new_braces : Braces
new_braces = record { named = None; are_integers = true }

-- The item has a name.
abbrev pub is_named : Item → Bool
is_named Named = true
is_named Other = false
is_named Plain = false

-- The item may be an integer: it begins with no name.
abbrev pub is_plain : Item → Bool
is_plain Named = false
is_plain Other = false
is_plain Plain = true

-- The items so far have names or not as this one, or there are none.
abbrev pub agrees : Option Bool → Bool → Bool
agrees None b = true
agrees (Some true) b = b
agrees (Some false) true = false
agrees (Some false) false = true

-- The braces with this item more. Either all items have names or none has.
abbrev pub with_item : Braces → Item → Option Braces
with_item b i =
    if agrees b.named (is_named i)
    then Some
    (record { named = Some (is_named i); are_integers = b.are_integers && is_plain i })
    else None

-- The braces after a value of theirs, which is an integer or not.
abbrev pub behind_value : Braces → Bool → Braces
behind_value b i = record { named = b.named; are_integers = b.are_integers && i }
