-- How many bytes names, items and named numbers count.
use Rattle.std.specs.Prelude.{ℕ, ◌+◌, ◌-◌, nat_le, List, if◌then◌else◌, Option, Some, None}
use Rattle.std.specs.List.{sum_by}
use Rattle.asn_lexer.specs.declared.token.Token.{Token}
use Rattle.asn_modules_grammar.specs.declared.notation.number.Item.{Item}
use Rattle.asn_modules_grammar.specs.declared.notation.number.NamedNumber.{NamedNumber}
use Rattle.asn_modules_rules.specs.declared.sizes.sizes.TheConstants.{ENTRY_SIZE}

-- What is left of so many bytes after the size, if there are as many.
abbrev pub past : ℕ → ℕ → Option ℕ
past left size = if nat_le size left then Some (left - size) else None

abbrev pub name_size : Token → ℕ
name_size name = name.end - name.start

-- An item or a named number of the name.
abbrev pub entry_size : Token → ℕ
entry_size name = ENTRY_SIZE + name_size name

abbrev pub numbers_size : List NamedNumber → ℕ
numbers_size ns = sum_by (λ n. entry_size n.name) ns

-- An item, or the extension marker, which counts nothing.
abbrev pub item_size : Option Item → ℕ
item_size None = 0
item_size (Some i) = entry_size i.name

abbrev pub items_size : List (Option Item) → ℕ
items_size is = sum_by item_size is
