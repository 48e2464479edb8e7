-- Sizes by example, each computed.
use Rattle.std.proofs.Common.{◌≡◌, ℕ, ◌+◌, ◌∷◌, [], Some, None, refl}
use Rattle.asn_lexer.specs.declared.kind.Initial.TheVariants.{Small}
use Rattle.asn_lexer.specs.declared.kind.Kind.TheVariants as kind
use Rattle.asn_lexer.specs.declared.token.Token.{Token}
use Rattle.asn_modules_grammar.specs.declared.notation.number.Constant.TheVariants as constant
use Rattle.asn_modules_grammar.specs.declared.notation.number.Item.{Item}
use Rattle.asn_modules_grammar.specs.declared.notation.number.NamedNumber.{NamedNumber}
use Rattle.asn_modules_rules.specs.sizes.Sizes.{items_size, name_size, numbers_size, past}

-- The name that begins there and has so many bytes.
abbrev word : ℕ → ℕ → Token
word start size = record { kind = kind.Name Small; start = start; end = start + size }

abbrev item : ℕ → ℕ → Item
item start size = record { name = word start size; number = None }

abbrev number : ℕ → ℕ → NamedNumber
number start size = record { name = word start size; number = constant.Name (word 0 1) }

-- { red, green, ..., blue }
three_items : items_size (Some (item 2 3) ∷ Some (item 7 5) ∷ None ∷ Some (item 19 4) ∷ []) ≡ 204
three_items = refl

-- { one(1), three(3) }, by their names alone
two_numbers : numbers_size (number 2 3 ∷ number 10 5 ∷ []) ≡ 136
two_numbers = refl

six : name_size (word 30 6) ≡ 6
six = refl

exact : past 136 136 ≡ Some 0
exact = refl

too_many : past 135 136 ≡ None
too_many = refl
