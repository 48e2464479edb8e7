-- Entries that follow one another.
use Rattle.std.specs.Prelude.{◌≡◌, List, [], ◌∷◌, drop, Bool, true, false, Option, Some}
use Rattle.asn_lexer.specs.declared.kind.Kind.{Kind}
use Rattle.asn_lexer.specs.declared.kind.Kind.TheVariants as kind
use Rattle.asn_lexer.specs.declared.token.Token.{Token}
use Rattle.asn_modules_grammar.specs.headers.Fronts.{first_is}
use Rattle.asn_modules_grammar.specs.notation.Kinds.{first_kind}

-- From the tokens these entries stand up to the first token that begins none.
pub data Repeated {A : Type 0} (begins : Kind → Bool)
    (entry_at : List Token → Option (A × List Token))
    : List Token → List A → List Token → Type 0 where
  no_more : {u : List Token} → first_is begins u ≡ false → Repeated begins entry_at u [] u
  one_more : {u v rest : List Token} {x : A} {xs : List A} → first_is begins u ≡ true
      → entry_at u ≡ Some (x, v) → Repeated begins entry_at v xs rest
      → Repeated begins entry_at u (x ∷ xs) rest

-- From the tokens these entries stand with commas between them up to the brace that closes them,
-- and the rest follows that.
pub data Listed {A : Type 0} (entry_at : List Token → Option (A × List Token))
    : List Token → List A → List Token → Type 0 where
  last_entry : {u v : List Token} {x : A} → entry_at u ≡ Some (x, v)
      → first_kind v ≡ Some kind.CloseBrace → Listed entry_at u (x ∷ []) (drop 1 v)
  next_entry : {u v rest : List Token} {x : A} {xs : List A} → entry_at u ≡ Some (x, v)
      → first_kind v ≡ Some kind.Comma → Listed entry_at (drop 1 v) xs rest
      → Listed entry_at u (x ∷ xs) rest
