-- Object classes and their fields (X.681), which are passed over.
use Rattle.std.specs.Prelude.{List, [], ◌∷◌, drop, Bool, true, false, not, ◌&&◌, if◌then◌else◌, Option, Some, None}
use Rattle.std.specs.Option.{option_and_then}
use Rattle.asn_lexer.specs.declared.token.Token.{Token}
use Rattle.asn_modules_grammar.specs.headers.Fronts.{first_is, is_name}
use Rattle.asn_modules_grammar.specs.headers.Groups.{past_groups}
use Rattle.asn_modules_grammar.specs.declared.headers.group.Group.TheVariants.{Braces}
use Rattle.asn_modules_grammar.specs.notation.Kinds.{past, is_ampersand, is_class_word, is_of, is_open_brace, is_point, is_small, is_syntax, is_with}

-- A point and `&` stand here: the name of a field follows.
abbrev pub begins_field : List Token → Bool
begins_field (p ∷ a ∷ u) = is_point p.kind && is_ampersand a.kind
begins_field u = false

-- The name of a value stands here: one that begins with a small letter, and no fields after it.
abbrev pub names_value : List Token → Bool
names_value [] = false
names_value (t ∷ u) = is_small t.kind && not (begins_field u)

abbrev mutual
  -- What follows the fields that stand here, each of a point, `&` and a name.
  pub past_fields : List Token → Option (List Token)
  past_fields (p ∷ a ∷ u) =
      if is_point p.kind && is_ampersand a.kind then past_names u else Some (p ∷ a ∷ u)
  past_fields u = Some u

  -- So after the point and `&` of one.
  pub past_names : List Token → Option (List Token)
  past_names [] = None
  past_names (t ∷ u) = if is_name t.kind then past_fields u else None

-- What follows a group in braces.
abbrev pub past_braces : List Token → Option (List Token)
past_braces u = option_and_then (past_groups (Braces ∷ [])) (past is_open_brace u)

-- What follows the syntax of a class, if WITH stands here.
abbrev pub past_syntax : List Token → Option (List Token)
past_syntax u =
    if first_is is_with u then option_and_then past_braces (past is_syntax (drop 1 u)) else Some u

-- What follows an object class after CLASS.
abbrev pub past_class : List Token → Option (List Token)
past_class u = option_and_then past_syntax (past_braces u)

-- What follows OF and the name of a class.
abbrev pub past_instance : List Token → Option (List Token)
past_instance u = option_and_then (past is_class_word) (past is_of u)
