-- The grammar of modules (X.680, section 13, with the macros of X.208): which modules tokens stand
-- for.
use Rattle.std.specs.Prelude.{ℕ, ◌≡◌, ◌≢◌, List, [], ◌∷◌, drop, Bool, true, false, not, ◌&&◌, ◌||◌, if◌then◌else◌, Option, Some, None}
use Rattle.std.specs.Option.{option_map}
use Rattle.asn_lexer.specs.declared.keyword.Keyword.TheVariants as keyword
use Rattle.asn_lexer.specs.declared.kind.Kind.TheVariants as kind
use Rattle.asn_lexer.specs.declared.token.Token.{Token}
use Rattle.asn_modules_grammar.specs.headers.Fronts.{first_is, first_of, is_name}
use Rattle.asn_modules_grammar.specs.headers.Groups.{past_optional_braces}
use Rattle.asn_modules_grammar.specs.headers.Headers.{Header, HeaderParses, names_at}
use Rattle.asn_modules_grammar.specs.notation.Grammar.{NotationParses}
use Rattle.asn_modules_grammar.specs.notation.Kinds.{assigned_at, first_kind, is_assignment, is_close_brace, is_definitions, is_open_brace, is_small, is_syntax}
use Rattle.asn_modules_grammar.specs.notation.Macros.{assigned_value_at, clauses_at, is_capital, is_macro, macro_named, macro_type, macro_value_at, opens_clause, past_definition}
use Rattle.asn_modules_grammar.specs.notation.Notation.{Notation, notation, leaf}
use Rattle.asn_modules_grammar.specs.declared.notation.leaf.Closed.TheVariants.{Parameterized}
use Rattle.asn_modules_grammar.specs.declared.notation.leaf.Leaf.TheVariants.{Closed}
use Rattle.asn_modules_grammar.specs.declared.notation.value.Value.{Value}
use Rattle.asn_modules_grammar.specs.declared.notation.value.Value.TheVariants.{Other}

-- A name, and what is assigned to it.
pub data Assignment : Type 0 where
  type_assignment : Token → Notation → Assignment
  -- The type of the value, and the value.
  value_assignment : Token → Notation → Value → Assignment
  -- The names of the parameters, and the type.
  template_assignment : Token → List Token → Notation → Assignment

-- A module; without a header where a text has assignments alone.
pub record Module : Type 0 where
  pub header : Option Header
  pub assignments : List Assignment

-- The type is assigned here after `::=`. After the name of a macro and its clauses it is the type
-- after SYNTAX, or else that of the macro.
pub data AssignedParses (limit : ℕ) : List Token → Notation → List Token → Type 0 where
  plain_parses : {u rest : List Token} {n : Notation} → clauses_at u ≡ None
      → NotationParses limit 0 u n rest → AssignedParses limit u n rest
  syntax_parses : {u v rest : List Token} {n : Notation} → clauses_at u ≡ Some v
      → first_is is_syntax v ≡ true → NotationParses limit 0 (drop 1 v) n rest
      → AssignedParses limit u n rest
  clauses_parse : {u v : List Token} {t : Token} → clauses_at u ≡ Some v
      → first_is is_syntax v ≡ false → first_of u ≡ Some t
      → AssignedParses limit u (macro_named t) v

-- What is assigned to the name by a macro: MACRO and what defines one stands here, or the name of a
-- macro and clauses of its notation. `None` where neither does.
abbrev pub macro_at : Token → List Token → Option (Option (Assignment × List Token))
macro_at name [] = None
macro_at name (t ∷ u) =
    if is_macro t.kind
    then Some (option_map (λ v. (type_assignment name macro_type, v)) (past_definition u))
    else if is_capital t.kind && first_is opens_clause u
    then Some
    (option_map (λ p. (value_assignment name (macro_named t) p.0, p.1)) (macro_value_at name u))
    else None

-- Without parameters, the assignment to the name goes on here, and the rest follows it. The first
-- tokens tell its kind. After `::=` a type is assigned to no name that begins with a small letter.
pub data BodyParses (limit : ℕ) (name : Token) : List Token → Assignment → List Token → Type 0 where
  type_parses : {u rest : List Token} {n : Notation} → first_kind u ≡ Some kind.Assignment
      → is_small name.kind ≡ false → AssignedParses limit (drop 1 u) n rest
      → BodyParses limit name u (type_assignment name n) rest
  macro_parses : {u rest : List Token} {a : Assignment} → macro_at name u ≡ Some (Some (a, rest))
      → BodyParses limit name u a rest
  value_parses : {u v rest : List Token} {n : Notation} {x : Value}
      → first_kind u ≢ Some kind.Assignment → macro_at name u ≡ None → NotationParses limit 0 u n v
      → first_kind v ≡ Some kind.Assignment → assigned_value_at (drop 1 v) ≡ Some (x, rest)
      → BodyParses limit name u (value_assignment name n x) rest

-- A type with parameters that aren't all types, which has no values.
abbrev pub parameterized : Notation
parameterized = notation [] (leaf (Closed Parameterized)) []

-- Names with a brace after them that closes.
abbrev pub names_closed : Option (List Token × List Token) → Option (List Token)
names_closed None = None
names_closed (Some p) = if first_is is_close_brace p.1 then Some p.0 else None

-- The names of the parameters in braces that open here, if they are names alone.
abbrev pub parameters_at : List Token → Option (List Token)
parameters_at u = names_closed (names_at (drop 1 u))

-- What an assignment with parameters is: their names, if they are names alone, and what is
-- assigned.
abbrev pub with_parameters : Option (List Token) → Assignment → Assignment
with_parameters (Some ps) (type_assignment name n) = template_assignment name ps n
with_parameters None (type_assignment name n) = type_assignment name parameterized
with_parameters ps (value_assignment name n x) = value_assignment name parameterized (Other name)
with_parameters ps (template_assignment name qs n) = template_assignment name qs n

-- What is assigned to a name that these tokens follow, by what stands after its parameters.
abbrev pub assigned_by : List Token → Assignment → Assignment
assigned_by u a = if first_is is_open_brace u then with_parameters (parameters_at u) a else a

-- The assignment stands at the front of the tokens, and the rest follows it.
pub data AssignmentParses (limit : ℕ) : List Token → Assignment → List Token → Type 0 where
  assignment_parses : {u v w rest : List Token} {name : Token} {a : Assignment}
      → assigned_at u ≡ Some (name, v) → past_optional_braces v ≡ Some w
      → BodyParses limit name w a rest → AssignmentParses limit u (assigned_by v a) rest

-- These assignments stand up to the first place where nothing is assigned.
pub data AssignmentsParse (limit : ℕ) : List Token → List Assignment → List Token → Type 0 where
  no_assignments : {u : List Token} → assigned_at u ≡ None → AssignmentsParse limit u [] u
  next_assignment : {u v rest : List Token} {a : Assignment} {more : List Assignment}
      → AssignmentParses limit u a v → AssignmentsParse limit v more rest
      → AssignmentsParse limit u (a ∷ more) rest

-- The modules are all that the tokens stand for: each is a header, assignments and END.
pub data ModulesParse (limit : ℕ) : List Token → List Module → Type 0 where
  no_modules : ModulesParse limit [] []
  next_module : {u v w : List Token} {h : Header} {found : List Assignment} {more : List Module}
      → HeaderParses u h v → AssignmentsParse limit v found w
      → first_kind w ≡ Some (kind.Reserved keyword.End) → ModulesParse limit (drop 1 w) more
      → ModulesParse limit u (record { header = Some h; assignments = found } ∷ more)

-- Something is assigned here.
abbrev pub assigns : Option (List Token) → Bool
assigns None = false
assigns (Some u) = first_is is_assignment u

-- After a name, a module goes on: with DEFINITIONS, or braces that nothing is assigned after.
abbrev pub names_module : List Token → Bool
names_module u =
    first_is is_definitions u
    || (first_is is_open_brace u && not (assigns (past_optional_braces u)))

-- A module begins here.
abbrev pub begins_module : List Token → Bool
begins_module u = first_is is_name u && names_module (drop 1 u)

-- The tokens of a whole text stand for these modules: for a list of them where one begins, else for
-- assignments alone.
pub data TextParses (limit : ℕ) : List Token → List Module → Type 0 where
  modules_parse : {u : List Token} {ms : List Module} → begins_module u ≡ true
      → ModulesParse limit u ms → TextParses limit u ms
  assignments_parse : {u : List Token} {found : List Assignment} → begins_module u ≡ false
      → AssignmentsParse limit u found []
      → TextParses limit u (record { header = None; assignments = found } ∷ [])
