-- The names of modules, and those that they assign.
use Rattle.std.specs.Prelude.{ℕ, List, [], ◌∷◌, ◌++◌, map, filter_map, Option, Some, None}
use Rattle.std.specs.Option.{option_map, option_or}
use Rattle.asn_lexer.specs.declared.token.Token.{Token}
use Rattle.asn_modules_errors.specs.declared.cause.NameRule.TheVariants.{AssignedTwice, ModuleTwice}
use Rattle.asn_modules_names.specs.Faults.{Fault}
use Rattle.asn_modules_names.specs.Mentions.{Mention, Source, mention_in}
use Rattle.asn_modules_names.specs.Repeats.{repeated}
use Rattle.asn_modules_grammar.specs.notation.Modules.{Assignment, Module, type_assignment, value_assignment, template_assignment}

-- The first that f finds in the list.
abbrev pub first_found : {A B : Type 0} → (A → Option B) → List A → Option B
first_found f [] = None
first_found f (x ∷ xs) = option_or (f x) (first_found f xs)

-- The name of the module, if it has one.
abbrev pub module_name : Module → Option Token
module_name m = option_map (λ h. h.opening.name) m.header

-- The names of these modules of the text, in order.
abbrev pub module_names : Source → List Module → List Mention
module_names s ms = filter_map (λ m. option_map (λ t. mention_in s t) (module_name m)) ms

-- The names of the modules of all texts, in order.
abbrev pub all_module_names : List Source → List Mention
all_module_names [] = []
all_module_names (s ∷ ss) = module_names s s.modules ++ all_module_names ss

-- The name that is assigned.
abbrev pub assigned_name : Assignment → Token
assigned_name (type_assignment name n) = name
assigned_name (value_assignment name n value) = name
assigned_name (template_assignment name ps n) = name

-- The names that these assignments of the text assign, to types and values, in order.
abbrev pub assigned_names : Source → List Assignment → List Mention
assigned_names s assignments = map (λ a. mention_in s (assigned_name a)) assignments

-- The first name that the module of this text assigns a second time.
abbrev pub assigned_twice : Source → Module → Option Fault
assigned_twice s m = repeated AssignedTwice (assigned_names s m.assignments)

-- The first name that a module of the text assigns a second time.
abbrev pub assigned_again : Source → Option Fault
assigned_again s = first_found (assigned_twice s) s.modules

-- The first module whose name another one before it has.
abbrev pub named_again : List Source → Option Fault
named_again ss = repeated ModuleTwice (all_module_names ss)
