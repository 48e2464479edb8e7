-- Types with actual parameters, and what names stand for in them.
use Rattle.std.proofs.Common.{◌≡◌, ℕ, ◌+◌, ◌<◌, List, [], ◌∷◌, ◌++◌, map, drop, get_or, length, Bool, true, false, if◌then◌else◌, Option, Some, None, refl, ap, sym, ◌∙◌}
use Rattle.std.proofs.lemmas.List.{drop_more}
use Rattle.std.specs.List.{slice_get}
use Rattle.std.specs.Option.{option_and_then}
use Rattle.std.specs.Str.{bytes_eq}
use Rattle.asn_lexer.specs.declared.token.Token.{Token}
use Rattle.asn_linked_types.specs.Expansion.{no_values}
use Rattle.asn_model.specs.Shape.{Shape}
use Rattle.asn_modules_errors.specs.Slices.{text_of}
use Rattle.asn_modules_names.specs.lookup.Homes.{Home}
use Rattle.asn_modules_names.specs.declared.lookup.sort.Sort.TheVariants.{Templates, Types}
use Rattle.asn_modules_names.proofs.Founds.{listed_all, listed_more, pushed}
use Rattle.asn_modules_names.specs.Mentions.{Source}
use Rattle.asn_modules_grammar.specs.notation.Notation as spec
use Rattle.asn_modules_grammar.specs.notation.Notation.{notations_of}
use Rattle.asn_modules_grammar.specs.notation.View.{notation_view}
use Rattle.asn_modules_grammar.specs.declared.notation.notation.Notation.{Notation}
use Rattle.asn_modules_types.specs.Assigned.{Assigned, assigned, notation_of, parameters_of}
use Rattle.asn_modules_types.specs.Known.{binding_view, included_number, roots_where}
use Rattle.asn_modules_types.specs.Linked.{instance_by, instance_in, no_roots, takes, template_named, template_scope, type_roots}
use Rattle.asn_modules_types.specs.Templates.{Bindings, Finder, argument_number, bindings, bound, listed}
use Rattle.asn_modules_types.specs.Types.{Place, notation_shape}
use Rattle.asn_modules_types.specs.Values.{found_in}
use Rattle.asn_modules_types.specs.declared.scope.Binding.{Binding}

-- The name of a parameter.
pub bound_here : (text : List ℕ) (bs : List Binding) (i : ℕ) (name : Token) (d : Binding) → i < length bs → bytes_eq (text_of text (get_or bs i d).name) (text_of text name) ≡ true → bound text (map binding_view (drop i bs)) name ≡ Some (get_or bs i d).number
bound_here text bs i name d h e =
    ap (λ l. bound text (map binding_view l) name) (drop_more bs i d h) ∙ ap (λ b. if b then Some (get_or bs i d).number else bound text (map binding_view (drop (i + 1) bs)) name) e

-- Parameters with what stands in their places, one at a time.
pub binding_more : (find : Finder) (all : Bindings) (old new : List Binding) (ps qs : List Token) (p : Token) (ns ms : List Notation) (n : Notation) (number : Option ℕ)
    → all ≡ map binding_view old ++ bindings find ps (map notation_view ns) → ps ≡ p ∷ qs → ns ≡ n ∷ ms → number ≡ argument_number find (notation_view n) → new ≡ old ++ record { name = p; number = number } ∷ []
    → all ≡ map binding_view new ++ bindings find qs (map notation_view ms)
binding_more find all old new ps qs p ns ms n number was e f is more =
    listed_more all (map binding_view old) (map binding_view new) ((p, argument_number find (notation_view n)) ∷ []) (bindings find ps (map notation_view ns)) (bindings find qs (map notation_view ms)) was
    (ap (λ l. bindings find l (map notation_view ns)) e ∙ ap (λ l. bindings find (p ∷ qs) (map notation_view l)) f)
    (pushed binding_view old new (record { name = p; number = number }) (p, argument_number find (notation_view n)) more (ap (λ o. (p, o)) is))

pub bindings_end : (find : Finder) (all : Bindings) (old : List Binding) (ps : List Token) (ns : List Notation) → all ≡ map binding_view old ++ bindings find ps (map notation_view ns) → ps ≡ [] → map binding_view old ≡ all
bindings_end find all old ps ns was e = sym (listed_all all (map binding_view old) (bindings find ps (map notation_view ns)) was (ap (λ l. bindings find l (map notation_view ns)) e))

pub bindings_stop : (find : Finder) (all : Bindings) (old : List Binding) (ps qs : List Token) (p : Token) (ns : List Notation) → all ≡ map binding_view old ++ bindings find ps (map notation_view ns) → ps ≡ p ∷ qs → ns ≡ [] → map binding_view old ≡ all
bindings_stop find all old ps qs p ns was e f =
    sym (listed_all all (map binding_view old) (bindings find ps (map notation_view ns)) was (ap (λ l. bindings find l (map notation_view ns)) e ∙ ap (λ l. bindings find (p ∷ qs) (map notation_view l)) f))

pub ruleset binding_steps = (binding_more, bindings_end, bindings_stop)

-- Actual parameters as they are held are listed as they are.
all_listed : (ns : List spec.Notation) → listed (notations_of ns) ≡ ns
all_listed [] = refl
all_listed (n ∷ ns) = ap (λ l. n ∷ l) (all_listed ns)

-- The type with parameters of a name.
pub template_missing : (ss : List Source) (k : ℕ) (h : Home) (home : Option Token) (name : Token) → None ≡ found_in Templates ss k h home name → None ≡ template_named ss k h home name
template_missing ss k h home name e = ap (option_and_then (slice_get (assigned Templates ss))) e

pub template_found : (ss : List Source) (k : ℕ) (h : Home) (home : Option Token) (name : Token) (n : ℕ) (list : List Assigned) (o : Option Assigned) → Some n ≡ found_in Templates ss k h home name → list ≡ assigned Templates ss → o ≡ slice_get list n
    → o ≡ template_named ss k h home name
template_found ss k h home name n list o e all there = there ∙ ap (λ l. slice_get l n) all ∙ ap (option_and_then (slice_get (assigned Templates ss))) e

pub ruleset template_steps = (template_missing, template_found)

-- A type with actual parameters, by where it stands.
module _ (ss : List Source) (limit k : ℕ) (h : Home) (within : Bool) (home : Option Token) (name : Token) where
  module _ (ns : List spec.Notation) where
    abbrev pub meant : Shape
    meant = (roots_where ss limit k h within).instance home name (notations_of ns)

    pub instance_bound : within ≡ true → no_values ≡ meant
    instance_bound e = ap (λ b. (roots_where ss limit k h b).instance home name (notations_of ns)) (sym e)

    plainly : within ≡ false → instance_in ss k h home name (notations_of ns) ≡ meant
    plainly e = ap (λ b. (roots_where ss limit k h b).instance home name (notations_of ns)) (sym e)

    pub instance_missing : within ≡ false → None ≡ template_named ss k h home name → no_values ≡ meant
    instance_missing e m = ap (instance_by ss (found_in Types ss k h) (notations_of ns)) m ∙ plainly e

    module _ (t : Assigned) (outside : within ≡ false) (there : Some t ≡ template_named ss k h home name) where
      abbrev made : Bindings → Shape
      made bs = notation_shape no_roots (template_scope ss t bs) (notation_of t.assignment)

      abbrev chosen : Bool → Shape
      chosen b = if b then made (bindings (found_in Types ss k h) (parameters_of t.assignment) (listed (notations_of ns))) else no_values

      by_taking : (b : Bool) → takes ss (length ns) t ≡ b → chosen b ≡ meant
      by_taking b e =
          sym (ap chosen (ap (λ l. takes ss (length l) t) (all_listed ns) ∙ e)) ∙ ap (instance_by ss (found_in Types ss k h) (notations_of ns)) there ∙ plainly outside

      pub instance_refused : takes ss (length ns) t ≡ false → no_values ≡ meant
      instance_refused e = by_taking false e

      pub instance_taken : (bs : Bindings) (held : spec.Notation) (s : Shape) → takes ss (length ns) t ≡ true → bs ≡ bindings (found_in Types ss k h) (parameters_of t.assignment) ns → held ≡ notation_of t.assignment
          → s ≡ notation_shape no_roots (template_scope ss t bs) held → s ≡ meant
      instance_taken bs held s e b is v =
          v ∙ ap (notation_shape no_roots (template_scope ss t bs)) is ∙ ap made (b ∙ ap (bindings (found_in Types ss k h) (parameters_of t.assignment)) (sym (all_listed ns))) ∙ by_taking true e

  -- A name after COMPONENTS OF, by where it stands.
  pub roots_found : (place : Place) → option_and_then (λ n. type_roots ss limit n place) (included_number ss k h within home name) ≡ (roots_where ss limit k h within).components place home name
  roots_found place = by within
    where
      by : (b : Bool) → option_and_then (λ n. type_roots ss limit n place) (included_number ss k h b home name) ≡ (roots_where ss limit k h b).components place home name
      by true = refl
      by false = refl
