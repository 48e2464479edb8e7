-- What names of types are followed to.
use Rattle.std.proofs.Common.{◌≡◌, ℕ, ℤ, zero, suc, ◌+◌, List, [], ◌∷◌, Bool, true, false, if◌then◌else◌, Option, Some, None, refl, sym, ap, ◌∙◌, arith}
use Rattle.std.specs.List.{slice_get}
use Rattle.std.specs.Str.{bytes_eq}
use Rattle.asn_linked_types.specs.Expansion.{no_values}
use Rattle.asn_model.specs.Shape.{Shape}
use Rattle.asn_modules_errors.specs.Slices.{text_of}
use Rattle.asn_modules_names.specs.lookup.Homes.{Home}
use Rattle.asn_modules_names.specs.declared.lookup.sort.Sort.TheVariants.{Types}
use Rattle.asn_modules_names.specs.Mentions.{Source}
use Rattle.asn_modules_grammar.specs.notation.Notation.{Notation, bit_string, choice, enumerated, instance_of, integer, leaf, list_of, members, notation, reference}
use Rattle.asn_modules_grammar.specs.declared.notation.number.Constant.{Constant}
use Rattle.asn_modules_grammar.specs.declared.notation.number.Constant.TheVariants as constant
use Rattle.asn_modules_grammar.specs.declared.notation.number.NamedNumber.{NamedNumber}
use Rattle.asn_modules_types.specs.Assigned.{Assigned, assigned, notation_of}
use Rattle.asn_modules_types.specs.Linked.{base_of, is_numbered, named_by, named_type, no_roots, number_by, number_word, numbered_shape, opened_type, plain_scope, roots_by, scope_of, type_roots}
use Rattle.asn_modules_types.specs.Numbers.{constant_in, named_number}
use Rattle.asn_modules_types.specs.Types.{Place, notation_shape, number_in_type}

-- No more names are followed.
pub follows_none : (ss : List Source) (more n : ℕ) → more ≡ 0 → named_type ss more n ≡ no_values
unfolding named_type
follows_none ss zero n e = refl
follows_none ss (suc more) n e = absurd (omega (arith, e))

pub follows_word_none : (ss : List Source) (more n : ℕ) (word : List ℕ) → more ≡ 0 → number_word ss more n word ≡ None
unfolding number_word
follows_word_none ss zero n word e = refl
follows_word_none ss (suc more) n word e = absurd (omega (arith, e))

pub roots_none : (ss : List Source) (more n : ℕ) (place : Place) → more ≡ 0 → type_roots ss more n place ≡ None
unfolding type_roots
roots_none ss zero n place e = refl
roots_none ss (suc more) n place e = absurd (omega (arith, e))

-- The type is assigned, or missing.
follows_once : (ss : List Source) (less n : ℕ) → named_type ss (suc less) n ≡ named_by ss (named_type ss less) (number_word ss less) n (slice_get (assigned Types ss) n)
unfolding named_type
follows_once ss less n = refl

follows_word_once : (ss : List Source) (less n : ℕ) (word : List ℕ) → number_word ss (suc less) n word ≡ number_by ss (number_word ss less) (slice_get (assigned Types ss) n) word
unfolding number_word
follows_word_once ss less n word = refl

roots_once : (ss : List Source) (less n : ℕ) (place : Place) → type_roots ss (suc less) n place ≡ roots_by ss (type_roots ss less) place (slice_get (assigned Types ss) n)
unfolding type_roots
roots_once ss less n place = refl

module _ (ss : List Source) (more less n : ℕ) (above : more ≡ less + 1) (list : List Assigned) (all : list ≡ assigned Types ss) where
  above_suc : more ≡ suc less
  above_suc = omega (arith, above)

  pub follows : (o : Option Assigned) → o ≡ slice_get list n → named_by ss (named_type ss less) (number_word ss less) n o ≡ named_type ss more n
  follows o e =
      ap (named_by ss (named_type ss less) (number_word ss less) n) (e ∙ ap (λ l. slice_get l n) all) ∙ sym (follows_once ss less n) ∙ ap (λ k. named_type ss k n) (sym above_suc)

  pub follows_word : (word : List ℕ) (o : Option Assigned) → o ≡ slice_get list n → number_by ss (number_word ss less) o word ≡ number_word ss more n word
  follows_word word o e =
      ap (λ x. number_by ss (number_word ss less) x word) (e ∙ ap (λ l. slice_get l n) all) ∙ sym (follows_word_once ss less n word) ∙ ap (λ k. number_word ss k n word) (sym above_suc)

  pub follows_roots : (place : Place) (o : Option Assigned) → o ≡ slice_get list n → roots_by ss (type_roots ss less) place o ≡ type_roots ss more n place
  follows_roots place o e =
      ap (roots_by ss (type_roots ss less) place) (e ∙ ap (λ l. slice_get l n) all) ∙ sym (roots_once ss less n place) ∙ ap (λ k. type_roots ss k n place) (sym above_suc)

  -- A type with parts or items is named by its number, and another one has its shape.
  module _ (t : Assigned) (there : Some t ≡ slice_get list n) (held : Notation) (is : notation_of t.assignment ≡ held) where
    abbrev chosen : Bool → Notation → Shape
    chosen b x = if b then Shape.back n else notation_shape no_roots (scope_of ss less t.number t.home) x

    pub follows_number : is_numbered (base_of held) ≡ true → Shape.back n ≡ named_type ss more n
    follows_number e = sym (ap (λ b. chosen b held) e) ∙ sym (ap (λ x. chosen (is_numbered (base_of x)) x) is) ∙ follows (Some t) there

    pub follows_unit : is_numbered (base_of held) ≡ false → notation_shape no_roots (scope_of ss less t.number t.home) held ≡ named_type ss more n
    follows_unit e = sym (ap (λ b. chosen b held) e) ∙ sym (ap (λ x. chosen (is_numbered (base_of x)) x) is) ∙ follows (Some t) there

-- What words name doesn't depend on the shapes of types.
module _ (ss : List Source) (k : ℕ) (h : Home) (f g : ℕ → Shape) (numbers : ℕ → List ℕ → Option (Option ℤ)) where
  constants_same : (c : Constant) → constant_in (plain_scope ss k h f numbers) c ≡ constant_in (plain_scope ss k h g numbers) c
  constants_same (constant.Number n) = refl
  constants_same (constant.Name t) = refl

  words_same : (ns : List NamedNumber) (word : List ℕ) → named_number (plain_scope ss k h f numbers) ns word ≡ named_number (plain_scope ss k h g numbers) ns word
  words_same [] word = refl
  words_same (n ∷ ns) word =
      ap (λ o. if bytes_eq (text_of h.source.text n.name) word then Some o else named_number (plain_scope ss k h f numbers) ns word) (constants_same n.number)
      ∙ ap (λ o. if bytes_eq (text_of h.source.text n.name) word then Some (constant_in (plain_scope ss k h g numbers) n.number) else o) (words_same ns word)

  pub numbers_same : (n : Notation) (word : List ℕ) → number_in_type (plain_scope ss k h f numbers) n word ≡ number_in_type (plain_scope ss k h g numbers) n word
  numbers_same (notation tags (integer ns) sizes) word = words_same ns word
  numbers_same (notation tags (reference home name) sizes) word = refl
  numbers_same (notation tags (leaf l) sizes) word = refl
  numbers_same (notation tags (bit_string ns) sizes) word = refl
  numbers_same (notation tags (enumerated items) sizes) word = refl
  numbers_same (notation tags (members kind ms) sizes) word = refl
  numbers_same (notation tags (list_of kind n) sizes) word = refl
  numbers_same (notation tags (choice ms) sizes) word = refl
  numbers_same (notation tags (instance_of home name ns) sizes) word = refl

-- The number that a word names in a type that is assigned.
pub word_assigned : (ss : List Source) (more less n : ℕ) (list : List Assigned) (t : Assigned) (held : Notation) (word : List ℕ) → more ≡ less + 1 → list ≡ assigned Types ss → Some t ≡ slice_get list n → notation_of t.assignment ≡ held
    → number_in_type (scope_of ss less t.number t.home) held word ≡ number_word ss more n word
word_assigned ss more less n list t held word above all there is =
    numbers_same ss t.number t.home (named_type ss less) (λ n. no_values) (number_word ss less) held word
    ∙ ap (λ x. number_in_type (plain_scope ss t.number t.home (λ n. no_values) (number_word ss less)) x word) (sym is)
    ∙ follows_word ss more less n above list all word (Some t) there

-- A number, opened.
pub opened_number : (ss : List Source) (s : Shape) (n : ℕ) (list : List Assigned) (o : Option Assigned) → s ≡ Shape.back n → list ≡ assigned Types ss → o ≡ slice_get list n → opened_type ss s ≡ numbered_shape ss o
opened_number ss s n list o e all there = ap (opened_type ss) e ∙ ap (numbered_shape ss) (sym (there ∙ ap (λ l. slice_get l n) all))
