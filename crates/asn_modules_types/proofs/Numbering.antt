-- Named numbers of types that are assigned, by their table.
use Rattle.std.proofs.Common.{◌≡◌, ◌≤◌, ◌<◌, ℕ, ℤ, ◌+◌, List, [], ◌∷◌, ◌++◌, map, drop, get_or, length, Bool, true, false, if◌then◌else◌, Option, Some, refl, sym, ap, subst, ◌∙◌}
use Rattle.std.proofs.lemmas.List.{drop_all}
use Rattle.std.proofs.lemmas.Option.{slice_get-map}
use Rattle.std.specs.Global.{Vec}
use Rattle.std.specs.List.{slice_get}
use Rattle.std.specs.Option.{option_and_then, option_map}
use Rattle.std.specs.Str.{bytes_eq}
use Rattle.asn_lexer.specs.declared.token.Token.{Token}
use Rattle.asn_modules_errors.specs.Slices.{text_of}
use Rattle.asn_modules_names.specs.declared.lookup.sort.Sort.TheVariants.{Types}
use Rattle.asn_modules_types.specs.named_numbers.Named.{StatedType, constant_named, first_named, numbers_in}
use Rattle.asn_modules_types.specs.named_numbers.Numbers.{AreNumbersOf}
use Rattle.asn_modules_types.specs.named_numbers.Views.{type_view}
use Rattle.asn_modules_types.specs.declared.named_numbers.entries.StatedType as code_stated
use Rattle.asn_modules_types.specs.declared.named_numbers.numbers.NamedNumbers.{NamedNumbers}
use Rattle.asn_modules_names.proofs.Founds.{drop_at, listed_more, pushed}
use Rattle.asn_modules_names.specs.Mentions.{Source}
use Rattle.asn_modules_grammar.specs.notation.Notation.{Base, Notation, bit_string, choice, enumerated, instance_of, integer, leaf, list_of, members, notation, reference}
use Rattle.asn_modules_grammar.specs.notation.Notation as spec
use Rattle.asn_modules_grammar.specs.notation.View.{base_step, component_step, extension_step, member_step, members_step, notation_step, notation_view}
use Rattle.asn_modules_grammar.specs.declared.notation.notation.Base as code_base
use Rattle.asn_modules_grammar.specs.declared.notation.notation.Base.{out-Base, roll-Base, roll-out-Base}
use Rattle.asn_modules_grammar.specs.declared.notation.notation.Base.TheFolds.{fold-roll-Base}
use Rattle.asn_modules_grammar.specs.declared.notation.notation.Base.TheOpen as layer
use Rattle.asn_modules_grammar.specs.declared.notation.notation.Base.TheVariants.{Integer, Reference, rolls-Reference}
use Rattle.asn_modules_grammar.specs.declared.notation.notation.Notation as code_notation
use Rattle.asn_modules_grammar.specs.declared.notation.notation.Notation.{out-Notation}
use Rattle.asn_modules_grammar.specs.declared.notation.number.Constant.{Constant}
use Rattle.asn_modules_grammar.specs.declared.notation.number.NamedNumber.{NamedNumber}
use Rattle.asn_modules_reader.proofs.Viewing.{integer_viewed}
use Rattle.asn_modules_reader.specs.Views.{base_view}
use Rattle.asn_modules_types.specs.Assigned.{Assigned, assigned, notation_of, stated_type}
use Rattle.asn_modules_types.specs.Known.{assigned_view}
use Rattle.asn_modules_types.specs.Linked.{base_of, number_word, scope_of}
use Rattle.asn_modules_types.specs.Numbers.{constant_in, named_number}
use Rattle.asn_modules_types.specs.Scopes.{Scope}
use Rattle.asn_modules_types.specs.Types.{number_in_type}
use Rattle.asn_modules_types.specs.Values.{found_in}
use Rattle.asn_modules_types.specs.declared.assigned.Assigned as code_assigned
use Rattle.asn_modules_types.proofs.Following.{word_assigned}
use Rattle.asn_modules_types.proofs.Seen.{notation_out}

-- The first named number of a name leads to what it names.
led_by : (b : Bool) (f : Constant → Option ℤ) (c : Constant) (o : Option (Option ℤ)) (p : Option Constant) → o ≡ option_map f p → (if b then Some (f c) else o) ≡ option_map f (if b then Some c else p)
led_by true f c o p e = refl
led_by false f c o p e = e

numbers_led : (s : Scope) (ns : List NamedNumber) (word : List ℕ) → named_number s ns word ≡ option_map (constant_in s) (first_named s.text ns word)
numbers_led s [] word = refl
numbers_led s (n ∷ ns) word = led_by (bytes_eq (text_of s.text n.name) word) (constant_in s) n.number (named_number s ns word) (first_named s.text ns word) (numbers_led s ns word)

-- The type is the name of another one.
abbrev pub is_name : Base → Bool
is_name (reference home name) = true
is_name b = false

-- A name, as it is held.
name_viewed : (home : Option Token) (name : Token) → base_view (Reference home name) ≡ reference home name
name_viewed home name = ap base_view (sym (rolls-Reference home name)) ∙ fold-roll-Base spec.Base spec.Member spec.Member (List spec.Member) (List spec.Member) spec.Notation base_step component_step member_step extension_step members_step notation_step (layer.Reference home name)

-- Another type, as it is held.
no_name : (b : code_base.Base) → ((home : Option Token) (name : Token) → b ≡ Reference home name → ⊥) → is_name (base_view b) ≡ false
no_name b other = by (out-Base b) (roll-out-Base b)
  where
    plain : (l : _) → roll-Base l ≡ b → is_name (base_view (roll-Base l)) ≡ false → is_name (base_view b) ≡ false
    plain l e f = ap (λ x. is_name (base_view x)) (sym e) ∙ f

    by : (l : _) → roll-Base l ≡ b → is_name (base_view b) ≡ false
    by (layer.Reference home name) e = absurd (other home name (sym e ∙ rolls-Reference home name))
    by (layer.Leaf l) e = plain (layer.Leaf l) e (ap is_name (fold-roll-Base spec.Base spec.Member spec.Member (List spec.Member) (List spec.Member) spec.Notation base_step component_step member_step extension_step members_step notation_step (layer.Leaf l)))
    by (layer.Integer ns) e = plain (layer.Integer ns) e (ap is_name (fold-roll-Base spec.Base spec.Member spec.Member (List spec.Member) (List spec.Member) spec.Notation base_step component_step member_step extension_step members_step notation_step (layer.Integer ns)))
    by (layer.BitString ns) e = plain (layer.BitString ns) e (ap is_name (fold-roll-Base spec.Base spec.Member spec.Member (List spec.Member) (List spec.Member) spec.Notation base_step component_step member_step extension_step members_step notation_step (layer.BitString ns)))
    by (layer.Enumerated items added) e = plain (layer.Enumerated items added) e (ap is_name (fold-roll-Base spec.Base spec.Member spec.Member (List spec.Member) (List spec.Member) spec.Notation base_step component_step member_step extension_step members_step notation_step (layer.Enumerated items added)))
    by (layer.Sequence ms) e = plain (layer.Sequence ms) e (ap is_name (fold-roll-Base spec.Base spec.Member spec.Member (List spec.Member) (List spec.Member) spec.Notation base_step component_step member_step extension_step members_step notation_step (layer.Sequence ms)))
    by (layer.Set ms) e = plain (layer.Set ms) e (ap is_name (fold-roll-Base spec.Base spec.Member spec.Member (List spec.Member) (List spec.Member) spec.Notation base_step component_step member_step extension_step members_step notation_step (layer.Set ms)))
    by (layer.SequenceOf n) e = plain (layer.SequenceOf n) e (ap is_name (fold-roll-Base spec.Base spec.Member spec.Member (List spec.Member) (List spec.Member) spec.Notation base_step component_step member_step extension_step members_step notation_step (layer.SequenceOf n)))
    by (layer.SetOf n) e = plain (layer.SetOf n) e (ap is_name (fold-roll-Base spec.Base spec.Member spec.Member (List spec.Member) (List spec.Member) spec.Notation base_step component_step member_step extension_step members_step notation_step (layer.SetOf n)))
    by (layer.Choice ms) e = plain (layer.Choice ms) e (ap is_name (fold-roll-Base spec.Base spec.Member spec.Member (List spec.Member) (List spec.Member) spec.Notation base_step component_step member_step extension_step members_step notation_step (layer.Choice ms)))
    by (layer.Instance home name ns) e = plain (layer.Instance home name ns) e (ap is_name (fold-roll-Base spec.Base spec.Member spec.Member (List spec.Member) (List spec.Member) spec.Notation base_step component_step member_step extension_step members_step notation_step (layer.Instance home name ns)))

pub name_held : (n : code_notation.Notation) (home : Option Token) (name : Token) → (out-Notation n).base ≡ Reference home name → base_of (notation_view n) ≡ reference home name
name_held n home name e = ap base_of (notation_out n) ∙ ap base_view e ∙ name_viewed home name

pub other_held : (n : code_notation.Notation) → ((home : Option Token) (name : Token) → (out-Notation n).base ≡ Reference home name → ⊥) → is_name (base_of (notation_view n)) ≡ false
other_held n other = ap (λ b. is_name (base_of b)) (notation_out n) ∙ no_name (out-Notation n).base other

type_led : (s : Scope) (n : Notation) (word : List ℕ) → is_name (base_of n) ≡ false → number_in_type s n word ≡ option_map (constant_in s) (first_named s.text (numbers_in n) word)
type_led s (notation tags (integer ns) sizes) word e = numbers_led s ns word
type_led s (notation tags (reference home name) sizes) word e = cc e
type_led s (notation tags (leaf l) sizes) word e = refl
type_led s (notation tags (bit_string ns) sizes) word e = refl
type_led s (notation tags (enumerated items) sizes) word e = refl
type_led s (notation tags (members kind ms) sizes) word e = refl
type_led s (notation tags (list_of kind n) sizes) word e = refl
type_led s (notation tags (choice ms) sizes) word e = refl
type_led s (notation tags (instance_of home name ns) sizes) word e = refl

type_behind : (s : Scope) (n : Notation) (home : Option Token) (name : Token) (word : List ℕ) → base_of n ≡ reference home name → number_in_type s n word ≡ s.number_named home name word
type_behind s (notation tags base sizes) home name word e = ap (λ b. number_in_type s (notation tags b sizes) word) e

-- An INTEGER, by its named numbers.
pub integer_named : (s : Scope) (n : code_notation.Notation) (named : Vec NamedNumber) (word : List ℕ) → (out-Notation n).base ≡ Integer named → number_in_type s (notation_view n) word ≡ named_number s named.items word
integer_named s n named word e =
    ap (λ x. number_in_type s x word) (notation_out n ∙ ap (λ b. notation (out-Notation n).tags.items b (out-Notation n).sizes.items) (ap base_view e ∙ integer_viewed named))

-- The number that a word names in the type of number n, which is assigned.
module _ (ss : List Source) (more less n : ℕ) (list : List Assigned) (t : Assigned) (held : Notation) (word : List ℕ) (above : more ≡ less + 1) (all : list ≡ assigned Types ss) (there : Some t ≡ slice_get list n) (is : notation_of t.assignment ≡ held) where
  abbrev here : Scope
  here = scope_of ss less t.number t.home

  table_led : constant_named (map stated_type (assigned Types ss)) n word ≡ first_named t.home.source.text (numbers_in held) word
  table_led =
      ap (option_and_then (λ x. first_named x.text (numbers_in x.notation) word)) (slice_get-map stated_type (assigned Types ss) n ∙ ap (option_map stated_type) (ap (λ l. slice_get l n) (sym all) ∙ sym there))
      ∙ ap (λ x. first_named t.home.source.text (numbers_in x) word) is

  pub word_led : (o : Option Constant) → is_name (base_of held) ≡ false → o ≡ constant_named (map stated_type (assigned Types ss)) n word → option_map (constant_in here) o ≡ number_word ss more n word
  word_led o direct e = ap (option_map (constant_in here)) (e ∙ table_led) ∙ sym (type_led here held word direct) ∙ word_assigned ss more less n list t held word above all there is

  pub word_behind : (home : Option Token) (name : Token) (o : Option ℕ) → base_of held ≡ reference home name → o ≡ found_in Types ss t.number t.home home name → option_and_then (λ m. number_word ss less m word) o ≡ number_word ss more n word
  word_behind home name o e f = ap (option_and_then (λ m. number_word ss less m word)) f ∙ sym (type_behind here held home name word e) ∙ word_assigned ss more less n list t held word above all there is

-- Types with their texts that were listed so far.
abbrev pub stated_from : List code_assigned.Assigned → ℕ → List StatedType
stated_from ts i = map stated_type (map assigned_view (drop i ts))

pub stated_added : (all : List StatedType) (old new : List code_stated.StatedType) (x : code_stated.StatedType) (ts : List code_assigned.Assigned) (i : ℕ) (t : code_assigned.Assigned) → i < length ts → t ≡ get_or ts i t → all ≡ map type_view old ++ stated_from ts i
    → type_view x ≡ stated_type (assigned_view t) → new ≡ old ++ x ∷ [] → all ≡ map type_view new ++ stated_from ts (i + 1)
stated_added all old new x ts i t l e was v p =
    listed_more all (map type_view old) (map type_view new) (stated_type (assigned_view t) ∷ []) (stated_from ts i) (stated_from ts (i + 1)) was
    (ap (λ l. map stated_type (map assigned_view l)) (drop_at ts i t l e)) (pushed type_view old new x (stated_type (assigned_view t)) p v)

pub stated_end : (ts : List code_assigned.Assigned) (i : ℕ) → length ts ≤ i → stated_from ts i ≡ []
stated_end ts i h = ap (λ l. map stated_type (map assigned_view l)) (drop_all i ts h)

-- The table of types as they are listed is that of the types that are assigned.
pub numbers_known : (numbers : NamedNumbers) (types listed : List StatedType) → AreNumbersOf types numbers → types ≡ listed → AreNumbersOf listed numbers
numbers_known numbers types listed are e = subst (λ l. AreNumbersOf l numbers) e are
