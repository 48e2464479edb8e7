-- What is read is proper.
use Rattle.std.proofs.Common.{◌≡◌, ◌≤◌, ℕ, suc, List, [], ◌∷◌, Bool, true, false, not, ◌&&◌, ◌||◌, ◌==◌, nat_le, if◌then◌else◌, Option, Some, None, refl, sym, ap, subst, ◌∙◌}
use Rattle.std.proofs.lemmas.Bool.{and_from, cond-true, le-leb}
use Rattle.avn_cursor.proofs.Leads.{lead_letter}
use Rattle.avn_grammar.specs.Chars.{class_of_next, is_letter, is_digit, is_name, skip, starts_with, all, take_while}
use Rattle.avn_grammar.specs.WellFormed.{is_identifier}
use Rattle.avn_grammar.specs.declared.chars.CharClass.{CharClass}
use Rattle.avn_grammar.specs.declared.chars.CharClass.TheVariants as is
use Rattle.avn_grammar.proofs.Digits.{every-front}
use Rattle.asn_notation.specs.Grammar.{is_optional, is_optional_word, ItemParses, item_parses, item_marker_parses, ItemsParse, last_item, next_item, ItemListParses, no_items, some_items, NotationParses, whole_parses, pair_parses, members_parse, list_parses, choice_parses, enumerated_parses, ElementParses, component_parses, marker_parses, ElementsParse, last_element, next_element, ListParses, no_elements_parse, some_elements_parse, ModuleParses, no_assignments, assignment_parses}
use Rattle.asn_notation.specs.Keywords.{keyword_named}
use Rattle.asn_notation.specs.Notation.{Notation, Element, Elements, Assignment, members, list_of, choice, enumerated, reference, component, marker, no_elements, element, elements_of, is_marker, is_item_marker, any, at_most_one}
use Rattle.asn_notation.specs.Proper.{is_proper_item, are_items_proper, has_marker, has_one_marker, is_proper_notation, is_element_proper, are_elements_proper, is_proper_assignment, are_assignments_proper}
use Rattle.asn_notation.specs.Starts.{Start, start_of, start_at, start_of_word, start_beside, named_start, is_capital, is_free, is_type_name}
use Rattle.asn_notation.specs.Tokens.{Token, first_token, past_token, token_of, word_of, word_at, keyword_at}
use Rattle.asn_notation.specs.declared.keyword.Keyword.{Keyword}
use Rattle.asn_notation.specs.declared.keyword.Keyword.TheVariants as keyword

letter_name : (c : ℕ) → is_letter c ≡ true → is_name c ≡ true
letter_name c h = ap (λ b. b || is_digit c || (c == 45) || (c == 95)) h

-- The word that a text begins with is an identifier.
letters : (w : List ℕ) → class_of_next w ≡ is.Letter → is_identifier (take_while is_name w) ≡ true
letters [] e = let n : ⊥ = cc in absurd n
letters (c ∷ w) e =
    let l = lead_letter c e in
    and_from (starts_with is_letter (take_while is_name (c ∷ w))) (all is_name (take_while is_name (c ∷ w))) (ap (starts_with is_letter) (cond-true (is_name c) (c ∷ take_while is_name w) [] (letter_name c l)) ∙ l) (every-front is_name (c ∷ w))

no_word : (b : Bool) (t : Token) (w : List ℕ) → word_of t ≡ None → word_of (if b then t else Token.unknown) ≡ Some w → ⊥
no_word true t w n e = let z : None ≡ Some w = sym n ∙ e in cc
no_word false t w n e = cc

-- A token that is a word begins with a letter and goes as far as a name.
lettered : (k : CharClass) (v w : List ℕ) → word_of (token_of k v) ≡ Some w → (k ≡ is.Letter) × (take_while is_name v ≡ w)
lettered is.Letter v w e = (refl, cc)
lettered is.Colon v w e = absurd (no_word _ Token.assignment w refl e)
lettered is.Other v w e = absurd (no_word _ Token.ellipsis w refl e)
lettered is.AtEnd v w e = let n : ⊥ = cc in absurd n
lettered is.Space v w e = let n : ⊥ = cc in absurd n
lettered is.Digit v w e = let n : ⊥ = cc in absurd n
lettered is.Minus v w e = let n : ⊥ = cc in absurd n
lettered is.Quote v w e = let n : ⊥ = cc in absurd n
lettered is.Apostrophe v w e = let n : ⊥ = cc in absurd n
lettered is.OpenBrace v w e = let n : ⊥ = cc in absurd n
lettered is.CloseBrace v w e = let n : ⊥ = cc in absurd n
lettered is.Comma v w e = let n : ⊥ = cc in absurd n
lettered is.Underscore v w e = let n : ⊥ = cc in absurd n

word_proper : (u w : List ℕ) → word_at u ≡ Some w → is_identifier w ≡ true
unfolding first_token
word_proper u w e = let l = lettered (class_of_next (skip u)) (skip u) w e in ap is_identifier (sym l.1) ∙ letters (skip u) l.0

-- What the first word of a notation stands for is proper.
abbrev ProperStart : ℕ → ℕ → Start → Type 0
ProperStart limit level (Start.whole n) = is_proper_notation limit level n ≡ true
ProperStart limit level (Start.pair k n) = is_proper_notation limit level n ≡ true
ProperStart limit level s = Unit {0}

keyword_proper : (limit level : ℕ) → nat_le level limit ≡ true → (k : Keyword) → ProperStart limit level (start_of k)
keyword_proper limit level h keyword.Boolean = h
keyword_proper limit level h keyword.Null = h
keyword_proper limit level h keyword.Integer = h
keyword_proper limit level h keyword.Octet = h
keyword_proper limit level h keyword.Bit = h
keyword_proper limit level h keyword.Object = h
keyword_proper limit level h keyword.Utf8String = h
keyword_proper limit level h keyword.NumericString = h
keyword_proper limit level h keyword.PrintableString = h
keyword_proper limit level h keyword.VisibleString = h
keyword_proper limit level h keyword.Ia5String = h
keyword_proper limit level h keyword.UniversalString = h
keyword_proper limit level h keyword.GeneralString = h
keyword_proper limit level h keyword.GraphicString = h
keyword_proper limit level h keyword.BmpString = h
keyword_proper limit level h keyword.Sequence = tt
keyword_proper limit level h keyword.Set = tt
keyword_proper limit level h keyword.Choice = tt
keyword_proper limit level h keyword.Enumerated = tt
keyword_proper limit level h keyword.String = tt
keyword_proper limit level h keyword.Identifier = tt
keyword_proper limit level h keyword.Of = tt
keyword_proper limit level h keyword.Optional = tt

named_proper : (limit level : ℕ) (w : List ℕ) (b : Bool) → (b ≡ true → is_proper_notation limit level (reference w) ≡ true) → ProperStart limit level (if b then Start.whole (reference w) else Start.nothing)
named_proper limit level w true h = h refl
named_proper limit level w false h = tt

beside_proper : (limit level : ℕ) → nat_le level limit ≡ true → (o : Option Keyword) (w : List ℕ) → keyword_named w ≡ o → is_identifier w ≡ true → ProperStart limit level (start_beside o w)
beside_proper limit level h (Some k) w e i = keyword_proper limit level h k
beside_proper limit level h None w e i =
    named_proper limit level w (starts_with is_capital w) (λ c.
    and_from (nat_le level limit) (is_identifier w && is_type_name w) h
    (and_from (is_identifier w) (is_type_name w) i (and_from (starts_with is_capital w) (is_free (keyword_named w)) c (ap is_free e))))

word_start_proper : (limit level : ℕ) → nat_le level limit ≡ true → (o : Option (List ℕ)) → ((w : List ℕ) → o ≡ Some w → is_identifier w ≡ true) → ProperStart limit level (start_of_word o)
word_start_proper limit level h None i = tt
word_start_proper limit level h (Some w) i = beside_proper limit level h (keyword_named w) w refl (i w refl)

start_proper : (limit level : ℕ) (u : List ℕ) → level ≤ limit → ProperStart limit level (start_at u)
start_proper limit level u l = word_start_proper limit level (le-leb level limit l) (word_at u) (λ w e. word_proper u w e)

-- Items.
item_proper : {u rest : List ℕ} {i : Option (List ℕ)} {more : Bool} → ItemParses u i more rest → is_proper_item i ≡ true
item_proper (item_parses {u = u} {name = name} w m) = word_proper u name w
item_proper (item_marker_parses w m) = refl

items_proper : {u rest : List ℕ} {items : List (Option (List ℕ))} → ItemsParse u items rest → are_items_proper items ≡ true
items_proper (last_item {i = i} p) = and_from (is_proper_item i) true (item_proper p) refl
items_proper (next_item {i = i} {items = items} p ps) = and_from (is_proper_item i) (are_items_proper items) (item_proper p) (items_proper ps)

item_list_proper : {u rest : List ℕ} {items : List (Option (List ℕ))} → ItemListParses u items rest → (at_most_one is_item_marker items && are_items_proper items) ≡ true
item_list_proper (no_items o) = refl
item_list_proper (some_items {items = items} p m) = and_from (at_most_one is_item_marker items) (are_items_proper items) m (items_proper p)

-- The extension marker among elements.
pub marker-among : (es : List Element) → has_marker (elements_of es) ≡ any is_marker es
marker-among [] = refl
marker-among (component name n optional ∷ es) = marker-among es
marker-among (marker ∷ es) = refl

pub one-marker : (es : List Element) → has_one_marker (elements_of es) ≡ at_most_one is_marker es
one-marker [] = refl
one-marker (component name n optional ∷ es) = one-marker es
one-marker (marker ∷ es) = ap not (marker-among es)

optional_allowed : (allowed : Bool) (v : List ℕ) → (allowed || not (is_optional allowed v)) ≡ true
optional_allowed true v = refl
optional_allowed false v = refl

mutual
  notation_proper : {limit level : ℕ} {u rest : List ℕ} {n : Notation} → NotationParses limit level u n rest → is_proper_notation limit level n ≡ true
  notation_proper {limit = limit} {level = level} (whole_parses {u = u} l e) = subst (ProperStart limit level) e (start_proper limit level u l)
  notation_proper {limit = limit} {level = level} (pair_parses {u = u} l e k) = subst (ProperStart limit level) e (start_proper limit level u l)
  notation_proper {limit = limit} {level = level} (members_parse {es = es} l e o d) =
      and_from (nat_le level limit) (has_one_marker (elements_of es) && are_elements_proper limit (suc level) true (elements_of es)) (le-leb level limit l) (list_proper d)
  notation_proper {limit = limit} {level = level} (list_parses {n = n} l e o d) = and_from (nat_le level limit) (is_proper_notation limit (suc level) n) (le-leb level limit l) (notation_proper d)
  notation_proper {limit = limit} {level = level} (choice_parses {es = es} l e o d) =
      and_from (nat_le level limit) (has_one_marker (elements_of es) && are_elements_proper limit (suc level) false (elements_of es)) (le-leb level limit l) (list_proper d)
  notation_proper {limit = limit} {level = level} (enumerated_parses {items = items} l e o d) =
      and_from (nat_le level limit) (at_most_one is_item_marker items && are_items_proper items) (le-leb level limit l) (item_list_proper d)

  element_proper : {limit level : ℕ} {allowed : Bool} {u rest : List ℕ} {e : Element} {more : Bool} → ElementParses limit level allowed u e more rest → is_element_proper limit level allowed e ≡ true
  element_proper {limit = limit} {level = level} {allowed = allowed} (component_parses {u = u} {name = name} {v = v} {n = n} w d s) =
      and_from (is_identifier name) ((allowed || not (is_optional allowed v)) && is_proper_notation limit level n) (word_proper u name w)
      (and_from (allowed || not (is_optional allowed v)) (is_proper_notation limit level n) (optional_allowed allowed v) (notation_proper d))
  element_proper (marker_parses w s) = refl

  elements_proper : {limit level : ℕ} {allowed : Bool} {u rest : List ℕ} {es : List Element} → ElementsParse limit level allowed u es rest → are_elements_proper limit level allowed (elements_of es) ≡ true
  elements_proper {limit = limit} {level = level} {allowed = allowed} (last_element {e = e} p) = and_from (is_element_proper limit level allowed e) true (element_proper p) refl
  elements_proper {limit = limit} {level = level} {allowed = allowed} (next_element {e = e} {es = es} p ps) =
      and_from (is_element_proper limit level allowed e) (are_elements_proper limit level allowed (elements_of es)) (element_proper p) (elements_proper ps)

  list_proper : {limit level : ℕ} {allowed : Bool} {u rest : List ℕ} {es : List Element} → ListParses limit level allowed u es rest → (has_one_marker (elements_of es) && are_elements_proper limit level allowed (elements_of es)) ≡ true
  list_proper (no_elements_parse o) = refl
  list_proper {limit = limit} {level = level} {allowed = allowed} (some_elements_parse {es = es} p m) =
      and_from (has_one_marker (elements_of es)) (are_elements_proper limit level allowed (elements_of es)) (one-marker es ∙ m) (elements_proper p)

-- Assignments that a text stands for have a text.
pub module_proper : {limit : ℕ} {u : List ℕ} {assignments : List Assignment} → ModuleParses limit u assignments → are_assignments_proper limit assignments ≡ true
module_proper (no_assignments e) = refl
module_proper {limit = limit} (assignment_parses {u = u} {name = name} {n = n} {more = more} w t a d rest) =
    and_from ((is_identifier name && is_type_name name) && is_proper_notation limit 0 n) (are_assignments_proper limit more)
    (and_from (is_identifier name && is_type_name name) (is_proper_notation limit 0 n) (and_from (is_identifier name) (is_type_name name) (word_proper u name w) t) (notation_proper d))
    (module_proper rest)
