-- Printed texts are read again.
use Rattle.std.proofs.Common.{◌≡◌, ◌≤◌, ℕ, suc, List, [], ◌∷◌, Bool, true, false, not, ◌&&◌, ◌||◌, nat_le, Option, Some, None, refl, sym, ap, subst, ◌∙◌}
use Rattle.std.proofs.lemmas.Bool.{and_parts, leb-true}
use Rattle.avn_grammar.specs.Chars.{skip, starts_with}
use Rattle.avn_grammar.specs.WellFormed.{is_identifier}
use Rattle.asn_model.specs.Shape.{Alphabet, SeqKind}
use Rattle.asn_notation.specs.Grammar.{separator_of, is_optional, past_optional, is_optional_word, ItemParses, item_parses, item_marker_parses, ItemsParse, last_item, next_item, ItemListParses, no_items, some_items, NotationParses, whole_parses, pair_parses, members_parse, list_parses, choice_parses, enumerated_parses, ElementParses, component_parses, marker_parses, ElementsParse, last_element, next_element, ListParses, no_elements_parse, some_elements_parse, ModuleParses, no_assignments, assignment_parses}
use Rattle.asn_notation.specs.Keywords.{keyword_named}
use Rattle.asn_notation.specs.Notation.{Notation, Element, Elements, Assignment, boolean, null, integer, octet_string, bit_string, object_identifier, text, bmp, members, list_of, choice, enumerated, reference, component, marker, no_elements, element, elements_of, is_marker, is_item_marker, any, at_most_one}
use Rattle.asn_notation.specs.Printed.{word_text, keyword_print, alphabet_keyword, kind_keyword, closed, marker_text, optional_text, item_text, item_run, items_text, notation_text, element_text, elements_text, element_run, module_text}
use Rattle.asn_notation.specs.Proper.{is_proper_item, are_items_proper, has_marker, has_one_marker, is_proper_notation, is_element_proper, are_elements_proper, is_proper_assignment, are_assignments_proper}
use Rattle.asn_notation.specs.Starts.{Start, start_of, start_at, start_of_word, start_beside, named_start, is_capital, is_free, is_type_name}
use Rattle.asn_notation.specs.Tokens.{Token, first_token, past_token, word_of, word_at, keyword_of, keyword_at}
use Rattle.asn_notation.specs.declared.keyword.Keyword.{Keyword}
use Rattle.asn_notation.specs.declared.keyword.Keyword.TheVariants as keyword
use Rattle.asn_notation.proofs.Signs.{Begins, Stops, word_begins, skip-identifier, word_behind, keyword_behind, keyword-begins, start-begins, opened_begins, closed_begins, comma_begins, marker_begins, assignment_begins, end_begins}

-- A comma or a closing brace.
pub record Separates (u : List ℕ) (more : Bool) (rest : List ℕ) : Type 0 where
  pub stops : Stops u
  pub no_keyword : keyword_at u ≡ None
  pub separator : separator_of (first_token u) ≡ Some more
  pub left : past_token u ≡ rest

closed_separates : (rest : List ℕ) → Separates (closed rest) false rest
closed_separates rest =
    let b = closed_begins rest in
    record { stops = refl; no_keyword = ap (λ t. keyword_of (word_of t)) b.token; separator = ap separator_of b.token; left = b.left }

comma_separates : (rest : List ℕ) → Separates (44 ∷ rest) true rest
comma_separates rest =
    let b = comma_begins rest in
    record { stops = refl; no_keyword = ap (λ t. keyword_of (word_of t)) b.token; separator = ap separator_of b.token; left = b.left }

separator_behind : (u v : List ℕ) (more : Bool) (rest : List ℕ) → past_token u ≡ v → Separates v more rest → separator_of (first_token (past_token u)) ≡ Some more
separator_behind u v more rest e s = ap (λ x. separator_of (first_token x)) e ∙ s.separator

past_behind : (u v : List ℕ) (more : Bool) (rest : List ℕ) → past_token u ≡ v → Separates v more rest → past_token (past_token u) ≡ rest
past_behind u v more rest e s = ap past_token e ∙ s.left

-- An item.
item_again : (i : Option (List ℕ)) (v : List ℕ) (more : Bool) (rest : List ℕ) → is_proper_item i ≡ true → Separates v more rest → ItemParses (item_text i v) i more rest
item_again None v more rest p s =
    let b = marker_begins v in
    subst (λ x. ItemParses (marker_text v) None more x) (past_behind _ v more rest b.left s) (item_marker_parses b.token (separator_behind _ v more rest b.left s))
item_again (Some name) v more rest p s =
    let b = word_behind name v p s.stops in
    subst (λ x. ItemParses (word_text name v) (Some name) more x) (past_behind _ v more rest b.left s) (item_parses (ap word_of b.token) (separator_behind _ v more rest b.left s))

items_again : (i : Option (List ℕ)) (items : List (Option (List ℕ))) (rest : List ℕ) → is_proper_item i ≡ true → are_items_proper items ≡ true → ItemsParse (item_text i (item_run false items (closed rest))) (i ∷ items) rest
items_again i [] rest p q = last_item (item_again i (closed rest) false rest p (closed_separates rest))
items_again i (j ∷ items) rest p q =
    let k = and_parts (is_proper_item j) (are_items_proper items) q in
    next_item (item_again i (44 ∷ item_text j (item_run false items (closed rest))) true (item_text j (item_run false items (closed rest))) p (comma_separates (item_text j (item_run false items (closed rest))))) (items_again j items rest k.0 k.1)

-- The text behind an opening brace, and the list there.
item_list_again : (items : List (Option (List ℕ))) (rest : List ℕ) → at_most_one is_item_marker items ≡ true → are_items_proper items ≡ true
    → (v : List ℕ) × Begins (items_text items rest) Token.open_brace v × ItemListParses v items rest
item_list_again [] rest m p =
    (closed rest, opened_begins (closed rest), subst (λ x. ItemListParses (closed rest) [] x) (closed_begins rest).left (no_items (closed_begins rest).token))
item_list_again (i ∷ items) rest m p =
    let k = and_parts (is_proper_item i) (are_items_proper items) p in
    let v = item_text i (item_run false items (closed rest)) in (v, opened_begins v, some_items (items_again i items rest k.0 k.1) m)

-- The elements as a list.
listed : Elements → List Element
listed no_elements = []
listed (element e es) = e ∷ listed es

elements-listed : (es : Elements) → elements_of (listed es) ≡ es
unfolding listed
elements-listed no_elements = refl
elements-listed (element e es) = ap (λ x. element e x) (elements-listed es)

any-listed : (es : Elements) → any is_marker (listed es) ≡ has_marker es
unfolding listed
any-listed no_elements = refl
any-listed (element (component name n optional) es) = any-listed es
any-listed (element marker es) = refl

one-listed : (es : Elements) → at_most_one is_marker (listed es) ≡ has_one_marker es
unfolding listed
one-listed no_elements = refl
one-listed (element (component name n optional) es) = one-listed es
one-listed (element marker es) = ap not (any-listed es)

-- An element is read again before any separator.
abbrev ReadsElement : ℕ → ℕ → Bool → Element → Type 0
ReadsElement limit level allowed e = (v : List ℕ) (more : Bool) (rest : List ℕ) → Separates v more rest → ElementParses limit level allowed (element_text e v) e more rest

abbrev ReadsEach : ℕ → ℕ → Bool → Elements → Type 0
ReadsEach limit level allowed no_elements = Unit {0}
ReadsEach limit level allowed (element e es) = ReadsElement limit level allowed e × ReadsEach limit level allowed es

elements_again : (limit level : ℕ) (allowed : Bool) (e : Element) (es : Elements) (rest : List ℕ) → ReadsElement limit level allowed e → ReadsEach limit level allowed es
    → ElementsParse limit level allowed (element_text e (element_run false es (closed rest))) (e ∷ listed es) rest
unfolding listed
elements_again limit level allowed e no_elements rest r k = last_element (r (closed rest) false rest (closed_separates rest))
elements_again limit level allowed e (element f es) rest r k =
    let v = element_text f (element_run false es (closed rest)) in next_element (r (44 ∷ v) true v (comma_separates v)) (elements_again limit level allowed f es rest k.0 k.1)

list_again : (limit level : ℕ) (allowed : Bool) (es : Elements) (rest : List ℕ) → has_one_marker es ≡ true → ReadsEach limit level allowed es
    → (v : List ℕ) × Begins (elements_text es rest) Token.open_brace v × ListParses limit level allowed v (listed es) rest
unfolding listed
list_again limit level allowed no_elements rest m k =
    (closed rest, opened_begins (closed rest), subst (λ x. ListParses limit level allowed (closed rest) [] x) (closed_begins rest).left (no_elements_parse (closed_begins rest).token))
list_again limit level allowed (element e es) rest m k =
    let v = element_text e (element_run false es (closed rest)) in (v, opened_begins v, some_elements_parse (elements_again limit level allowed e es rest k.0 k.1) (one-listed (element e es) ∙ m))

-- Notations of one word.
whole_again : (limit level : ℕ) (k : Keyword) (n : Notation) (rest : List ℕ) → level ≤ limit → start_of k ≡ Start.whole n → Stops rest → NotationParses limit level (keyword_print k rest) n rest
whole_again limit level k n rest l e s =
    let b = keyword_behind k rest s in
    subst (λ x. NotationParses limit level (keyword_print k rest) n x) b.left (whole_parses l (start-begins _ k rest b ∙ e))

-- Notations of two words.
pair_again : (limit level : ℕ) (k second : Keyword) (n : Notation) (rest : List ℕ) → level ≤ limit → start_of k ≡ Start.pair second n → Stops rest → NotationParses limit level (keyword_print k (keyword_print second rest)) n rest
pair_again limit level k second n rest l e s =
    let b = keyword_behind k (keyword_print second rest) refl in
    let c = keyword_behind second rest s in
    subst (λ x. NotationParses limit level (keyword_print k (keyword_print second rest)) n x) (ap past_token b.left ∙ c.left)
    (pair_parses l (start-begins _ k _ b ∙ e) (ap keyword_at b.left ∙ keyword-begins _ second rest c))

alphabet_start : (a : Alphabet) → start_of (alphabet_keyword a) ≡ Start.whole (text a)
alphabet_start Alphabet.numeric = refl
alphabet_start Alphabet.printable = refl
alphabet_start Alphabet.visible = refl
alphabet_start Alphabet.ia5 = refl
alphabet_start Alphabet.utf8 = refl
alphabet_start Alphabet.universal = refl
alphabet_start Alphabet.general = refl
alphabet_start Alphabet.graphic = refl

kind_start : (k : SeqKind) → start_of (kind_keyword k) ≡ Start.members k
kind_start SeqKind.sequence = refl
kind_start SeqKind.set = refl

-- A reference.
free_named : (o : Option Keyword) → is_free o ≡ true → o ≡ None
free_named None e = refl
free_named (Some k) e = let n : ⊥ = cc in absurd n

named-capital : (w : List ℕ) → starts_with is_capital w ≡ true → named_start w ≡ Start.whole (reference w)
named-capital w c = rw c refl

pub type-start : (u w rest : List ℕ) → is_type_name w ≡ true → Begins u (Token.word w) rest → start_at u ≡ Start.whole (reference w)
type-start u w rest t b =
    let k = and_parts (starts_with is_capital w) (is_free (keyword_named w)) t in
    ap (λ x. start_of_word (word_of x)) b.token ∙ ap (λ x. start_beside x w) (free_named (keyword_named w) k.1) ∙ named-capital w k.0

reference_again : (limit level : ℕ) (name rest : List ℕ) → level ≤ limit → is_identifier name ≡ true → is_type_name name ≡ true → Stops rest → NotationParses limit level (word_text name rest) (reference name) rest
reference_again limit level name rest l i t s =
    let b = word_behind name rest i s in
    subst (λ x. NotationParses limit level (word_text name rest) (reference name) x) b.left (whole_parses l (type-start _ name rest t b))

elements_stop : (es : Elements) (rest : List ℕ) → Stops (elements_text es rest)
elements_stop es rest = refl

items_stop : (items : List (Option (List ℕ))) (rest : List ℕ) → Stops (items_text items rest)
items_stop items rest = refl

optional_stops : (optional : Bool) (v : List ℕ) → Stops v → Stops (optional_text optional v)
optional_stops true v s = refl
optional_stops false v s = s

notation_stops : (n : Notation) (rest : List ℕ) → Stops (notation_text n rest)
notation_stops boolean rest = refl
notation_stops null rest = refl
notation_stops integer rest = refl
notation_stops octet_string rest = refl
notation_stops bit_string rest = refl
notation_stops object_identifier rest = refl
notation_stops (text a) rest = refl
notation_stops bmp rest = refl
notation_stops (members kind es) rest = refl
notation_stops (list_of kind n) rest = refl
notation_stops (choice es) rest = refl
notation_stops (enumerated items) rest = refl
notation_stops (reference name) rest = refl

and_false : (b : Bool) → (b && false) ≡ false
and_false true = refl
and_false false = refl

enumerated_as : (limit level : ℕ) (items : List (Option (List ℕ))) (rest u : List ℕ) → level ≤ limit → start_at u ≡ Start.enumerated → first_token (past_token u) ≡ Token.open_brace → ItemListParses (past_token (past_token u)) items rest
    → NotationParses limit level u (enumerated items) rest
enumerated_as limit level items rest u l e o d = enumerated_parses l e o d

component_as : (limit level : ℕ) (allowed : Bool) (u name v : List ℕ) (n : Notation) (optional more : Bool) (rest : List ℕ) → word_at u ≡ Some name → NotationParses limit level (past_token u) n v → is_optional allowed v ≡ optional
    → separator_of (first_token (past_optional allowed v)) ≡ Some more → past_token (past_optional allowed v) ≡ rest → ElementParses limit level allowed u (component name n optional) more rest
component_as limit level allowed u name v n optional more rest w d o s k =
    subst (λ x. ElementParses limit level allowed u (component name n optional) more x) k (subst (λ x. ElementParses limit level allowed u (component name n x) more (past_token (past_optional allowed v))) o (component_parses w d s))

-- Notations between braces.
members_again : (limit level : ℕ) (kind : SeqKind) (es : Elements) (rest : List ℕ) → level ≤ limit → has_one_marker es ≡ true → ReadsEach limit (suc level) true es → NotationParses limit level (keyword_print (kind_keyword kind) (elements_text es rest)) (members kind es) rest
members_again limit level kind es rest l m k =
    let b = keyword_behind (kind_keyword kind) (elements_text es rest) (elements_stop es rest) in
    let d = list_again limit (suc level) true es rest m k in
    subst (λ x. NotationParses limit level (keyword_print (kind_keyword kind) (elements_text es rest)) (members kind x) rest) (elements-listed es)
    (members_parse l (start-begins _ (kind_keyword kind) _ b ∙ kind_start kind) (ap first_token b.left ∙ d.1.token) (subst (λ x. ListParses limit (suc level) true x (listed es) rest) (sym (ap past_token b.left ∙ d.1.left)) d.2))

choice_again : (limit level : ℕ) (es : Elements) (rest : List ℕ) → level ≤ limit → has_one_marker es ≡ true → ReadsEach limit (suc level) false es → NotationParses limit level (keyword_print keyword.Choice (elements_text es rest)) (choice es) rest
choice_again limit level es rest l m k =
    let b = keyword_behind keyword.Choice (elements_text es rest) (elements_stop es rest) in
    let d = list_again limit (suc level) false es rest m k in
    subst (λ x. NotationParses limit level (keyword_print keyword.Choice (elements_text es rest)) (choice x) rest) (elements-listed es)
    (choice_parses l (start-begins _ keyword.Choice _ b) (ap first_token b.left ∙ d.1.token) (subst (λ x. ListParses limit (suc level) false x (listed es) rest) (sym (ap past_token b.left ∙ d.1.left)) d.2))

enumerated_again : (limit level : ℕ) (items : List (Option (List ℕ))) (rest : List ℕ) → level ≤ limit → at_most_one is_item_marker items ≡ true → are_items_proper items ≡ true → NotationParses limit level (keyword_print keyword.Enumerated (items_text items rest)) (enumerated items) rest
enumerated_again limit level items rest l m p =
    let b = keyword_behind keyword.Enumerated (items_text items rest) (items_stop items rest) in
    let d = item_list_again items rest m p in
    enumerated_as limit level items rest (keyword_print keyword.Enumerated (items_text items rest)) l (start-begins _ keyword.Enumerated _ b) (ap first_token b.left ∙ d.1.token) (subst (λ x. ItemListParses x items rest) (sym (ap past_token b.left ∙ d.1.left)) d.2)

list_of_again : (limit level : ℕ) (kind : SeqKind) (n : Notation) (rest : List ℕ) → level ≤ limit → Stops (notation_text n rest) → NotationParses limit (suc level) (notation_text n rest) n rest
    → NotationParses limit level (keyword_print (kind_keyword kind) (keyword_print keyword.Of (notation_text n rest))) (list_of kind n) rest
list_of_again limit level kind n rest l s d =
    let b = keyword_behind (kind_keyword kind) (keyword_print keyword.Of (notation_text n rest)) refl in
    let c = keyword_behind keyword.Of (notation_text n rest) s in
    list_parses l (start-begins _ (kind_keyword kind) _ b ∙ kind_start kind) (ap keyword_at b.left ∙ keyword-begins _ keyword.Of _ c) (subst (λ x. NotationParses limit (suc level) x n rest) (sym (ap past_token b.left ∙ c.left)) d)

-- A component.
component_again : (limit level : ℕ) (allowed : Bool) (name : List ℕ) (n : Notation) (optional : Bool) (v : List ℕ) (more : Bool) (rest : List ℕ) → is_identifier name ≡ true → (allowed || not optional) ≡ true → Separates v more rest
    → Stops (notation_text n (optional_text optional v)) → NotationParses limit level (notation_text n (optional_text optional v)) n (optional_text optional v) → ElementParses limit level allowed (element_text (component name n optional) v) (component name n optional) more rest
component_again limit level true name n true v more rest i a s t d =
    let b = word_behind name (notation_text n (optional_text true v)) i t in
    let o = keyword_behind keyword.Optional v s.stops in
    let yes : is_optional true (optional_text true v) ≡ true = ap is_optional_word (keyword-begins _ keyword.Optional v o) in
    let at : past_optional true (optional_text true v) ≡ v = rw yes o.left in
    component_as limit level true (element_text (component name n true) v) name (optional_text true v) n true more rest (ap word_of b.token) (subst (λ x. NotationParses limit level x n (optional_text true v)) (sym b.left) d) yes (ap (λ x. separator_of (first_token x)) at ∙ s.separator) (ap past_token at ∙ s.left)
component_again limit level false name n true v more rest i a s t d = let z : ⊥ = cc in absurd z
component_again limit level allowed name n false v more rest i a s t d =
    let b = word_behind name (notation_text n v) i t in
    let no : is_optional allowed v ≡ false = ap (λ x. allowed && is_optional_word x) s.no_keyword ∙ and_false allowed in
    let at : past_optional allowed v ≡ v = rw no refl in
    component_as limit level allowed (element_text (component name n false) v) name v n false more rest (ap word_of b.token) (subst (λ x. NotationParses limit level x n v) (sym b.left) d) no (ap (λ x. separator_of (first_token x)) at ∙ s.separator) (ap past_token at ∙ s.left)

-- The extension marker.
marker_again : (limit level : ℕ) (allowed : Bool) → ReadsElement limit level allowed marker
marker_again limit level allowed v more rest s =
    let b = marker_begins v in
    subst (λ x. ElementParses limit level allowed (marker_text v) marker more x) (past_behind _ v more rest b.left s) (marker_parses b.token (separator_behind _ v more rest b.left s))

-- A notation, which is at the level, is read again before any text that begins with no character of a word.
mutual
  pub notation_again : (limit level : ℕ) (n : Notation) (rest : List ℕ) → is_proper_notation limit level n ≡ true → Stops rest → NotationParses limit level (notation_text n rest) n rest
  notation_again limit level boolean rest p s = whole_again limit level keyword.Boolean boolean rest (leb-true level limit p) refl s
  notation_again limit level null rest p s = whole_again limit level keyword.Null null rest (leb-true level limit p) refl s
  notation_again limit level integer rest p s = whole_again limit level keyword.Integer integer rest (leb-true level limit p) refl s
  notation_again limit level octet_string rest p s = pair_again limit level keyword.Octet keyword.String octet_string rest (leb-true level limit p) refl s
  notation_again limit level bit_string rest p s = pair_again limit level keyword.Bit keyword.String bit_string rest (leb-true level limit p) refl s
  notation_again limit level object_identifier rest p s = pair_again limit level keyword.Object keyword.Identifier object_identifier rest (leb-true level limit p) refl s
  notation_again limit level (text a) rest p s = whole_again limit level (alphabet_keyword a) (text a) rest (leb-true level limit p) (alphabet_start a) s
  notation_again limit level bmp rest p s = whole_again limit level keyword.BmpString bmp rest (leb-true level limit p) refl s
  notation_again limit level (members kind es) rest p s =
      let k = and_parts (nat_le level limit) (has_one_marker es && are_elements_proper limit (suc level) true es) p in
      let j = and_parts (has_one_marker es) (are_elements_proper limit (suc level) true es) k.1 in
      members_again limit level kind es rest (leb-true level limit k.0) j.0 (each_again limit (suc level) true es j.1)
  notation_again limit level (list_of kind n) rest p s =
      let k = and_parts (nat_le level limit) (is_proper_notation limit (suc level) n) p in
      list_of_again limit level kind n rest (leb-true level limit k.0) (notation_stops n rest) (notation_again limit (suc level) n rest k.1 s)
  notation_again limit level (choice es) rest p s =
      let k = and_parts (nat_le level limit) (has_one_marker es && are_elements_proper limit (suc level) false es) p in
      let j = and_parts (has_one_marker es) (are_elements_proper limit (suc level) false es) k.1 in
      choice_again limit level es rest (leb-true level limit k.0) j.0 (each_again limit (suc level) false es j.1)
  notation_again limit level (enumerated items) rest p s =
      let k = and_parts (nat_le level limit) (at_most_one is_item_marker items && are_items_proper items) p in
      let j = and_parts (at_most_one is_item_marker items) (are_items_proper items) k.1 in
      enumerated_again limit level items rest (leb-true level limit k.0) j.0 j.1
  notation_again limit level (reference name) rest p s =
      let k = and_parts (nat_le level limit) (is_identifier name && is_type_name name) p in
      let j = and_parts (is_identifier name) (is_type_name name) k.1 in
      reference_again limit level name rest (leb-true level limit k.0) j.0 j.1 s

  element_again : (limit level : ℕ) (allowed : Bool) (e : Element) → is_element_proper limit level allowed e ≡ true → ReadsElement limit level allowed e
  element_again limit level allowed (component name n optional) p v more rest s =
      let k = and_parts (is_identifier name) ((allowed || not optional) && is_proper_notation limit level n) p in
      let j = and_parts (allowed || not optional) (is_proper_notation limit level n) k.1 in
      component_again limit level allowed name n optional v more rest k.0 j.0 s (notation_stops n (optional_text optional v)) (notation_again limit level n (optional_text optional v) j.1 (optional_stops optional v s.stops))
  element_again limit level allowed marker p v more rest s = marker_again limit level allowed v more rest s

  each_again : (limit level : ℕ) (allowed : Bool) (es : Elements) → are_elements_proper limit level allowed es ≡ true → ReadsEach limit level allowed es
  each_again limit level allowed no_elements p = tt
  each_again limit level allowed (element e es) p =
      let k = and_parts (is_element_proper limit level allowed e) (are_elements_proper limit level allowed es) p in (element_again limit level allowed e k.0, each_again limit level allowed es k.1)

-- The printed text of assignments, with or without a line feed before it, is read again.
pub module_again : (limit : ℕ) (u : List ℕ) (assignments : List Assignment) → skip u ≡ skip (module_text assignments) → are_assignments_proper limit assignments ≡ true → ModuleParses limit u assignments
module_again limit u [] e p = no_assignments (end_begins u e)
module_again limit u (a ∷ more) e p =
    let k = and_parts (is_proper_assignment limit a) (are_assignments_proper limit more) p in
    let j = and_parts (is_identifier a.name && is_type_name a.name) (is_proper_notation limit 0 a.notation) k.0 in
    let i = and_parts (is_identifier a.name) (is_type_name a.name) j.0 in
    let v = notation_text a.notation (10 ∷ module_text more) in
    let b = word_begins u a.name (32 ∷ 58 ∷ 58 ∷ 61 ∷ v) i.0 refl (e ∙ skip-identifier a.name (32 ∷ 58 ∷ 58 ∷ 61 ∷ v) i.0) in
    let c = assignment_begins v in
    assignment_parses (ap word_of b.token) i.1 (ap first_token b.left ∙ c.token)
    (subst (λ x. NotationParses limit 0 x a.notation (10 ∷ module_text more)) (sym (ap past_token b.left ∙ c.left)) (notation_again limit 0 a.notation (10 ∷ module_text more) j.1 refl))
    (module_again limit (10 ∷ module_text more) more refl k.1)
