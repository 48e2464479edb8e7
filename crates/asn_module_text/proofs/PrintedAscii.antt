-- Printed texts are ASCII.
use Rattle.std.proofs.Common.{◌≡◌, ◌<◌, ℕ, suc, List, [], ◌∷◌, ◌++◌, Bool, true, false, not, ◌&&◌, ◌||◌, nat_le, Option, Some, None, refl, arith}
use Rattle.std.proofs.lemmas.Bool.{and_parts}
use Rattle.std.proofs.lemmas.Str.{IsAscii-append, chars-IsAscii}
use Rattle.std.specs.Str.{IsAscii, chars}
use Rattle.avn_grammar.specs.WellFormed.{is_identifier}
use Rattle.avn_grammar.proofs.PrintedBefore.{ascii-identifier}
use Rattle.avn_grammar.proofs.RunsBefore.{ascii-cons, ascii-nil}
use Rattle.asn_model.specs.Shape.{SeqKind}
use Rattle.asn_notation.specs.Keywords.{keyword_text}
use Rattle.asn_notation.specs.Notation.{Notation, Element, Elements, Assignment, boolean, null, integer, octet_string, bit_string, object_identifier, text, bmp, members, list_of, choice, enumerated, reference, component, marker, no_elements, element, is_item_marker, at_most_one}
use Rattle.asn_notation.specs.Printed.{word_text, keyword_print, alphabet_keyword, kind_keyword, opened, closed, marker_text, optional_text, item_text, item_run, comma_text, notation_text, element_text, element_run, module_text}
use Rattle.asn_notation.specs.Proper.{is_proper_item, are_items_proper, has_one_marker, is_proper_notation, is_element_proper, are_elements_proper, is_proper_assignment, are_assignments_proper}
use Rattle.asn_notation.specs.Starts.{is_type_name}
use Rattle.asn_notation.specs.declared.keyword.Keyword.{Keyword}
use Rattle.asn_notation.specs.declared.keyword.Keyword.TheVariants as keyword
use Rattle.asn_notation.proofs.Signs.{keyword_spelled}

word_ascii : (w rest : List ℕ) → is_identifier w ≡ true → IsAscii rest → IsAscii (word_text w rest)
word_ascii w rest i a = ascii-cons 32 (w ++ rest) (omega arith) (IsAscii-append w rest (ascii-identifier w i) a)

keyword_ascii : (k : Keyword) (rest : List ℕ) → IsAscii rest → IsAscii (keyword_print k rest)
keyword_ascii k rest a = word_ascii (keyword_text k) rest (keyword_spelled k) a

opened_ascii : (rest : List ℕ) → IsAscii rest → IsAscii (opened rest)
opened_ascii rest a = ascii-cons 32 (123 ∷ rest) (omega arith) (ascii-cons 123 rest (omega arith) a)

closed_ascii : (rest : List ℕ) → IsAscii rest → IsAscii (closed rest)
closed_ascii rest a = ascii-cons 32 (125 ∷ rest) (omega arith) (ascii-cons 125 rest (omega arith) a)

marker_ascii : (rest : List ℕ) → IsAscii rest → IsAscii (marker_text rest)
marker_ascii rest a = ascii-cons 32 (46 ∷ 46 ∷ 46 ∷ rest) (omega arith) (ascii-cons 46 (46 ∷ 46 ∷ rest) (omega arith) (ascii-cons 46 (46 ∷ rest) (omega arith) (ascii-cons 46 rest (omega arith) a)))

comma_ascii : (first : Bool) (rest : List ℕ) → IsAscii rest → IsAscii (comma_text first rest)
comma_ascii true rest a = a
comma_ascii false rest a = ascii-cons 44 rest (omega arith) a

optional_ascii : (optional : Bool) (rest : List ℕ) → IsAscii rest → IsAscii (optional_text optional rest)
optional_ascii true rest a = keyword_ascii keyword.Optional rest a
optional_ascii false rest a = a

item_ascii : (i : Option (List ℕ)) (rest : List ℕ) → is_proper_item i ≡ true → IsAscii rest → IsAscii (item_text i rest)
item_ascii None rest p a = marker_ascii rest a
item_ascii (Some name) rest p a = word_ascii name rest p a

items_ascii : (first : Bool) (items : List (Option (List ℕ))) (rest : List ℕ) → are_items_proper items ≡ true → IsAscii rest → IsAscii (item_run first items rest)
items_ascii first [] rest p a = a
items_ascii first (i ∷ items) rest p a =
    let k = and_parts (is_proper_item i) (are_items_proper items) p in comma_ascii first (item_text i (item_run false items rest)) (item_ascii i (item_run false items rest) k.0 (items_ascii false items rest k.1 a))

mutual
  notation_ascii : (limit level : ℕ) (n : Notation) (rest : List ℕ) → is_proper_notation limit level n ≡ true → IsAscii rest → IsAscii (notation_text n rest)
  notation_ascii limit level boolean rest p a = keyword_ascii keyword.Boolean rest a
  notation_ascii limit level null rest p a = keyword_ascii keyword.Null rest a
  notation_ascii limit level integer rest p a = keyword_ascii keyword.Integer rest a
  notation_ascii limit level octet_string rest p a = keyword_ascii keyword.Octet (keyword_print keyword.String rest) (keyword_ascii keyword.String rest a)
  notation_ascii limit level bit_string rest p a = keyword_ascii keyword.Bit (keyword_print keyword.String rest) (keyword_ascii keyword.String rest a)
  notation_ascii limit level object_identifier rest p a = keyword_ascii keyword.Object (keyword_print keyword.Identifier rest) (keyword_ascii keyword.Identifier rest a)
  notation_ascii limit level (text alphabet) rest p a = keyword_ascii (alphabet_keyword alphabet) rest a
  notation_ascii limit level bmp rest p a = keyword_ascii keyword.BmpString rest a
  notation_ascii limit level (members kind es) rest p a =
      let k = and_parts (nat_le level limit) (has_one_marker es && are_elements_proper limit (suc level) true es) p in
      let j = and_parts (has_one_marker es) (are_elements_proper limit (suc level) true es) k.1 in
      keyword_ascii (kind_keyword kind) (opened (element_run true es (closed rest))) (opened_ascii (element_run true es (closed rest)) (elements_ascii limit (suc level) true true es (closed rest) j.1 (closed_ascii rest a)))
  notation_ascii limit level (list_of kind n) rest p a =
      let k = and_parts (nat_le level limit) (is_proper_notation limit (suc level) n) p in
      keyword_ascii (kind_keyword kind) (keyword_print keyword.Of (notation_text n rest)) (keyword_ascii keyword.Of (notation_text n rest) (notation_ascii limit (suc level) n rest k.1 a))
  notation_ascii limit level (choice es) rest p a =
      let k = and_parts (nat_le level limit) (has_one_marker es && are_elements_proper limit (suc level) false es) p in
      let j = and_parts (has_one_marker es) (are_elements_proper limit (suc level) false es) k.1 in
      keyword_ascii keyword.Choice (opened (element_run true es (closed rest))) (opened_ascii (element_run true es (closed rest)) (elements_ascii limit (suc level) false true es (closed rest) j.1 (closed_ascii rest a)))
  notation_ascii limit level (enumerated items) rest p a =
      let k = and_parts (nat_le level limit) (at_most_one is_item_marker items && are_items_proper items) p in
      let j = and_parts (at_most_one is_item_marker items) (are_items_proper items) k.1 in
      keyword_ascii keyword.Enumerated (opened (item_run true items (closed rest))) (opened_ascii (item_run true items (closed rest)) (items_ascii true items (closed rest) j.1 (closed_ascii rest a)))
  notation_ascii limit level (reference name) rest p a =
      let k = and_parts (nat_le level limit) (is_identifier name && is_type_name name) p in
      word_ascii name rest (and_parts (is_identifier name) (is_type_name name) k.1).0 a

  element_ascii : (limit level : ℕ) (allowed : Bool) (e : Element) (rest : List ℕ) → is_element_proper limit level allowed e ≡ true → IsAscii rest → IsAscii (element_text e rest)
  element_ascii limit level allowed (component name n optional) rest p a =
      let k = and_parts (is_identifier name) ((allowed || not optional) && is_proper_notation limit level n) p in
      let j = and_parts (allowed || not optional) (is_proper_notation limit level n) k.1 in
      word_ascii name (notation_text n (optional_text optional rest)) k.0 (notation_ascii limit level n (optional_text optional rest) j.1 (optional_ascii optional rest a))
  element_ascii limit level allowed marker rest p a = marker_ascii rest a

  elements_ascii : (limit level : ℕ) (allowed first : Bool) (es : Elements) (rest : List ℕ) → are_elements_proper limit level allowed es ≡ true → IsAscii rest → IsAscii (element_run first es rest)
  elements_ascii limit level allowed first no_elements rest p a = a
  elements_ascii limit level allowed first (element e es) rest p a =
      let k = and_parts (is_element_proper limit level allowed e) (are_elements_proper limit level allowed es) p in
      comma_ascii first (element_text e (element_run false es rest)) (element_ascii limit level allowed e (element_run false es rest) k.0 (elements_ascii limit level allowed false es rest k.1 a))

module_ascii : (limit : ℕ) (assignments : List Assignment) → are_assignments_proper limit assignments ≡ true → IsAscii (module_text assignments)
module_ascii limit [] p = ascii-nil
module_ascii limit (a ∷ more) p =
    let k = and_parts (is_proper_assignment limit a) (are_assignments_proper limit more) p in
    let j = and_parts (is_identifier a.name && is_type_name a.name) (is_proper_notation limit 0 a.notation) k.0 in
    let i = and_parts (is_identifier a.name) (is_type_name a.name) j.0 in
    let v = notation_text a.notation (10 ∷ module_text more) in
    IsAscii-append a.name (32 ∷ 58 ∷ 58 ∷ 61 ∷ v) (ascii-identifier a.name i.0)
    (ascii-cons 32 (58 ∷ 58 ∷ 61 ∷ v) (omega arith) (ascii-cons 58 (58 ∷ 61 ∷ v) (omega arith) (ascii-cons 58 (61 ∷ v) (omega arith) (ascii-cons 61 v (omega arith)
    (notation_ascii limit 0 a.notation (10 ∷ module_text more) j.1 (ascii-cons 10 (module_text more) (omega arith) (module_ascii limit more k.1)))))))

-- The characters of the printed text are its bytes.
pub module_chars : (limit : ℕ) (assignments : List Assignment) → are_assignments_proper limit assignments ≡ true → chars (module_text assignments) ≡ module_text assignments
module_chars limit assignments p = chars-IsAscii (module_text assignments) (module_ascii limit assignments p)
