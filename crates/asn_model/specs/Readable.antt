-- When a shape can be read: its names tell its parts apart, AVN can spell them, and its loops end.
use Rattle.std.specs.Prelude.{ℕ, suc, ℤ, pos, negsuc, ◌-◌, ◌^◌, nat_le, nat_lt, List, [], ◌∷◌, ◌++◌, Bool, true, false, not, ◌&&◌, if◌then◌else◌, codes}
use Rattle.std.specs.Str.{bytes_eq}
use Rattle.avn_grammar.specs.WellFormed.{is_identifier, is_keyword}
use Rattle.asn_model.specs.CharacterStrings.{is_string_of}
use Rattle.asn_model.specs.Range.{at_most, is_between}
use Rattle.asn_model.specs.Shape.{Alphabet, Shape, SeqKind, Fields, FieldAdditions, Alternatives, AlternativeAdditions, Plain, Presence, all_items, all_alternatives, are_distinct, is_item, field_names, identifiers, tags, has_tag, tags_distinct, end_tag}
use Rattle.asn_model.specs.Tree.{same_identifier}

-- An identifier is one of these but for the case of ASCII letters.
abbrev pub has_identifier : List (List ℕ) → List ℕ → Bool
has_identifier [] i = false
has_identifier (n ∷ ns) i = if same_identifier n i then true else has_identifier ns i

-- No two identifiers are the same but for the case of ASCII letters.
abbrev pub differ_ignoring_case : List (List ℕ) → Bool
differ_ignoring_case [] = true
differ_ignoring_case (n ∷ ns) = if has_identifier ns n then false else differ_ignoring_case ns

-- Each name is an identifier of AVN: an ASCII letter and then letters, digits, `-` and `_`.
abbrev pub are_identifiers : List (List ℕ) → Bool
are_identifiers [] = true
are_identifiers (n ∷ ns) = is_identifier n && are_identifiers ns

-- Each name is an identifier of AVN and none of its keywords.
abbrev pub are_no_keywords : List (List ℕ) → Bool
are_no_keywords [] = true
are_no_keywords (n ∷ ns) = (is_identifier n && not (is_keyword n)) && are_no_keywords ns

-- The names of all fields, extension additions last.
abbrev pub all_field_names : Fields → FieldAdditions → List (List ℕ)
all_field_names fs FieldAdditions.closed_fields = field_names fs
all_field_names fs (FieldAdditions.extended_fields more) = field_names fs ++ field_names more

-- The numbers from the least to the greatest have at most 128 bits, signed or unsigned.
abbrev pub has_128_bits : ℤ → ℤ → Bool
has_128_bits least greatest = at_most (negsuc (2 ^ 127 - 1)) least && at_most greatest (pos (2 ^ 128 - 1))

-- The value that a DEFAULT names is one of the shape.
abbrev pub is_of_shape : Shape → Plain → Bool
is_of_shape Shape.boolean (Plain.boolean b) = true
is_of_shape (Shape.int least greatest width) (Plain.int n) = is_between least greatest n
is_of_shape (Shape.text a) (Plain.text t) = is_string_of a t
is_of_shape (Shape.enum items added) (Plain.item i) = is_item (all_items items added) i
is_of_shape s p = false

-- The field's default, if it has one, is a value of its shape.
abbrev pub suits : Presence → Shape → Bool
suits (Presence.default p) s = is_of_shape s p
suits p s = true

-- The choice has an alternative.
abbrev pub has_alternative : Alternatives → Bool
has_alternative Alternatives.no_alternatives = false
has_alternative (Alternatives.alternative i t s alts) = true

-- The identifiers of a choice are identifiers of AVN that differ in more than case, and its tags are distinct and none is that of the end of contents.
abbrev pub are_distinguishable : Alternatives → Bool
are_distinguishable alts = (are_identifiers (identifiers alts) && differ_ignoring_case (identifiers alts)) && (tags_distinct (tags alts) && not (has_tag (tags alts) end_tag))

-- The field has to be present.
abbrev pub is_required : Presence → Bool
is_required Presence.required = true
is_required p = false

-- The shape is that of UTF8String.
abbrev pub is_utf8_string : Shape → Bool
is_utf8_string (Shape.text Alphabet.utf8) = true
is_utf8_string s = false

-- There are two fields, `key`, which is a UTF8String, and `value`, and both have to be present.
abbrev pub are_key_and_value : Fields → Bool
are_key_and_value (Fields.field key t p k (Fields.field value u q v Fields.no_fields)) = (bytes_eq key (codes "key") && is_required p) && (is_utf8_string k && (bytes_eq value (codes "value") && is_required q))
are_key_and_value fs = false

-- There is no extension addition.
abbrev pub has_no_additions : FieldAdditions → Bool
has_no_additions (FieldAdditions.extended_fields (Fields.field n t p s fs)) = false
has_no_additions added = true

-- The kind is that of a SEQUENCE and not of a SET.
abbrev pub is_sequence : SeqKind → Bool
is_sequence SeqKind.sequence = true
is_sequence SeqKind.set = false

-- The shape is that of a table's entry: a SEQUENCE of a key and a value, without additions.
abbrev pub is_entry : Shape → Bool
is_entry (Shape.seq kind fs added) = is_sequence kind && (are_key_and_value fs && has_no_additions added)
is_entry s = false

abbrev mutual
  -- The shape can be read within so many loops, of which the innermost ones, so many, hold it directly and not as a part of a list, sequence, set, table or choice.
  pub is_readable_in : ℕ → ℕ → Shape → Bool
  is_readable_in loops bare (Shape.int least greatest width) = has_128_bits least greatest
  is_readable_in loops bare (Shape.enum items added) = are_no_keywords (all_items items added) && are_distinct (all_items items added)
  is_readable_in loops bare (Shape.seq kind fs added) =
      (are_identifiers (all_field_names fs added) && are_distinct (all_field_names fs added)) && (are_fields_readable loops fs && are_added_fields_readable loops added)
  is_readable_in loops bare (Shape.list_of s) = is_readable_in loops 0 s
  is_readable_in loops bare (Shape.set_of s) = is_readable_in loops 0 s
  is_readable_in loops bare (Shape.table s) = is_entry s && is_readable_in loops 0 s
  is_readable_in loops bare (Shape.choice alts added) =
      (has_alternative (all_alternatives alts added) && are_distinguishable (all_alternatives alts added)) && (are_alternatives_readable loops alts && are_added_alternatives_readable loops added)
  is_readable_in loops bare (Shape.loop s) = is_readable_in (suc loops) (suc bare) s
  is_readable_in loops bare (Shape.back k) = nat_le bare k && nat_lt k loops
  is_readable_in loops bare s = true

  -- The shapes of the fields can be read, and defaults are values of them.
  pub are_fields_readable : ℕ → Fields → Bool
  are_fields_readable loops Fields.no_fields = true
  are_fields_readable loops (Fields.field n t p s fs) = (suits p s && is_readable_in loops 0 s) && are_fields_readable loops fs

  -- So can those of the extension additions.
  pub are_added_fields_readable : ℕ → FieldAdditions → Bool
  are_added_fields_readable loops FieldAdditions.closed_fields = true
  are_added_fields_readable loops (FieldAdditions.extended_fields fs) = are_fields_readable loops fs

  -- The shapes of the alternatives can be read.
  pub are_alternatives_readable : ℕ → Alternatives → Bool
  are_alternatives_readable loops Alternatives.no_alternatives = true
  are_alternatives_readable loops (Alternatives.alternative i t s alts) = is_readable_in loops 0 s && are_alternatives_readable loops alts

  -- So can those of the extension additions.
  pub are_added_alternatives_readable : ℕ → AlternativeAdditions → Bool
  are_added_alternatives_readable loops AlternativeAdditions.closed_alternatives = true
  are_added_alternatives_readable loops (AlternativeAdditions.extended_alternatives alts) = are_alternatives_readable loops alts

-- The shape can be read: names are identifiers of AVN and distinct, identifiers of alternatives differ in more than case, their tags are distinct and none is that of the end of contents, no item is a keyword, a choice has an alternative, a default is a value of its field, the entry of a table is a SEQUENCE of a key and a value, integers have at most 128 bits, and each `back` means a loop around it, with a list, sequence, set, table or choice between.
abbrev pub is_readable : Shape → Bool
is_readable s = is_readable_in 0 0 s
