-- Versions by example, each computed: what is left for an older version, what a newer one adds, and what is a later version of what.
use Rattle.std.proofs.Common.{◌≡◌, ℕ, [], ◌∷◌, refl, true, Some, None, pos}
use Rattle.std.specs.Prelude.{codes}
use Rattle.asn_core.specs.declared.codec.Codec.TheVariants.{Jer}
use Rattle.avn_grammar.specs.Tree.{Tree as AvnTree, Fields as AvnFields}
use Rattle.serde_json.specs.Data.{Data}
use Rattle.asn_fault.specs.Failure.{Cause}
use Rattle.asn_model.specs.DecodesTo.{DecodesTo, FieldsDecodeTo}
use Rattle.asn_model.specs.FailsWith.{FailsWith}
use Rattle.asn_model.specs.Notation.{Notation}
use Rattle.asn_model.specs.Readable.{is_readable}
use Rattle.asn_model.specs.Shape.{Alphabet, Shape, SeqKind, Fields, FieldAdditions, Presence, closed_seq, end_tag}
use Rattle.asn_model.specs.Tree.{Tree}
use Rattle.asn_model.specs.Value.{Value, Values, Slots, value_cmp}
use Rattle.asn_growth.specs.Adapted.{lift, project}
use Rattle.asn_growth.specs.ComesUpon.{ComesUpon}
use Rattle.asn_growth.specs.Differences.{differences_of}
use Rattle.asn_growth.specs.Paths.{paths}
use Rattle.asn_growth.specs.declared.reasons.Reason.TheVariants as reason
use Rattle.asn_growth.specs.Grows.{Grows, GrowsFields, BeginsFields}

-- OldTree ::= SEQUENCE { kids SEQUENCE OF OldTree, ... }
old_tree : Shape
old_tree = Shape.loop (Shape.seq SeqKind.sequence (Fields.field (codes "kids") end_tag Presence.required (Shape.list_of (Shape.back 0)) Fields.no_fields) (FieldAdditions.extended_fields Fields.no_fields))

-- NewTree ::= SEQUENCE { kids SEQUENCE OF NewTree, ..., label UTF8String OPTIONAL }
new_tree : Shape
new_tree =
    Shape.loop (Shape.seq SeqKind.sequence (Fields.field (codes "kids") end_tag Presence.required (Shape.list_of (Shape.back 0)) Fields.no_fields)
    (FieldAdditions.extended_fields (Fields.field (codes "label") end_tag Presence.optional (Shape.text Alphabet.utf8) Fields.no_fields)))

abbrev tree : Values → Slots → Value
tree kids label = Value.members (Slots.present (codes "kids") (Value.list kids) label)

abbrev labeled : Slots
labeled = Slots.present (codes "label") (Value.text (codes "x")) Slots.no_slots

abbrev unlabeled : Slots
unlabeled = Slots.absent (codes "label") Slots.no_slots

-- The later version adds a field, at every depth.
trees_grow : Grows old_tree new_tree
unfolding old_tree new_tree
trees_grow = Grows.grows_loop (Grows.grows_seq (GrowsFields.grows_field (Grows.grows_list (Grows.grows_same refl)) GrowsFields.grows_no_fields) BeginsFields.begins_fields)

can_be_read : is_readable new_tree ≡ true
unfolding new_tree
can_be_read = refl

-- Labels are left out at every depth.
projected : project old_tree (tree (Values.value (tree Values.no_values labeled) Values.no_values) labeled) ≡ tree (Values.value (tree Values.no_values Slots.no_slots) Values.no_values) Slots.no_slots
unfolding old_tree
projected = refl

-- They are absent at every depth.
lifted : lift new_tree (tree (Values.value (tree Values.no_values Slots.no_slots) Values.no_values) Slots.no_slots) ≡ tree (Values.value (tree Values.no_values unlabeled) Values.no_values) unlabeled
unfolding new_tree
lifted = refl

abbrev number : Shape
number = Shape.int (pos 0) (pos 9) 8

-- SET OF SEQUENCE { p SEQUENCE { ... }, c INTEGER }, to whose p a later version adds b.
abbrev older_set : Shape
older_set =
    Shape.set_of (Shape.seq SeqKind.sequence (Fields.field (codes "p") end_tag Presence.required (Shape.seq SeqKind.sequence Fields.no_fields (FieldAdditions.extended_fields Fields.no_fields))
    (Fields.field (codes "c") end_tag Presence.required number Fields.no_fields)) FieldAdditions.closed_fields)

abbrev element : Slots → ℕ → Value
element p c = Value.members (Slots.present (codes "p") (Value.members p) (Slots.present (codes "c") (Value.int (pos c)) Slots.no_slots))

abbrev added : ℕ → Slots
added b = Slots.present (codes "b") (Value.int (pos b)) Slots.no_slots

-- Without b the elements are in another order.
sorted_again : project older_set (Value.bag (Values.value (element (added 1) 2) (Values.value (element (added 2) 1) Values.no_values)))
    ≡ Value.bag (Values.value (element Slots.no_slots 1) (Values.value (element Slots.no_slots 2) Values.no_values))
unfolding value_cmp
sorted_again = refl

-- Elements that become equal are kept, each one.
repeats_kept : project older_set (Value.bag (Values.value (element (added 1) 2) (Values.value (element (added 2) 2) Values.no_values)))
    ≡ Value.bag (Values.value (element Slots.no_slots 2) (Values.value (element Slots.no_slots 2) Values.no_values))
unfolding value_cmp
repeats_kept = refl

-- ENUMERATED { low, ... } and ENUMERATED { low, ..., high }
abbrev old_mode : Shape
old_mode = Shape.enum (codes "low" ∷ []) (Some [])

abbrev new_mode : Shape
new_mode = Shape.enum (codes "low" ∷ []) (Some (codes "high" ∷ []))

modes_grow : Grows old_mode new_mode
modes_grow = Grows.grows_enum (codes "low" ∷ []) [] (codes "high" ∷ [])

-- A reader of the older version comes upon the item.
unknown : ComesUpon Notation.jer old_mode (Tree.json (Data.string (codes "high"))) [] (Cause.invalid_enum_discriminant Jer (codes "high"))
unknown = ComesUpon.unknown_item (codes "low" ∷ []) (Some []) (Tree.json (Data.string (codes "high"))) (codes "high") refl refl

-- Without an extension marker nothing may be added.
no_marker : Grows (Shape.enum (codes "low" ∷ []) None) new_mode → ⊥
no_marker g = elim g [ ]

-- No place of the older tree differs in the newer one.
no_difference : differences_of old_tree new_tree 0 ≡ []
unfolding old_tree new_tree
no_difference = refl

-- The other way round the addition is missing. The loop is node 0 and its body node 1, which isn't gone into.
addition_missing : differences_of new_tree old_tree 0 ≡ (1, reason.Additions) ∷ []
unfolding old_tree new_tree
addition_missing = refl

-- Without an extension marker the items may not be extended.
marker_missing : differences_of (Shape.enum (codes "low" ∷ []) None) old_mode 0 ≡ (0, reason.Extensible) ∷ []
marker_missing = refl

-- Both fields of an element differ. The list is node 0, its element node 1, and `p` and `c` are 2 and 3.
both_fields : differences_of (Shape.list_of (closed_seq (Fields.field (codes "p") end_tag Presence.required number (Fields.field (codes "c") end_tag Presence.required Shape.null Fields.no_fields))))
    (Shape.list_of (closed_seq (Fields.field (codes "p") end_tag Presence.required Shape.octets (Fields.field (codes "c") end_tag Presence.required Shape.boolean Fields.no_fields)))) 0
    ≡ (2, reason.Kind) ∷ (3, reason.Kind) ∷ []
both_fields = refl

-- The ways to the loop, its body, `kids`, the element that is the loop again, and `label`.
ways : paths new_tree ≡ [] ∷ [] ∷ (codes "kids" ∷ []) ∷ (codes "kids" ∷ codes "*" ∷ []) ∷ (codes "label" ∷ []) ∷ []
unfolding new_tree
ways = refl

-- SEQUENCE { ... }, to which a later version adds b.
abbrev old_empty : Shape
old_empty = Shape.seq SeqKind.sequence Fields.no_fields (FieldAdditions.extended_fields Fields.no_fields)

abbrev new_empty : Shape
new_empty = Shape.seq SeqKind.sequence Fields.no_fields (FieldAdditions.extended_fields (Fields.field (codes "b") end_tag Presence.optional Shape.boolean Fields.no_fields))

empty_grows : Grows old_empty new_empty
empty_grows = Grows.grows_seq GrowsFields.grows_no_fields BeginsFields.begins_fields

abbrev b_twice : Tree
b_twice = Tree.avn (AvnTree.sequence (AvnFields.field (codes "b") (AvnTree.boolean true) (AvnFields.field (codes "b") (AvnTree.boolean true) AvnFields.no_fields)))

-- The older version passes over the name that it lacks, also where it stands twice.
passed_over : DecodesTo Notation.avn old_empty (Some b_twice) (Value.members Slots.no_slots)
passed_over = DecodesTo.decodes_seq _ _ _ _ _ _ refl refl FieldsDecodeTo.decodes_end

-- The newer version has the name, and refuses it there.
refused_by_newer : FailsWith Notation.avn new_empty (Some b_twice) [] (Cause.duplicate_field (codes "b"))
refused_by_newer = FailsWith.fails_repeated _ _ _ _ _ _ refl refl
