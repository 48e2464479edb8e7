-- Examples that are made part by part.
use Rattle.std.proofs.Common.{◌≡◌, refl, ap, sym, ◌∙◌, arith, ℕ, suc, ◌+◌, ◌<◌, List, [], ◌∷◌, ◌++◌, drop, get_or, length, drop-cons, map, Bool, true, false, not, if◌then◌else◌, Option, Some, None, String, string_bytes}
use Rattle.std.proofs.lemmas.List.{append_assoc, map-append}
use Rattle.std.specs.Global.{Global, Vec}
use Rattle.std.specs.Prelude.{option_map}
use Rattle.asn_dynamic_values.specs.DynView.{dyn_value, members_named, named_value}
use Rattle.asn_dynamic_values.specs.declared.value.DynValue.{DynValue, Members as Members'}
use Rattle.asn_dynamic_values.proofs.Views.{view-Members}
use Rattle.asn_example_values.specs.Examples.{added_alternatives_example, added_members_example, alternatives_example, example, joined, member_example, members_example, or_else, with_member}
use Rattle.asn_example_values.specs.Made.{is_lacking, members_made}
use Rattle.asn_model.specs.Enclosing.{entries_of}
use Rattle.asn_model.specs.Shape.{Presence}
use Rattle.asn_model.specs.ShapeView.{added_field_views, alternative_views, field_views, presence_view, shape_view}
use Rattle.asn_model.specs.Value.{Value, may_lack}
use Rattle.asn_model.specs.declared.shape_type.AlternativeShape.{AlternativeShape}
use Rattle.asn_model.specs.declared.shape_type.FieldShape.{FieldShape}
use Rattle.asn_model.specs.declared.shape_type.SeqKind.{SeqKind}
use Rattle.asn_model.specs.declared.shape_type.Shape as code
use Rattle.asn_model.specs.declared.shape_type.Shape.TheViews.{Choice, Seq}
use Rattle.asn_model.proofs.Viewing.{added_alternative_views, choice_viewed, sequence_viewed}

abbrev Members : Type 0
Members = List (List ℕ × Option Value)

-- Nothing stands before.
joined-nothing : (m : Option Members) → joined (Some []) m ≡ m
joined-nothing None = refl
joined-nothing (Some l) = refl

-- One more member is behind the others.
one-more : (ms : Members) (n : List ℕ) (o : Option Value) (more : Option Members) → joined (Some ms) (option_map (λ l. (n, o) ∷ l) more) ≡ joined (Some (ms ++ (n, o) ∷ [])) more
one-more ms n o None = refl
one-more ms n o (Some l) = ap Some (sym (append_assoc ms ((n, o) ∷ []) l))

without-one : (b : Bool) (ms : Members) (n : List ℕ) (more : Option Members) → not b ≡ false → joined (Some ms) (if b then option_map (λ l. (n, None) ∷ l) more else None) ≡ joined (Some (ms ++ (n, None) ∷ [])) more
without-one true ms n more e = one-more ms n None more
without-one false ms n more e = let d : true ≡ false = e in cc d

member-more : (ms : Members) (n : List ℕ) (p : Presence) (o : Option Value) (more : Option Members) → is_lacking p o ≡ false → joined (Some ms) (with_member n p o more) ≡ joined (Some (ms ++ (n, o) ∷ [])) more
member-more ms n p (Some v) more e = one-more ms n (Some v) more
member-more ms n p None more e = without-one (may_lack p) ms n more e

-- None is there where one has to be present and has no value.
lacked-if : (b : Bool) (ms : Members) (n : List ℕ) (more : Option Members) → not b ≡ true → joined (Some ms) (if b then option_map (λ l. (n, None) ∷ l) more else None) ≡ None
lacked-if false ms n more e = refl
lacked-if true ms n more e = let d : false ≡ true = e in cc d

member-lacked : (ms : Members) (n : List ℕ) (p : Presence) (o : Option Value) (more : Option Members) → is_lacking p o ≡ true → joined (Some ms) (with_member n p o more) ≡ None
member-lacked ms n p (Some v) more e = let d : false ≡ true = e in cc d
member-lacked ms n p None more e = lacked-if (may_lack p) ms n more e

-- The components that are left begin with the next one.
module _ (full : Bool) (fields : List FieldShape) (i : ℕ) (f : FieldShape) (old : List (String Global × Option DynValue)) (value : Option DynValue) (whole : Option Members) (h : i < length fields) (at : f ≡ get_or fields i f)
    (going : joined (Some (map named_value old)) (members_example full (field_views (drop i fields))) ≡ whole)
    (made : option_map dyn_value value ≡ member_example full (presence_view f.presence) (example full false (shape_view f.shape)) (example full true (shape_view f.shape))) where
  next-left : members_example full (field_views (drop i fields)) ≡ with_member (string_bytes f.name) (presence_view f.presence) (option_map dyn_value value) (members_example full (field_views (drop (suc i) fields)))
  next-left =
      ap (λ l. members_example full (field_views l)) (drop-cons fields i f h ∙ ap (λ x. x ∷ drop (suc i) fields) (sym at))
      ∙ ap (λ o. with_member (string_bytes f.name) (presence_view f.presence) o (members_example full (field_views (drop (suc i) fields)))) (sym made)

  -- With its value they are the ones behind it.
  pub next-member : (new : List (String Global × Option DynValue)) (name : String Global) → string_bytes name ≡ string_bytes f.name → is_lacking (presence_view f.presence) (option_map dyn_value value) ≡ false → new ≡ old ++ (name, value) ∷ []
      → joined (Some (map named_value new)) (members_example full (field_views (drop (i + 1) fields))) ≡ whole
  next-member new name same kept pushed =
      let more = members_example full (field_views (drop (suc i) fields)) in
      let one : map named_value new ≡ map named_value old ++ (string_bytes f.name, option_map dyn_value value) ∷ [] =
      ap (map named_value) pushed ∙ map-append named_value old ((name, value) ∷ []) ∙ ap (λ n. map named_value old ++ (n, option_map dyn_value value) ∷ []) same in
      let next : i + 1 ≡ suc i = omega arith in
      ap (λ k. joined (Some (map named_value new)) (members_example full (field_views (drop k fields)))) next
      ∙ ap (λ l. joined (Some l) more) one
      ∙ sym (member-more (map named_value old) (string_bytes f.name) (presence_view f.presence) (option_map dyn_value value) more kept)
      ∙ ap (joined (Some (map named_value old))) (sym next-left) ∙ going

  -- Without a value that it has to have there are none.
  pub next-lacked : is_lacking (presence_view f.presence) (option_map dyn_value value) ≡ true → whole ≡ None
  next-lacked lacks =
      sym going ∙ ap (joined (Some (map named_value old))) next-left
      ∙ member-lacked (map named_value old) (string_bytes f.name) (presence_view f.presence) (option_map dyn_value value) (members_example full (field_views (drop (suc i) fields))) lacks

additions : (full : Bool) (added : Option (Vec FieldShape)) → added_members_example full (added_field_views added) ≡ members_example full (field_views (entries_of added))
additions full None = refl
additions full (Some fs) = refl

more-alternatives : (full : Bool) (added : Option (Vec AlternativeShape)) → added_alternatives_example full (added_alternative_views added) ≡ alternatives_example full (alternative_views (entries_of added))
more-alternatives full None = refl
more-alternatives full (Some alts) = refl

abbrev as_value : Option Members → Option Value
as_value = option_map (λ ms. Value.members (members_named ms))

-- A SEQUENCE or SET, by the members of its root and those of its extension additions.
module _ (full other : Bool) (shape : code.Shape) (kind : SeqKind) (fields : Vec FieldShape) (added : Option (Vec FieldShape)) (is : shape ≡ Seq kind fields added) (start : List (String Global × Option DynValue)) (nothing : start ≡ []) (root : List FieldShape) (same : root ≡ fields.items) where
  seq-example : example full other (shape_view shape) ≡ as_value (joined (members_example full (field_views fields.items)) (members_example full (field_views (entries_of added))))
  seq-example = ap (λ s. example full other (shape_view s)) is ∙ ap (example full other) (sequence_viewed kind fields added) ∙ ap (λ m. as_value (joined (members_example full (field_views fields.items)) m)) (additions full added)

  first-made : (whole : Bool) (first : Members) → joined (Some (map named_value start)) (members_example full (field_views root)) ≡ members_made whole first → members_example full (field_views fields.items) ≡ members_made whole first
  first-made whole first e =
      sym (joined-nothing (members_example full (field_views fields.items))) ∙ ap (λ l. joined (Some (map named_value l)) (members_example full (field_views fields.items))) (sym nothing)
      ∙ ap (λ l. joined (Some (map named_value start)) (members_example full (field_views l))) (sym same) ∙ e

  pub sequence-lacks : (whole : Bool) (first : Members) → joined (Some (map named_value start)) (members_example full (field_views root)) ≡ members_made whole first → whole ≡ false → None ≡ example full other (shape_view shape)
  sequence-lacks whole first e lacks =
      sym (seq-example ∙ ap (λ m. as_value (joined m (members_example full (field_views (entries_of added))))) (first-made whole first e ∙ ap (λ b. members_made b first) lacks))

  module _ (whole later : Bool) (first all : List (String Global × Option DynValue)) (more : List FieldShape) (begun : joined (Some (map named_value start)) (members_example full (field_views root)) ≡ members_made whole (map named_value first)) (complete : whole ≡ true) (rest : more ≡ entries_of added)
      (ended : joined (Some (map named_value first)) (members_example full (field_views more)) ≡ members_made later (map named_value all)) where
    both-made : example full other (shape_view shape) ≡ as_value (members_made later (map named_value all))
    both-made =
        seq-example ∙ ap (λ m. as_value (joined m (members_example full (field_views (entries_of added))))) (first-made whole (map named_value first) begun ∙ ap (λ b. members_made b (map named_value first)) complete)
        ∙ ap (λ l. as_value (joined (Some (map named_value first)) (members_example full (field_views l)))) (sym rest) ∙ ap as_value ended

    pub sequence-lacks_later : later ≡ false → None ≡ example full other (shape_view shape)
    sequence-lacks_later lacks = sym (both-made ∙ ap (λ b. as_value (members_made b (map named_value all))) lacks)

    pub sequence-made : (members : Vec (String Global × Option DynValue)) → members.items ≡ all → later ≡ true → Some (dyn_value (Members' members)) ≡ example full other (shape_view shape)
    sequence-made members are done =
        ap Some (view-Members members ∙ ap (λ l. Value.members (members_named (map named_value l))) are) ∙ sym (both-made ∙ ap (λ b. as_value (members_made b (map named_value all))) done)

-- A CHOICE, by its alternatives.
module _ (full other : Bool) (shape : code.Shape) (alternatives : Vec AlternativeShape) (added : Option (Vec AlternativeShape)) (is : shape ≡ Choice alternatives added) (root : List AlternativeShape) (same : root ≡ alternatives.items) where
  choice-example : example full other (shape_view shape) ≡ or_else (alternatives_example full (alternative_views alternatives.items)) (alternatives_example full (alternative_views (entries_of added)))
  choice-example = ap (λ s. example full other (shape_view s)) is ∙ ap (example full other) (choice_viewed alternatives added) ∙ ap (or_else (alternatives_example full (alternative_views alternatives.items))) (more-alternatives full added)

  rooted : (o : Option Value) → o ≡ alternatives_example full (alternative_views root) → alternatives_example full (alternative_views alternatives.items) ≡ o
  rooted o e = ap (λ l. alternatives_example full (alternative_views l)) (sym same) ∙ sym e

  pub choice-first : (v : Value) → Some v ≡ alternatives_example full (alternative_views root) → Some v ≡ example full other (shape_view shape)
  choice-first v e = sym (choice-example ∙ ap (λ a. or_else a (alternatives_example full (alternative_views (entries_of added)))) (rooted (Some v) e))

  pub choice-later : (o : Option Value) (more : List AlternativeShape) → None ≡ alternatives_example full (alternative_views root) → more ≡ entries_of added → o ≡ alternatives_example full (alternative_views more) → o ≡ example full other (shape_view shape)
  choice-later o more e rest f =
      f ∙ ap (λ l. alternatives_example full (alternative_views l)) rest ∙ sym (choice-example ∙ ap (λ a. or_else a (alternatives_example full (alternative_views (entries_of added)))) (rooted None e))
