-- A slot that decodes to no value by a shape has one reason, but for the name of a CHOICE type.
use Rattle.std.proofs.Common.{◌≡◌, ℕ, List, [], ◌∷◌, map, Option, Some, None, Result, Err, ap, refl, sym, subst, ◌∙◌}
use Rattle.std.specs.List.{AllByRecursion}
use Rattle.asn_core.specs.declared.codec.Codec.{Codec}
use Rattle.asn_core.specs.declared.codec.Codec.TheVariants.{Jer, Avn}
use Rattle.asn_fault.specs.Failure.{Cause}
use Rattle.asn_model.specs.Components.{Component, Standing, component_names, reading_order}
use Rattle.asn_model.specs.FailsWith.{FailsWith, EachFailsWith, FieldsFailWith, Path}
use Rattle.asn_model.specs.Leaf.{LeafFailure, IsFailureOf, IsFound, codec_of}
use Rattle.asn_model.specs.Notation.{Notation, IsText, notation_of}
use Rattle.asn_model.specs.Shape.{Shape}
use Rattle.asn_model.specs.Tree.{Tree, Slot}
use Rattle.asn_model.specs.Value.{may_lack}
use Rattle.asn_model.proofs.Meanings.{Member, apart, empty_named, named, none_some, not_both, not_other, nothing, some_same}
use Rattle.asn_upgrades.specs.agreement.Alike.{without_name}
use Rattle.asn_upgrades.proofs.agreement.Floats.{IsWhole, IsWholeSlot, list-whole, members-whole, slots-whole, payload-whole}

-- The codec of a text notation.
pub codec_known : (n : Notation) (c : Codec) → IsText n → notation_of c ≡ n → c ≡ codec_of n
codec_known Notation.jer Jer text e = refl
codec_known Notation.jer Avn text e = let d : ◌≡◌ {A = Notation} Notation.avn Notation.jer = e in cc d
codec_known Notation.jer c text e = let d : ◌≡◌ {A = Notation} Notation.other Notation.jer = e in cc d
codec_known Notation.avn Avn text e = refl
codec_known Notation.avn Jer text e = let d : ◌≡◌ {A = Notation} Notation.jer Notation.avn = e in cc d
codec_known Notation.avn c text e = let d : ◌≡◌ {A = Notation} Notation.other Notation.avn = e in cc d
codec_known Notation.other c text e = absurd text

-- Paths are equal, and causes but for the name.
pub record AreOne (p q : Path) (w x : Cause) : Type 0 where
  pub path : p ≡ q
  pub cause : without_name w ≡ without_name x

at-root : {w x : Cause} → w ≡ x → AreOne [] [] w x
at-root e = record { path = refl; cause = ap without_name e }

below : {p q : Path} {w x : Cause} (name : List ℕ) → AreOne p q w x → AreOne (name ∷ p) (name ∷ q) w x
below name one = record { path = ap (λ r. name ∷ r) one.path; cause = one.cause }

err_same : {A E : Type 0} {x y : E} {o : Option (Result A E)} → o ≡ Some (Err x) → o ≡ Some (Err y) → x ≡ y
err_same {A} {E} {x} {y} e f = let d : ◌≡◌ {A = Option (Result A E)} (Some (Err x)) (Some (Err y)) = sym e ∙ f in cc d

root_added : (s : Standing) → s ≡ Standing.root → s ≡ Standing.addition → ⊥
root_added s e f = let d : ◌≡◌ {A = Standing} Standing.root Standing.addition = sym e ∙ f in cc d

-- What was found in a tree without a float has one text.
found-one : (t : Tree) {a b : List ℕ} → IsWhole t → IsFound t a → IsFound t b → a ≡ b
found-one (Tree.json d) w x y = x w ∙ sym (y w)
found-one (Tree.avn t) w x y = x ∙ sym y

mismatched : {x y : List ℕ} → LeafFailure.mismatch x ≡ LeafFailure.mismatch y → x ≡ y
mismatched e = cc e

failure-one : {n : Notation} {t : Tree} {f g : LeafFailure} {w x : Cause} → IsWhole t → f ≡ g → IsFailureOf n t f w → IsFailureOf n t g x → w ≡ x
failure-one {n} {t} whole same (IsFailureOf.is_mismatch needed found a) (IsFailureOf.is_mismatch needed2 found2 b) =
    ap (λ m. Cause.type_mismatch (codec_of n) m found) (mismatched same) ∙ ap (Cause.type_mismatch (codec_of n) needed2) (found-one t whole a b)
failure-one whole same (IsFailureOf.is_because w) (IsFailureOf.is_because x) = cc same
failure-one whole same (IsFailureOf.is_mismatch needed found a) (IsFailureOf.is_because x) = cc same
failure-one whole same (IsFailureOf.is_because w) (IsFailureOf.is_mismatch needed found b) = cc same

-- An absent slot fails at once, for want of input.
absent-one : {n : Notation} {s : Shape} {p q : Path} {w x : Cause} → IsText n → FailsWith n s None p w → FailsWith n s None q x → AreOne p q w x
absent-one {n} text (FailsWith.fails_absent s c e) (FailsWith.fails_absent s2 d f) = at-root (ap Cause.end_of_input (codec_known n c text e ∙ sym (codec_known n d text f)))
absent-one {n} text (FailsWith.fails_free s slot p w e) k = absurd (not_other n text e)
absent-one {n} text (FailsWith.fails_absent s c e) (FailsWith.fails_free s2 slot p w f) = absurd (not_other n text f)

mutual
  -- A tree has one reason.
  pub one-reason : {n : Notation} {s : Shape} {t : Tree} {p q : Path} {w x : Cause} → IsText n → IsWhole t → FailsWith n s (Some t) p w → FailsWith n s (Some t) q x → AreOne p q w x
  one-reason {n} text whole (FailsWith.fails_free s slot p w e) k = absurd (not_other n text e)
  one-reason {n} text whole (FailsWith.fails_leaf s t b w e blamed) (FailsWith.fails_free s2 slot q x f) = absurd (not_other n text f)
  one-reason {n} text whole (FailsWith.fails_no_members kind fs added t w e blamed) (FailsWith.fails_free s2 slot q x f) = absurd (not_other n text f)
  one-reason {n} text whole (FailsWith.fails_repeated kind fs added t look name e r) (FailsWith.fails_free s2 slot q x f) = absurd (not_other n text f)
  one-reason {n} text whole (FailsWith.fails_seq kind fs added t look p w e r h) (FailsWith.fails_free s2 slot q x f) = absurd (not_other n text f)
  one-reason {n} text whole (FailsWith.fails_no_list s t w e blamed) (FailsWith.fails_free s2 slot q x f) = absurd (not_other n text f)
  one-reason {n} text whole (FailsWith.fails_list s t slots p w e h) (FailsWith.fails_free s2 slot q x f) = absurd (not_other n text f)
  one-reason {n} text whole (FailsWith.fails_no_set s t w e blamed) (FailsWith.fails_free s2 slot q x f) = absurd (not_other n text f)
  one-reason {n} text whole (FailsWith.fails_set s t slots p w e h) (FailsWith.fails_free s2 slot q x f) = absurd (not_other n text f)
  one-reason {n} text whole (FailsWith.fails_table s t p w h) (FailsWith.fails_free s2 slot q x f) = absurd (not_other n text f)
  one-reason {n} text whole (FailsWith.fails_no_choice alts added t w e blamed) (FailsWith.fails_free s2 slot q x f) = absurd (not_other n text f)
  one-reason {n} text whole (FailsWith.fails_no_member alts added t r e) (FailsWith.fails_free s2 slot q x f) = absurd (not_other n text f)
  one-reason {n} text whole (FailsWith.fails_unnamed alts added t name u r e g) (FailsWith.fails_free s2 slot q x f) = absurd (not_other n text f)
  one-reason {n} text whole (FailsWith.fails_payload alts added t name u id s p w e g h) (FailsWith.fails_free s2 slot q x f) = absurd (not_other n text f)
  one-reason {n} text whole (FailsWith.fails_loop body t p w h) (FailsWith.fails_free s2 slot q x f) = absurd (not_other n text f)
  one-reason text whole (FailsWith.fails_leaf s t b w e blamed) (FailsWith.fails_leaf s2 t2 c x f blamed2) = at-root (failure-one whole (err_same e f) blamed blamed2)
  one-reason text whole (FailsWith.fails_leaf s t b w e blamed) (FailsWith.fails_no_members kind fs added t2 x f blamed2) = absurd (none_some refl e)
  one-reason text whole (FailsWith.fails_leaf s t b w e blamed) (FailsWith.fails_repeated kind fs added t2 look name f r) = absurd (none_some refl e)
  one-reason text whole (FailsWith.fails_leaf s t b w e blamed) (FailsWith.fails_seq kind fs added t2 look q x f r k) = absurd (none_some refl e)
  one-reason text whole (FailsWith.fails_leaf s t b w e blamed) (FailsWith.fails_no_list s2 t2 x f blamed2) = absurd (none_some refl e)
  one-reason text whole (FailsWith.fails_leaf s t b w e blamed) (FailsWith.fails_list s2 t2 slots q x f k) = absurd (none_some refl e)
  one-reason text whole (FailsWith.fails_leaf s t b w e blamed) (FailsWith.fails_no_set s2 t2 x f blamed2) = absurd (none_some refl e)
  one-reason text whole (FailsWith.fails_leaf s t b w e blamed) (FailsWith.fails_set s2 t2 slots q x f k) = absurd (none_some refl e)
  one-reason text whole (FailsWith.fails_leaf s t b w e blamed) (FailsWith.fails_table s2 t2 q x k) = absurd (none_some refl e)
  one-reason text whole (FailsWith.fails_leaf s t b w e blamed) (FailsWith.fails_no_choice alts added t2 x f blamed2) = absurd (none_some refl e)
  one-reason text whole (FailsWith.fails_leaf s t b w e blamed) (FailsWith.fails_no_member alts added t2 r f) = absurd (none_some refl e)
  one-reason text whole (FailsWith.fails_leaf s t b w e blamed) (FailsWith.fails_unnamed alts added t2 name u r f g) = absurd (none_some refl e)
  one-reason text whole (FailsWith.fails_leaf s t b w e blamed) (FailsWith.fails_payload alts added t2 name u id s2 q x f g k) = absurd (none_some refl e)
  one-reason text whole (FailsWith.fails_leaf s t b w e blamed) (FailsWith.fails_loop body t2 q x k) = absurd (none_some refl e)
  one-reason text whole (FailsWith.fails_no_members kind fs added t w e blamed) (FailsWith.fails_leaf s2 t2 c x f blamed2) = absurd (none_some refl f)
  one-reason text whole (FailsWith.fails_no_members kind fs added t w e blamed) (FailsWith.fails_no_members kind2 fs2 added2 t2 x f blamed2) = at-root (failure-one whole refl blamed blamed2)
  one-reason text whole (FailsWith.fails_no_members kind fs added t w e blamed) (FailsWith.fails_repeated kind2 fs2 added2 t2 look name f r) = absurd (none_some e f)
  one-reason text whole (FailsWith.fails_no_members kind fs added t w e blamed) (FailsWith.fails_seq kind2 fs2 added2 t2 look q x f r k) = absurd (none_some e f)
  one-reason text whole (FailsWith.fails_repeated kind fs added t look name e r) (FailsWith.fails_leaf s2 t2 c x f blamed2) = absurd (none_some refl f)
  one-reason text whole (FailsWith.fails_repeated kind fs added t look name e r) (FailsWith.fails_no_members kind2 fs2 added2 t2 x f blamed2) = absurd (none_some f e)
  one-reason text whole (FailsWith.fails_repeated kind fs added t look name e r) (FailsWith.fails_repeated kind2 fs2 added2 t2 look2 name2 f r2) = at-root (ap Cause.duplicate_field (some_same r r2))
  one-reason text whole (FailsWith.fails_repeated kind fs added t look name e r) (FailsWith.fails_seq kind2 fs2 added2 t2 look2 q x f r2 k) = absurd (none_some r2 r)
  one-reason text whole (FailsWith.fails_seq kind fs added t look p w e r h) (FailsWith.fails_leaf s2 t2 c x f blamed2) = absurd (none_some refl f)
  one-reason text whole (FailsWith.fails_seq kind fs added t look p w e r h) (FailsWith.fails_no_members kind2 fs2 added2 t2 x f blamed2) = absurd (none_some f e)
  one-reason text whole (FailsWith.fails_seq kind fs added t look p w e r h) (FailsWith.fails_repeated kind2 fs2 added2 t2 look2 name f r2) = absurd (none_some r r2)
  one-reason {n} text whole (FailsWith.fails_seq kind fs added t look p w e r h) (FailsWith.fails_seq kind2 fs2 added2 t2 look2 q x f r2 k) =
      let names = component_names (reading_order kind fs added) in
      one-field-reason text (slots-whole look names (members-whole n t look whole e)) h
      (subst (λ l. FieldsFailWith n (reading_order kind fs added) (map l names) q x) (some_same f e) k)
  one-reason text whole (FailsWith.fails_no_list s t w e blamed) (FailsWith.fails_leaf s2 t2 c x f blamed2) = absurd (none_some refl f)
  one-reason text whole (FailsWith.fails_no_list s t w e blamed) (FailsWith.fails_no_list s2 t2 x f blamed2) = at-root (failure-one whole refl blamed blamed2)
  one-reason text whole (FailsWith.fails_no_list s t w e blamed) (FailsWith.fails_list s2 t2 slots q x f k) = absurd (none_some e f)
  one-reason text whole (FailsWith.fails_list s t slots p w e h) (FailsWith.fails_leaf s2 t2 c x f blamed2) = absurd (none_some refl f)
  one-reason text whole (FailsWith.fails_list s t slots p w e h) (FailsWith.fails_no_list s2 t2 x f blamed2) = absurd (none_some f e)
  one-reason {n} text whole (FailsWith.fails_list s t slots p w e h) (FailsWith.fails_list s2 t2 slots2 q x f k) =
      one-element-reason text (list-whole n t slots whole e) h (subst (λ l. EachFailsWith n s l q x) (some_same f e) k)
  one-reason text whole (FailsWith.fails_no_set s t w e blamed) (FailsWith.fails_leaf s2 t2 c x f blamed2) = absurd (none_some refl f)
  one-reason text whole (FailsWith.fails_no_set s t w e blamed) (FailsWith.fails_no_set s2 t2 x f blamed2) = at-root (failure-one whole refl blamed blamed2)
  one-reason text whole (FailsWith.fails_no_set s t w e blamed) (FailsWith.fails_set s2 t2 slots q x f k) = absurd (none_some e f)
  one-reason text whole (FailsWith.fails_set s t slots p w e h) (FailsWith.fails_leaf s2 t2 c x f blamed2) = absurd (none_some refl f)
  one-reason text whole (FailsWith.fails_set s t slots p w e h) (FailsWith.fails_no_set s2 t2 x f blamed2) = absurd (none_some f e)
  one-reason {n} text whole (FailsWith.fails_set s t slots p w e h) (FailsWith.fails_set s2 t2 slots2 q x f k) =
      one-element-reason text (list-whole n t slots whole e) h (subst (λ l. EachFailsWith n s l q x) (some_same f e) k)
  one-reason text whole (FailsWith.fails_table s t p w h) (FailsWith.fails_leaf s2 t2 c x f blamed2) = absurd (none_some refl f)
  one-reason text whole (FailsWith.fails_table s t p w h) (FailsWith.fails_table s2 t2 q x k) = one-reason text whole h k
  one-reason text whole (FailsWith.fails_no_choice alts added t w e blamed) (FailsWith.fails_leaf s2 t2 c x f blamed2) = absurd (none_some refl f)
  one-reason text whole (FailsWith.fails_no_choice alts added t w e blamed) (FailsWith.fails_no_choice alts2 added2 t2 x f blamed2) = at-root (failure-one whole refl blamed blamed2)
  one-reason text whole (FailsWith.fails_no_choice alts added t w e blamed) (FailsWith.fails_no_member alts2 added2 t2 r f) = absurd (none_some e f)
  one-reason text whole (FailsWith.fails_no_choice alts added t w e blamed) (FailsWith.fails_unnamed alts2 added2 t2 name u r f g) = absurd (none_some e f)
  one-reason text whole (FailsWith.fails_no_choice alts added t w e blamed) (FailsWith.fails_payload alts2 added2 t2 name u id s q x f g k) = absurd (none_some e f)
  one-reason text whole (FailsWith.fails_no_member alts added t r e) (FailsWith.fails_leaf s2 t2 c x f blamed2) = absurd (none_some refl f)
  one-reason text whole (FailsWith.fails_no_member alts added t r e) (FailsWith.fails_no_choice alts2 added2 t2 x f blamed2) = absurd (none_some f e)
  one-reason text whole (FailsWith.fails_no_member alts added t r e) (FailsWith.fails_no_member alts2 added2 t2 r2 f) = record { path = refl; cause = refl }
  one-reason text whole (FailsWith.fails_no_member alts added t r e) (FailsWith.fails_unnamed alts2 added2 t2 name u r2 f g) = absurd (empty_named e f)
  one-reason text whole (FailsWith.fails_no_member alts added t r e) (FailsWith.fails_payload alts2 added2 t2 name u id s q x f g k) = absurd (empty_named e f)
  one-reason text whole (FailsWith.fails_unnamed alts added t name u r e g) (FailsWith.fails_leaf s2 t2 c x f blamed2) = absurd (none_some refl f)
  one-reason text whole (FailsWith.fails_unnamed alts added t name u r e g) (FailsWith.fails_no_choice alts2 added2 t2 x f blamed2) = absurd (none_some f e)
  one-reason text whole (FailsWith.fails_unnamed alts added t name u r e g) (FailsWith.fails_no_member alts2 added2 t2 r2 f) = absurd (empty_named f e)
  one-reason text whole (FailsWith.fails_unnamed alts added t name u r e g) (FailsWith.fails_unnamed alts2 added2 t2 name2 u2 r2 f g2) = record { path = refl; cause = refl }
  one-reason text whole (FailsWith.fails_unnamed alts added t name u r e g) (FailsWith.fails_payload alts2 added2 t2 name2 u2 id s q x f g2 k) =
      let m : ◌≡◌ {A = Member} (name2, u2) (name, u) = named f e in
      absurd (none_some g (rw (ap (λ (a : Member). a.0) m) at g2))
  one-reason text whole (FailsWith.fails_payload alts added t name u id s p w e g h) (FailsWith.fails_leaf s2 t2 c x f blamed2) = absurd (none_some refl f)
  one-reason text whole (FailsWith.fails_payload alts added t name u id s p w e g h) (FailsWith.fails_no_choice alts2 added2 t2 x f blamed2) = absurd (none_some f e)
  one-reason text whole (FailsWith.fails_payload alts added t name u id s p w e g h) (FailsWith.fails_no_member alts2 added2 t2 r2 f) = absurd (empty_named f e)
  one-reason text whole (FailsWith.fails_payload alts added t name u id s p w e g h) (FailsWith.fails_unnamed alts2 added2 t2 name2 u2 r2 f g2) =
      let m : ◌≡◌ {A = Member} (name2, u2) (name, u) = named f e in
      absurd (none_some (rw (ap (λ (a : Member). a.0) m) at g2) g)
  one-reason {n} text whole (FailsWith.fails_payload alts added t name u id s p w e g h) (FailsWith.fails_payload alts2 added2 t2 name2 u2 id2 s2 q x f g2 k) =
      let m : ◌≡◌ {A = Member} (name2, u2) (name, u) = named f e in
      let c : ◌≡◌ {A = List ℕ × Shape} (id2, s2) (id, s) = some_same (rw (ap (λ (a : Member). a.0) m) at g2) g in
      one-reason text (payload-whole n t name u whole e) h
      (subst (λ r. FailsWith n r (Some u) q x) (ap (λ (r : List ℕ × Shape). r.1) c) (subst (λ r. FailsWith n s2 (Some r) q x) (ap (λ (r : Member). r.1) m) k))
  one-reason text whole (FailsWith.fails_loop body t p w h) (FailsWith.fails_leaf s2 t2 c x f blamed2) = absurd (none_some refl f)
  one-reason text whole (FailsWith.fails_loop body t p w h) (FailsWith.fails_loop body2 t2 q x k) = one-reason text whole h k

  -- So have elements: that of the first one that fails.
  one-element-reason : {n : Notation} {s : Shape} {slots : List Slot} {p q : Path} {w x : Cause} → IsText n → AllByRecursion IsWholeSlot slots → EachFailsWith n s slots p w → EachFailsWith n s slots q x → AreOne p q w x
  one-element-reason text whole (EachFailsWith.fails_here s None rest p w h) (EachFailsWith.fails_here s2 slot2 rest2 q x k) = absent-one text h k
  one-element-reason text whole (EachFailsWith.fails_here s (Some t) rest p w h) (EachFailsWith.fails_here s2 slot2 rest2 q x k) = one-reason text whole.0 h k
  one-element-reason text whole (EachFailsWith.fails_here s slot rest p w h) (EachFailsWith.fails_later s2 slot2 rest2 v q x d k) = absurd (apart text d h)
  one-element-reason text whole (EachFailsWith.fails_later s slot rest v p w d h) (EachFailsWith.fails_here s2 slot2 rest2 q x k) = absurd (apart text d k)
  one-element-reason text whole (EachFailsWith.fails_later s slot rest v p w d h) (EachFailsWith.fails_later s2 slot2 rest2 v2 q x d2 k) = one-element-reason text whole.1 h k

  -- So have fields: that of the first one that fails.
  one-field-reason : {n : Notation} {cs : List Component} {slots : List Slot} {p q : Path} {w x : Cause} → IsText n → AllByRecursion IsWholeSlot slots → FieldsFailWith n cs slots p w → FieldsFailWith n cs slots q x → AreOne p q w x
  one-field-reason text whole (FieldsFailWith.field_fails c cs t rest p w h) (FieldsFailWith.field_fails c2 cs2 t2 rest2 q x k) = below c.name (one-reason text whole.0 h k)
  one-field-reason text whole (FieldsFailWith.field_fails c cs t rest p w h) (FieldsFailWith.after_present c2 cs2 slot rest2 v q x d k) = absurd (apart text d h)
  one-field-reason text whole (FieldsFailWith.field_is_missing c cs rest p w lack at h) (FieldsFailWith.field_is_missing c2 cs2 rest2 q x lack2 at2 k) = below c.name (absent-one text h k)
  one-field-reason text whole (FieldsFailWith.field_is_missing c cs rest p w lack at h) (FieldsFailWith.addition_is_missing c2 cs2 rest2 lack2 at2) = absurd (root_added c.standing at at2)
  one-field-reason text whole (FieldsFailWith.field_is_missing c cs rest p w lack at h) (FieldsFailWith.after_present c2 cs2 slot rest2 v q x d k) = absurd (nothing text d)
  one-field-reason text whole (FieldsFailWith.field_is_missing c cs rest p w lack at h) (FieldsFailWith.after_absent c2 cs2 rest2 q x lack2 k) = absurd (not_both (may_lack c.presence) lack2 lack)
  one-field-reason text whole (FieldsFailWith.addition_is_missing c cs rest lack at) (FieldsFailWith.field_is_missing c2 cs2 rest2 q x lack2 at2 k) = absurd (root_added c.standing at2 at)
  one-field-reason text whole (FieldsFailWith.addition_is_missing c cs rest lack at) (FieldsFailWith.addition_is_missing c2 cs2 rest2 lack2 at2) = at-root refl
  one-field-reason text whole (FieldsFailWith.addition_is_missing c cs rest lack at) (FieldsFailWith.after_present c2 cs2 slot rest2 v q x d k) = absurd (nothing text d)
  one-field-reason text whole (FieldsFailWith.addition_is_missing c cs rest lack at) (FieldsFailWith.after_absent c2 cs2 rest2 q x lack2 k) = absurd (not_both (may_lack c.presence) lack2 lack)
  one-field-reason text whole (FieldsFailWith.after_present c cs slot rest v p w d h) (FieldsFailWith.field_fails c2 cs2 t2 rest2 q x k) = absurd (apart text d k)
  one-field-reason text whole (FieldsFailWith.after_present c cs slot rest v p w d h) (FieldsFailWith.field_is_missing c2 cs2 rest2 q x lack2 at2 k) = absurd (nothing text d)
  one-field-reason text whole (FieldsFailWith.after_present c cs slot rest v p w d h) (FieldsFailWith.addition_is_missing c2 cs2 rest2 lack2 at2) = absurd (nothing text d)
  one-field-reason text whole (FieldsFailWith.after_present c cs slot rest v p w d h) (FieldsFailWith.after_present c2 cs2 slot2 rest2 v2 q x d2 k) = one-field-reason text whole.1 h k
  one-field-reason text whole (FieldsFailWith.after_present c cs slot rest v p w d h) (FieldsFailWith.after_absent c2 cs2 rest2 q x lack2 k) = absurd (nothing text d)
  one-field-reason text whole (FieldsFailWith.after_absent c cs rest p w lack h) (FieldsFailWith.field_is_missing c2 cs2 rest2 q x lack2 at2 k) = absurd (not_both (may_lack c.presence) lack lack2)
  one-field-reason text whole (FieldsFailWith.after_absent c cs rest p w lack h) (FieldsFailWith.addition_is_missing c2 cs2 rest2 lack2 at2) = absurd (not_both (may_lack c.presence) lack lack2)
  one-field-reason text whole (FieldsFailWith.after_absent c cs rest p w lack h) (FieldsFailWith.after_present c2 cs2 slot rest2 v q x d k) = absurd (nothing text d)
  one-field-reason text whole (FieldsFailWith.after_absent c cs rest p w lack h) (FieldsFailWith.after_absent c2 cs2 rest2 q x lack2 k) = one-field-reason text whole.1 h k
