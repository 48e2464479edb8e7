-- Values without parts, as they are written and read.
use Rattle.std.proofs.Common.{◌≡◌, refl, ap, ◌∙◌, subst, ℕ, ℤ, pos, negsuc, ◌≤ℤ◌, ◌<ℤ◌, List, [], ◌∷◌, true, false, if◌then◌else◌, Option, Some, Result, Ok, Err, ◌⊎◌, inl, inr}
use Rattle.std.specs.Prelude.{option_map}
use Rattle.asn_core.specs.Numbers.{signed, is_negative, magnitude}
use Rattle.asn_core.specs.declared.codec.Codec.{Codec}
use Rattle.asn_fault.specs.Failure.{Failure, Cause, at_root}
use Rattle.asn_coding.specs.Answer.{Refuses, OfPlace}
use Rattle.asn_model.specs.Leaf.{LeafFailure, IsFailureOf, codec_of, as_leaf, kind_of, refine, refined, leaf, IsOwned}
use Rattle.asn_model.specs.Notation.{Notation, notation_of}
use Rattle.asn_coding.specs.Opening.{IsLeaf, IsTaken, TakesLeaf}
use Rattle.asn_model.specs.DecodesTo.{DecodesTo}
use Rattle.asn_model.specs.Shape.{Shape, all_items, is_item}
use Rattle.asn_model.specs.FailsWith.{FailsWith}
use Rattle.asn_model.specs.Tree.{Tree, Slot, head_slot}
use Rattle.asn_model.specs.Value.{Value, Fits, is_leaf_of}
use Rattle.asn_coding.specs.Writing.{Frame, Written, Puts}
use Rattle.asn_model.specs.declared.leaves.LeafKind.{LeafKind}
use Rattle.asn_model.specs.declared.leaves.OwnedLeaf.{OwnedLeaf}
use Rattle.asn_model.proofs.Ranges.{between, outside}
use Rattle.asn_coding.proofs.Refusing.{at_no_field}

-- A value that is put and fits is written.
pub leaf_written : {S : Type 0} {holds : S → List Frame → Type 0} {n : Notation} {old new : S} (s : Shape) (v w : Value) → w ≡ v → is_leaf_of s v ≡ true → Puts holds n w old new → Written holds n s v old new
leaf_written {S} {holds} {n} {old} {new} s v w same e p =
    let q : Puts holds n v old new = subst (λ x. Puts holds n x old new) same p in
    record { added = q.added v refl; fit = Fits.fits_leaf e; writable = q.writable }

-- What a shape says of a tree, by the kind of its values.
by_kind : (n : Notation) {r : Result Value LeafFailure} (s : Shape) (k : LeafKind) (t : Tree) → kind_of s ≡ Some k → as_leaf n k t ≡ r → leaf n s t ≡ Some (refined (codec_of n) s r)
by_kind n s k t is e = ap (option_map (λ j. refined (codec_of n) s (as_leaf n j t))) is ∙ ap (λ r. Some (refined (codec_of n) s r)) e

-- A tree that was taken as a value of the kind.
pub taken : {n : Notation} {k : LeafKind} (t : Tree) (x : OwnedLeaf) (before after : List Slot) → before ≡ Some t ∷ after → IsTaken n k t x → TakesLeaf n k before (Ok x) after
taken t x before after was r = (Some t, was, r.kind, IsLeaf.is_leaf t x r)

-- A value that was taken and is one of the shape is said.
pub leaf_decodes : {n : Notation} (s : Shape) (k : LeafKind) (w : Value) (slot : Slot) (x y : OwnedLeaf) → kind_of s ≡ Some k → x ≡ y → IsLeaf n k slot x
    → ((v : Value) → IsOwned v y → refine (codec_of n) s v ≡ Ok w) → DecodesTo n s slot w
leaf_decodes {n} s k w slot x y is same (IsLeaf.is_leaf t x2 r) f =
    DecodesTo.decodes_leaf s t w (by_kind n s k t is r.reads ∙ ap Some (f r.value (subst (IsOwned r.value) same r.is)))
leaf_decodes s k w slot x y is same (IsLeaf.leaf_free slot2 x2 o) f = DecodesTo.decodes_free s slot w o

-- A value that was taken and is none of the shape stops.
leaf_fails : {n : Notation} (s : Shape) (k : LeafKind) (cause : Cause) (slot : Slot) (x y : OwnedLeaf) → kind_of s ≡ Some k → x ≡ y → IsLeaf n k slot x
    → ((v : Value) → IsOwned v y → refine (codec_of n) s v ≡ Err (LeafFailure.because cause)) → FailsWith n s slot [] cause
leaf_fails {n} s k cause slot x y is same (IsLeaf.is_leaf t x2 r) f =
    FailsWith.fails_leaf s t (LeafFailure.because cause) cause (by_kind n s k t is r.reads ∙ ap Some (f r.value (subst (IsOwned r.value) same r.is))) (IsFailureOf.is_because cause)
leaf_fails s k cause slot x y is same (IsLeaf.leaf_free slot2 x2 o) f = FailsWith.fails_free s slot [] cause o

-- The codec whose errors a notation has is that of the notation, or the notation is that of the other codecs.
pub own_codec : (n : Notation) → (notation_of (codec_of n) ≡ n) ⊎ (n ≡ Notation.other)
own_codec Notation.jer = inl refl
own_codec Notation.avn = inl refl
own_codec Notation.other = inr refl

-- The same, of an error.
pub leaf_refused : {n : Notation} (s : Shape) (k : LeafKind) (cause : Cause) (c : Codec) (slot : Slot) (before after : List Slot) (x y : OwnedLeaf) (e : Failure) → kind_of s ≡ Some k → x ≡ y → before ≡ slot ∷ after → IsLeaf n k slot x
    → ((v : Value) → IsOwned v y → refine (codec_of n) s v ≡ Err (LeafFailure.because cause)) → e ≡ at_root cause c → OfPlace n cause c ⊎ (n ≡ Notation.other) → Refuses n (FailsWith n s (head_slot before)) e
leaf_refused {n} s k cause c slot before after x y e is same was taken f tells (inl of) =
    at_no_field {P = FailsWith n s (head_slot before)} cause c e tells of (rw was (leaf_fails s k cause slot x y is same taken f))
leaf_refused {n} s k cause c slot before after x y e is same was taken f tells (inr o) = Refuses.refuses_free o

-- A number of the type.
pub number_decodes : (c : Codec) (l g k m : ℤ) (w : ℕ) (v : Value) → v ≡ Value.int k → m ≡ k → l ≤ℤ k → k ≤ℤ g → refine c (Shape.int l g w) v ≡ Ok (Value.int m)
number_decodes c l g k m w v e same low high = rw (e, same) (ap (λ b. if b then Ok (Value.int k) else Err (LeafFailure.because (Cause.integer_overflow w))) (between l g k low high))

-- A number that is none of the type.
pub number_refused : (c : Codec) (l g k : ℤ) (w : ℕ) (v : Value) → v ≡ Value.int k → (k <ℤ l) ⊎ (g <ℤ k) → refine c (Shape.int l g w) v ≡ Err (LeafFailure.because (Cause.integer_overflow w))
number_refused c l g k w v e out = rw e (ap (λ b. if b then Ok (Value.int k) else Err (LeafFailure.because (Cause.integer_overflow w))) (outside l g k out))

-- An item of the type.
pub item_decodes : (c : Codec) (items : List (List ℕ)) (added : Option (List (List ℕ))) (i j : List ℕ) (v : Value) → v ≡ Value.item i → j ≡ i → is_item (all_items items added) i ≡ true → refine c (Shape.enum items added) v ≡ Ok (Value.item j)
item_decodes c items added i j v e same h = rw (e, same) (ap (λ b. if b then Ok (Value.item i) else Err (LeafFailure.because (Cause.invalid_enum_discriminant c i))) h)

-- A text that names none.
pub item_refused : (c : Codec) (items : List (List ℕ)) (added : Option (List (List ℕ))) (i : List ℕ) (v : Value) → v ≡ Value.item i → is_item (all_items items added) i ≡ false → refine c (Shape.enum items added) v ≡ Err (LeafFailure.because (Cause.invalid_enum_discriminant c i))
item_refused c items added i v e h = rw e (ap (λ b. if b then Ok (Value.item i) else Err (LeafFailure.because (Cause.invalid_enum_discriminant c i))) h)

-- The sign and the magnitude of a number are that number.
pub signed-parts : (n : ℤ) → signed (is_negative n) (magnitude n) ≡ n
signed-parts (pos m) = refl
signed-parts (negsuc m) = refl
