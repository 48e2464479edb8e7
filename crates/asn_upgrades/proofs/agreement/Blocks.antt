-- Two reasons for which a value isn't written are the same.
use Rattle.std.proofs.Common.{◌≡◌, ℕ, sym, subst, ◌∙◌, inl, inr, length, Option, Some, None, refl}
use Rattle.asn_core.specs.declared.codec.Codec.{Codec}
use Rattle.asn_codec.specs.Texts.{IsUnencodable}
use Rattle.asn_coding.proofs.Whole.{not_blocked}
use Rattle.asn_fault.specs.EncodeCause.{EncodeCause}
use Rattle.asn_model.specs.BitLeaves.{LengthBlocks}
use Rattle.asn_model.specs.Notation.{Notation, IsText, notation_of}
use Rattle.asn_model.specs.Value.{Value, Values, Slots}
use Rattle.asn_model.specs.Writable.{Writable, WritableEach, FirstUnencodable, EachFirstUnencodable, SomeUnencodable, SlotsFirstUnencodable}
use Rattle.asn_upgrades.specs.agreement.Blocked.{BagsBlockOnce, BlocksOnce, EachBlocksOnce, SlotsBlockOnce}

one_length : (n : Notation) (size : Option ℕ) (k : ℕ) {a b : EncodeCause} → LengthBlocks n size k a → LengthBlocks n size k b → a ≡ b
one_length Notation.jer (Some m) k x y = x.1 ∙ sym y.1
one_length Notation.jer None k x y = absurd x
one_length Notation.avn size k x y = absurd x
one_length Notation.other size k x y = absurd x

-- Where all can be written, none can't.
none_blocks : (n : Notation) (vs : Values) (a : EncodeCause) → WritableEach n vs → SomeUnencodable n vs a → ⊥
none_blocks n Values.no_values a can x = x
none_blocks n (Values.value v vs) a can (inl x) = not_blocked n v a can.0 x
none_blocks n (Values.value v vs) a can (inr x) = none_blocks n vs a can.1 x

mutual
  one_block : (n : Notation) (v : Value) {a b : EncodeCause} → BagsBlockOnce n v → FirstUnencodable n v a → FirstUnencodable n v b → a ≡ b
  one_block n (Value.int k) once x y = x.1 ∙ sym y.1
  one_block n (Value.text t) once x y = x.1 ∙ sym y.1
  one_block n (Value.units us) once x y = x.1 ∙ sym y.1
  one_block n (Value.utc k) once x y = x.1 ∙ sym y.1
  one_block n (Value.gen k) once x y = x.1 ∙ sym y.1
  one_block n (Value.day k) once x y = x.1 ∙ sym y.1
  one_block n (Value.bits bs size) once x y = one_length n size (length bs) x y
  one_block n (Value.members ms) once x y = one_slot n ms once x y
  one_block n (Value.list vs) once x y = one_element n vs once x y
  one_block n (Value.bag vs) once x y = one_of_set n vs once.0 once.1 x y
  one_block n (Value.choice i v) once x y = one_block n v once x y
  one_block n v once x y = absurd x

  one_element : (n : Notation) (vs : Values) {a b : EncodeCause} → EachBlocksOnce n vs → EachFirstUnencodable n vs a → EachFirstUnencodable n vs b → a ≡ b
  one_element n Values.no_values once x y = absurd x
  one_element n (Values.value v vs) once (inl x) (inl y) = one_block n v once.0 x y
  one_element n (Values.value v vs) {a} once (inl x) (inr y) = absurd (not_blocked n v a y.0 x)
  one_element n (Values.value v vs) {a} {b} once (inr x) (inl y) = absurd (not_blocked n v b x.0 y)
  one_element n (Values.value v vs) once (inr x) (inr y) = one_element n vs once.1 x.1 y.1

  one_of_set : (n : Notation) (vs : Values) {a b : EncodeCause} → BlocksOnce n vs → EachBlocksOnce n vs → SomeUnencodable n vs a → SomeUnencodable n vs b → a ≡ b
  one_of_set n Values.no_values alone once x y = absurd x
  one_of_set n (Values.value v vs) alone once (inl x) (inl y) = one_block n v once.0 x y
  one_of_set n (Values.value v vs) {a} (inl rest) once (inl x) (inr y) = absurd (none_blocks n vs _ rest y)
  one_of_set n (Values.value v vs) {a} (inr first) once (inl x) (inr y) = absurd (not_blocked n v a first.0 x)
  one_of_set n (Values.value v vs) {a} {b} (inl rest) once (inr x) (inl y) = absurd (none_blocks n vs _ rest x)
  one_of_set n (Values.value v vs) {a} {b} (inr first) once (inr x) (inl y) = absurd (not_blocked n v b first.0 y)
  one_of_set n (Values.value v vs) (inl rest) once (inr x) (inr y) = absurd (none_blocks n vs _ rest x)
  one_of_set n (Values.value v vs) (inr first) once (inr x) (inr y) = one_of_set n vs first.1 once.1 x y

  one_slot : (n : Notation) (ms : Slots) {a b : EncodeCause} → SlotsBlockOnce n ms → SlotsFirstUnencodable n ms a → SlotsFirstUnencodable n ms b → a ≡ b
  one_slot n Slots.no_slots once x y = absurd x
  one_slot n (Slots.absent m ms) once x y = one_slot n ms once x y
  one_slot n (Slots.present m v ms) once (inl x) (inl y) = one_block n v once.0 x y
  one_slot n (Slots.present m v ms) {a} once (inl x) (inr y) = absurd (not_blocked n v a y.0 x)
  one_slot n (Slots.present m v ms) {a} {b} once (inr x) (inl y) = absurd (not_blocked n v b x.0 y)
  one_slot n (Slots.present m v ms) once (inr x) (inr y) = one_slot n ms once.1 x.1 y.1

-- A codec refuses a value for one cause.
pub one_cause : (codec : Codec) (v : Value) (a b : EncodeCause) → BagsBlockOnce (notation_of codec) v → IsUnencodable codec v a → IsUnencodable codec v b → a ≡ b
one_cause codec v a b once (IsUnencodable.blocked cause text x) (IsUnencodable.blocked cause2 text2 y) = one_block (notation_of codec) v once x y
one_cause codec v a b once (IsUnencodable.blocked cause text x) (IsUnencodable.not_text other) = absurd (subst IsText other text)
one_cause codec v a b once (IsUnencodable.not_text other) (IsUnencodable.blocked cause text y) = absurd (subst IsText other text)
one_cause codec v a b once (IsUnencodable.not_text other) (IsUnencodable.not_text other2) = refl

-- What can be written isn't refused.
pub written-unrefused : (codec : Codec) (v : Value) (cause : EncodeCause) → IsText (notation_of codec) → Writable (notation_of codec) v → IsUnencodable codec v cause → ⊥
written-unrefused codec v cause text can (IsUnencodable.blocked why is x) = not_blocked (notation_of codec) v why can x
written-unrefused codec v cause text can (IsUnencodable.not_text other) = subst IsText other text
