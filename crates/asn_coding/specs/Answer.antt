-- What a reader answers of the slots that are pending.
use Rattle.std.specs.Prelude.{◌≡◌, ℕ, List, [], ◌∷◌, map, Option, Some, None, Result, Ok, Err, Bool, true, false, ◌⊎◌}
use Rattle.asn_fault.specs.Failure.{Failure, Level, Cause, failure_of, is_out_of_memory}
use Rattle.asn_fault.specs.declared.decode.DecodeError.{DecodeError}
use Rattle.asn_core.specs.declared.codec.Codec.{Codec}
use Rattle.asn_core.specs.declared.codec.Codec.TheVariants.{Ber}
use Rattle.asn_model.specs.Notation.{Notation, notation_of}
use Rattle.asn_model.specs.Shape.{Shape, shape_under}
use Rattle.asn_model.specs.Tree.{Tree, Slot, head_slot}
use Rattle.asn_model.specs.Leaf.{LeafFailure, IsFailureOf}
use Rattle.asn_model.specs.Value.{Value, value_under}
use Rattle.asn_model.specs.DecodesTo.{DecodesTo}
use Rattle.asn_model.specs.FailsWith.{FailsWith, Path}

-- The codec of each level is the notation's.
abbrev pub OfLevels : Notation → List Level → Type 0
OfLevels n [] = Unit {0}
OfLevels n (l ∷ ls) = (notation_of l.codec ≡ n) × OfLevels n ls

-- The codec at the place is the notation's, but for a date, whose grammar BER has.
abbrev pub OfPlace : Notation → Cause → Codec → Type 0
OfPlace n (Cause.invalid_date text) c = c ≡ Ber
OfPlace n cause c = notation_of c ≡ n

-- Memory ran out at no field, by the notation's codec.
abbrev pub IsMemoryFailure : Notation → Failure → Type 0
IsMemoryFailure n s = (is_out_of_memory s ≡ true) × (notation_of s.codec ≡ n)

-- The error is lack of memory, or P says how it failed, and each of its levels has the notation's codec.
pub data Refuses (n : Notation) (P : Path → Cause → Type 0) (s : Failure) : Type 0 where
  no_memory : IsMemoryFailure n s → Refuses n P s
  stopped : P (map (λ l. l.name) s.path) s.cause → OfLevels n s.path → OfPlace n s.cause s.codec → Refuses n P s
  refuses_free : n ≡ Notation.other → Refuses n P s

-- At no field, for a reason that has P.
abbrev pub AtRoot : (Cause → Type 0) → Path → Cause → Type 0
AtRoot P path cause = (path ≡ []) × P cause

-- The error is of this failure of the tree, or lack of memory.
abbrev pub RefusesLeaf : Notation → Tree → LeafFailure → Failure → Type 0
RefusesLeaf n t blame s = Refuses n (AtRoot (IsFailureOf n t blame)) s

-- The first pending slot decodes to the value, and is gone, or it is refused for a reason that it has.
abbrev pub AnswerBy : {A E : Type 0} → (E → Failure) → Notation → Shape → (A → Value) → List Slot → Result A E → List Slot → Type 0
AnswerBy failure n s value before (Ok x) after = (slot : Slot) × (before ≡ slot ∷ after) × DecodesTo n s slot (value x)
AnswerBy failure n s value before (Err e) after = Refuses n (FailsWith n s (head_slot before)) (failure e)

-- The same, with the error of every reader.
abbrev pub Answer : {A : Type 0} → Notation → Shape → (A → Value) → List Slot → Result A DecodeError → List Slot → Type 0
Answer n s value before r after = AnswerBy failure_of n s value before r after

-- The same, under constraints that fix this size, or none.
abbrev pub AnswerUnder : {A : Type 0} → Notation → Option ℕ → Shape → (A → Value) → List Slot → Result A DecodeError → List Slot → Type 0
AnswerUnder n size s value before r after = Answer n (shape_under size s) (λ x. value_under size s (value x)) before r after

-- Nothing is pending.
pub record NonePending (n : Notation) (before : List Slot) (p : Path) (w : Cause) : Type 0 where
  pub none : before ≡ []
  pub path : p ≡ []
  pub codec : Codec
  pub of : notation_of codec ≡ n
  pub cause : w ≡ Cause.end_of_input codec

-- An absent slot is taken, and a present one stays.
abbrev pub TakesAbsent : Notation → List Slot → Result Bool DecodeError → List Slot → Type 0
TakesAbsent n before (Ok true) after = before ≡ None ∷ after
TakesAbsent n before (Ok false) after = (t : Tree) × (rest : List Slot) × (before ≡ Some t ∷ rest) × (after ≡ before)
TakesAbsent n before (Err e) after = Refuses n (NonePending n before) (failure_of e)

-- Why an optional is refused: its tree stops, or nothing is pending.
abbrev pub OptionalFailsWith : Notation → Shape → List Slot → Path → Cause → Type 0
OptionalFailsWith n s before p w = ((t : Tree) × (rest : List Slot) × (before ≡ Some t ∷ rest) × FailsWith n s (Some t) p w) ⊎ NonePending n before p w

-- An absent first slot is taken as nothing, a present one is read, or it is refused for a reason that it has.
abbrev pub OptionalAnswer : {A : Type 0} → Notation → Shape → (A → Value) → List Slot → Result (Option A) DecodeError → List Slot → Type 0
OptionalAnswer n s value before (Ok (Some x)) after = (t : Tree) × (before ≡ Some t ∷ after) × DecodesTo n s (Some t) (value x)
OptionalAnswer n s value before (Ok None) after = before ≡ None ∷ after
OptionalAnswer n s value before (Err e) after = Refuses n (OptionalFailsWith n s before) (failure_of e)
