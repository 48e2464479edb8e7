-- Frames of values that are written, one slot longer, and what they are closed as.
use Rattle.std.proofs.Common.{◌≡◌, refl, ap, sym, ◌∙◌, subst, ℕ, suc, ◌+◌, ◌<◌, ◌≤◌, List, [], ◌∷◌, ◌++◌, map, take, drop, get_or, length, Option, Some, None, IfSome, inl, inr, drop-cons}
use Rattle.std.proofs.lemmas.List.{map-append, map_push, take_all, take_more, take-append-drop}
use Rattle.asn_coding.proofs.FieldSteps.{refused_at}
use Rattle.asn_coding.specs.Writing.{ClosesSet, FailsToEncode, FailsToFill, Frame, IsWrittenAsSet, Maps, Puts, Written, as_choice, as_list, close, present_values, push}
use Rattle.asn_dynamic.specs.encoding.Sent.{Sent, SentFrame, SentSlot}
use Rattle.asn_fault.specs.declared.encode.EncodeError.{EncodeError}
use Rattle.asn_model.specs.Notation.{Notation}
use Rattle.asn_model.specs.Shape.{Shape}
use Rattle.asn_model.specs.Value.{Value}
use Rattle.asn_model.specs.Writable.{Writable, WritableEach}

writable-push : (n : Notation) (ss : Frame) (o : Option Value) → WritableEach n (present_values ss) → IfSome o (Writable n) → WritableEach n (present_values (ss ++ o ∷ []))
writable-push n [] None ws w = tt
writable-push n [] (Some v) ws w = (w, tt)
writable-push n (None ∷ ss) o ws w = writable-push n ss o ws w
writable-push n (Some u ∷ ss) o ws w = (ws.0, writable-push n ss o ws.1 w)

-- What comes after slots that are written is refused, and so are they all.
fails-after : (n : Notation) (done rest : Frame) (e : EncodeError) → WritableEach n (present_values done) → FailsToFill n rest e → FailsToFill n (done ++ rest) e
fails-after n [] rest e ws r = r
fails-after n (None ∷ done) rest e ws r = FailsToFill.after_absent (fails-after n done rest e ws r)
fails-after n (Some v ∷ done) rest e ws r = FailsToFill.after_slot ws.0 (fails-after n done rest e ws.1 r)

pub same-fails : {n : Notation} {o p : Option Value} {e : EncodeError} → p ≡ o → FailsToFill n (o ∷ []) e → FailsToFill n (p ∷ []) e
same-fails {n} {e = e} same r = subst (λ q. FailsToFill n (q ∷ []) e) (sym same) r

-- The refusal of a frame is that of the list of its values.
pub fails-list : {n : Notation} {ss : Frame} {e : EncodeError} → FailsToFill n ss e → FailsToEncode n (Value.list (present_values ss)) e
fails-list (FailsToFill.no_memory_left o) = FailsToEncode.no_memory o
fails-list (FailsToFill.slot_refused (FailsToEncode.no_memory o)) = FailsToEncode.no_memory o
fails-list (FailsToFill.slot_refused (FailsToEncode.blocked b c)) = FailsToEncode.blocked (inl b) c
fails-list (FailsToFill.slot_refused (FailsToEncode.write_free o)) = FailsToEncode.write_free o
fails-list (FailsToFill.after_slot w r) = elim (fails-list r) [ FailsToEncode.no_memory o ↦ FailsToEncode.no_memory o | FailsToEncode.blocked b c ↦ FailsToEncode.blocked (inr (w, b)) c | FailsToEncode.write_free o ↦ FailsToEncode.write_free o ]
fails-list (FailsToFill.after_absent r) = elim (fails-list r) [ FailsToEncode.no_memory o ↦ FailsToEncode.no_memory o | FailsToEncode.blocked b c ↦ FailsToEncode.blocked b c | FailsToEncode.write_free o ↦ FailsToEncode.write_free o ]

-- It is that of the SET OF of its values, too.
pub fails-bag : {n : Notation} {ss : Frame} {e : EncodeError} → FailsToFill n ss e → FailsToEncode n (Value.bag (present_values ss)) e
fails-bag (FailsToFill.no_memory_left o) = FailsToEncode.no_memory o
fails-bag (FailsToFill.slot_refused (FailsToEncode.no_memory o)) = FailsToEncode.no_memory o
fails-bag (FailsToFill.slot_refused (FailsToEncode.blocked b c)) = FailsToEncode.blocked (inl b) c
fails-bag (FailsToFill.slot_refused (FailsToEncode.write_free o)) = FailsToEncode.write_free o
fails-bag (FailsToFill.after_slot w r) = elim (fails-bag r) [ FailsToEncode.no_memory o ↦ FailsToEncode.no_memory o | FailsToEncode.blocked b c ↦ FailsToEncode.blocked (inr b) c | FailsToEncode.write_free o ↦ FailsToEncode.write_free o ]
fails-bag (FailsToFill.after_absent r) = elim (fails-bag r) [ FailsToEncode.no_memory o ↦ FailsToEncode.no_memory o | FailsToEncode.blocked b c ↦ FailsToEncode.blocked b c | FailsToEncode.write_free o ↦ FailsToEncode.write_free o ]

module _ {S : Type 0} {holds : S → List Frame → Type 0} {n : Notation} where
  -- What was put, or written as a value of a type, is written.
  pub put-sent : {v : Value} {old new : S} → Puts holds n v old new → Sent holds n v old new
  put-sent {v} p = record { added = p.added v refl; writable = p.writable }

  pub written-sent : {s : Shape} {v : Value} {old new : S} → Written holds n s v old new → Sent holds n v old new
  written-sent w = record { added = w.added; writable = w.writable }

  pub absent-sent : {old new : S} → Maps holds (push None) old new → SentSlot holds n None old new
  absent-sent h = record { added = h; writable = tt }

  pub same-sent : {o p : Option Value} {old new : S} → p ≡ o → SentSlot holds n o old new → SentSlot holds n p old new
  same-sent {old = old} {new = new} e s = subst (λ q. SentSlot holds n q old new) (sym e) s

  -- No slot is written yet.
  pub frame-none : {old now : S} → Maps holds (λ fs. [] ∷ fs) old now → SentFrame holds n [] old now
  frame-none h = record { added = h; writable = tt }

  frame-push : {ss : Frame} {o : Option Value} {old now next : S} → SentFrame holds n ss old now → SentSlot holds n o now next → SentFrame holds n (ss ++ o ∷ []) old next
  frame-push {ss} {o} f s = record { added = λ fs h. s.added (ss ∷ fs) (f.added fs h); writable = writable-push n ss o f.writable s.writable }

  module _ {T : Type 0} (slot : T → Option Value) (xs : List T) (i : ℕ) where
    -- One slot more is written.
    pub frame-more : {old now next : S} (x : T) → i < length xs → x ≡ get_or xs i x → SentFrame holds n (map slot (take i xs)) old now → SentSlot holds n (slot x) now next → SentFrame holds n (map slot (take (i + 1) xs)) old next
    frame-more {old} {now} {next} x h e f s = rw (take_more xs i x h, ← e) (subst (λ ss. SentFrame holds n ss old next) (sym (map_push slot (take i xs) x)) (frame-push f s))

    -- All slots are written.
    pub frame-all : {old now : S} → length xs ≤ i → SentFrame holds n (map slot (take i xs)) old now → SentFrame holds n (map slot xs) old now
    frame-all h f = rw (take_all i xs h) at f

    -- The next slot is refused.
    pub frame-refused : {old now : S} (x : T) (e : EncodeError) → i < length xs → x ≡ get_or xs i x → SentFrame holds n (map slot (take i xs)) old now → FailsToFill n (slot x ∷ []) e → FailsToFill n (map slot xs) e
    frame-refused x e h is f r =
        let whole : take i xs ++ (x ∷ drop (suc i) xs) ≡ xs = ap (λ y. take i xs ++ (y ∷ drop (suc i) xs)) is ∙ (ap (λ ys. take i xs ++ ys) (sym (drop-cons xs i x h)) ∙ take-append-drop i xs) in
        let slots : map slot (take i xs) ++ (slot x ∷ map slot (drop (suc i) xs)) ≡ map slot xs = sym (map-append slot (take i xs) (x ∷ drop (suc i) xs)) ∙ ap (map slot) whole in
        subst (λ ss. FailsToFill n ss e) slots (fails-after n (map slot (take i xs)) (slot x ∷ map slot (drop (suc i) xs)) e f.writable (refused_at r))

  -- A frame that is closed as a list.
  pub list-sent : {ss : Frame} {old mid new : S} → SentFrame holds n ss old mid → Maps holds (close as_list) mid new → Sent holds n (Value.list (present_values ss)) old new
  list-sent {ss} f h = record { added = λ fs o. h (ss ∷ fs) (f.added fs o); writable = f.writable }

  -- A frame that is closed as a set.
  pub bag-sent : {ss : Frame} {old mid new : S} → SentFrame holds n ss old mid → ClosesSet holds n mid new → Sent holds n (Value.bag (present_values ss)) old new
  bag-sent {ss} f h = record { added = λ fs o. h ss fs (Value.bag (present_values ss)) (f.added fs o) (IsWrittenAsSet.written_alike refl); writable = f.writable }

  -- A payload that is closed as a choice.
  pub choice-sent : {i : List ℕ} {v : Value} {old start mid new : S} → Maps holds (λ fs. [] ∷ fs) old start → Sent holds n v start mid → Maps holds (close (as_choice i)) mid new → Sent holds n (Value.choice i v) old new
  choice-sent {i} {v} opened s h = record { added = λ fs o. h ((Some v ∷ []) ∷ fs) (s.added ([] ∷ fs) (opened fs o)); writable = s.writable }

-- The refusal of the payload is that of the choice.
pub fails-choice : {n : Notation} {i : List ℕ} {v : Value} {e : EncodeError} → FailsToEncode n v e → FailsToEncode n (Value.choice i v) e
fails-choice (FailsToEncode.no_memory o) = FailsToEncode.no_memory o
fails-choice (FailsToEncode.blocked b c) = FailsToEncode.blocked b c
fails-choice (FailsToEncode.write_free o) = FailsToEncode.write_free o
