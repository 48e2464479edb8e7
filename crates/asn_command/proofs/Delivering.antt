-- What a status says of a whole file, from the reply that is delivered.
use Rattle.std.proofs.Common.{◌≡◌, ◌⊎◌, ℕ, List, ◌++◌, Option, Some, None, Result, Ok, Err, IfOk, IsUtf8, string_bytes, refl, sym, ap, subst, ◌∙◌, append-nil, inl, inr}
use Rattle.std.specs.Io.KnownBytes.{Appends, Consumes, IsAtEnd}
use Rattle.asn_command.specs.Whole.{IsKnown, IsTold, IsWholeRefusal, IsWholeReply, Wrote, WroteFront, fault_line, length_line, no_text_line}
use Rattle.asn_replies.specs.Delivered.{Delivered, IsSilent, Outcome}
use Rattle.asn_replies.specs.Reading.{IsUnreadReply}
use Rattle.asn_replies.specs.declared.read.Unread.{Unread}
use Rattle.asn_replies.specs.declared.read.Unread.TheVariants as unread
use Rattle.asn_replies.specs.declared.reply.Reply.{Reply}
use Rattle.asn_replies.specs.declared.reply.Reply.TheVariants.{Answer, Refusal}
use Rattle.asn_replies.specs.declared.status.Status.{Status}
use Rattle.asn_replies.specs.declared.status.Status.TheVariants.{Done, Refused, BadCommand, ReadFault, WriteFault, WantOfMemory, TooLong, NotText}
use Rattle.asn_streams.specs.Faults.{Increased}
use Rattle.asn_streams.specs.Input.{ReadPastLimit, ReadWhole}
use Rattle.asn_streams.specs.Transfer.{Transfer}

-- What was read to its end is all that was known.
whole_known : (a b : Option (List ℕ)) (input read : List ℕ) → a ≡ Some input → Consumes a b read → IsAtEnd b → read ≡ input
whole_known None b input read e c t = cc e
whole_known (Some xs) None input read e c t = absurd c
whole_known (Some xs) (Some ys) input read e c t =
    let same : xs ≡ input = cc e in
    sym (append-nil read) ∙ ap (λ z. read ++ z) (sym t) ∙ sym c ∙ same

module _ (A R : List ℕ → List ℕ → Type 0) (file : List ℕ) (source : Transfer) where
  refusal_so : (told st : Status) (lines is : List ℕ) → IsWholeRefusal R file source is told → st ≡ told → lines ≡ is → IsWholeRefusal R file source lines st
  refusal_so told st lines is w t l = subst (λ x. IsWholeRefusal R file source lines x) (sym t) (subst (λ x. IsWholeRefusal R file source x told) (sym l) w)

  -- The reply on a file that isn't read.
  pub of_unread : (why : Unread) (reply : Reply) → (why ≡ unread.Fault → Increased source.faults_before source.faults_after) → (why ≡ unread.TooLong → ReadPastLimit source)
      → (why ≡ unread.NotText → ReadWhole source (λ input. IsUtf8 input → ⊥)) → IsUnreadReply file why reply → IsWholeReply A R file source reply
  of_unread unread.Fault (Answer t) f l n p = absurd p
  of_unread unread.Fault (Refusal st lines) f l n p = refusal_so ReadFault st (string_bytes lines) (fault_line file) (f refl, refl) p.0 p.1
  of_unread unread.TooLong (Answer t) f l n p = absurd p
  of_unread unread.TooLong (Refusal st lines) f l n p = refusal_so TooLong st (string_bytes lines) (length_line file) (l refl, refl) p.0 p.1
  of_unread unread.NotText (Answer t) f l n p = absurd p
  of_unread unread.NotText (Refusal st lines) f l n p = refusal_so NotText st (string_bytes lines) (no_text_line file) (n refl, refl) p.0 p.1
  of_unread unread.OutOfMemory reply f l n p = absurd p

module _ (A R : List ℕ → List ℕ → Type 0) (file : List ℕ) (source output errors : Transfer) where
  -- What a status says.
  abbrev pub Ends : Status → Type 0
  Ends Done = ReadWhole source (λ input. Wrote output (A input)) × IsSilent errors
  Ends Refused = ReadWhole source (λ input. Wrote errors (R input)) × IsSilent output
  Ends BadCommand = ⊥
  Ends ReadFault = (Increased source.faults_before source.faults_after × Appends errors.bytes_before errors.bytes_after (fault_line file)) × IsSilent output
  Ends WriteFault = (Increased output.faults_before output.faults_after ⊎ Increased errors.faults_before errors.faults_after) × (IsSilent output ⊎ ReadWhole source (λ input. WroteFront output (A input)))
  Ends WantOfMemory = IsSilent output
  Ends TooLong = (ReadPastLimit source × Appends errors.bytes_before errors.bytes_after (length_line file)) × IsSilent output
  Ends NotText = (ReadWhole source (λ input. IsUtf8 input → ⊥) × Appends errors.bytes_before errors.bytes_after (no_text_line file)) × IsSilent output

  answered : (due : List ℕ) (r : Status) → ReadWhole source (λ input. A input due) → Outcome due Done output r → IsSilent errors → Ends r
  answered due r w (Outcome.whole a) q = (record { input = w.input; whole = w.whole; has = record { bytes = due; has = w.has; appended = a } }, q)
  answered due r w (Outcome.cut rose front) q = (inl rose, inr record { input = w.input; whole = w.whole; has = record { bytes = due; has = w.has; front = front } })

  told_whole : (told : Status) (lines : List ℕ) → IsWholeRefusal R file source lines told → Appends errors.bytes_before errors.bytes_after lines → IsSilent output → Ends told
  told_whole Done lines w a q = absurd w
  told_whole Refused lines w a q = (record { input = w.input; whole = w.whole; has = record { bytes = lines; has = w.has; appended = a } }, q)
  told_whole BadCommand lines w a q = absurd w
  told_whole ReadFault lines w a q = ((w.0, subst (Appends errors.bytes_before errors.bytes_after) w.1 a), q)
  told_whole WriteFault lines w a q = absurd w
  told_whole WantOfMemory lines w a q = absurd w
  told_whole TooLong lines w a q = ((w.0, subst (Appends errors.bytes_before errors.bytes_after) w.1 a), q)
  told_whole NotText lines w a q = ((w.0, subst (Appends errors.bytes_before errors.bytes_after) w.1 a), q)

  refused : (told : Status) (lines : List ℕ) (r : Status) → IsWholeRefusal R file source lines told → Outcome lines told errors r → IsSilent output → Ends r
  refused told lines r w (Outcome.whole a) q = told_whole told lines w a q
  refused told lines r w (Outcome.cut rose front) q = (inr rose, inl q)

  pub ends : {E : Type 0} (reply : Result Reply E) (r : Status) → IfOk reply (IsWholeReply A R file source) → Delivered reply output errors r → Ends r
  ends (Ok (Answer due)) r w d = answered (string_bytes due) r w d.0 d.1
  ends (Ok (Refusal told lines)) r w d = refused told (string_bytes lines) r w d.0 d.1
  ends (Err e) r w d = subst Ends (sym d.0) d.1.0

  pub told_of : (r : Status) → Ends r → IsTold file errors r
  told_of Done e = tt
  told_of Refused e = tt
  told_of BadCommand e = tt
  told_of ReadFault e = e.0.1
  told_of WriteFault e = tt
  told_of WantOfMemory e = tt
  told_of TooLong e = e.0.1
  told_of NotText e = e.0.1

  pub done_of : (r : Status) → Ends r → r ≡ Done → ReadWhole source (λ input. Wrote output (A input))
  done_of r e h = (subst Ends h e).0

  pub quiet_of : (r : Status) → Ends r → r ≡ Done → IsSilent errors
  quiet_of r e h = (subst Ends h e).1

  pub refused_of : (r : Status) → Ends r → r ≡ Refused → ReadWhole source (λ input. Wrote errors (R input))
  refused_of r e h = (subst Ends h e).0

  pub fault_of : (r : Status) → Ends r → r ≡ ReadFault → Increased source.faults_before source.faults_after
  fault_of r e h = (subst Ends h e).0.0

  pub write_of : (r : Status) → Ends r → r ≡ WriteFault → Increased output.faults_before output.faults_after ⊎ Increased errors.faults_before errors.faults_after
  write_of r e h = (subst Ends h e).0

  pub cut_of : (r : Status) → Ends r → r ≡ WriteFault → IsSilent output ⊎ ReadWhole source (λ input. WroteFront output (A input))
  cut_of r e h = (subst Ends h e).1

  pub long_of : (r : Status) → Ends r → r ≡ TooLong → ReadPastLimit source
  long_of r e h = (subst Ends h e).0.0

  pub text_of : (r : Status) → Ends r → r ≡ NotText → ReadWhole source (λ input. IsUtf8 input → ⊥)
  text_of r e h = (subst Ends h e).0.0

  pub other_of : (r : Status) → Ends r → r ≡ BadCommand → ⊥
  other_of r e h = subst Ends h e

  -- Nothing is written to the output.
  pub silent_of : (r : Status) → Ends r → (r ≡ Refused) ⊎ ((r ≡ ReadFault) ⊎ ((r ≡ WantOfMemory) ⊎ ((r ≡ TooLong) ⊎ (r ≡ NotText)))) → IsSilent output
  silent_of r e (inl h) = (subst Ends h e).1
  silent_of r e (inr (inl h)) = (subst Ends h e).1
  silent_of r e (inr (inr (inl h))) = subst Ends h e
  silent_of r e (inr (inr (inr (inl h)))) = (subst Ends h e).1
  silent_of r e (inr (inr (inr (inr h)))) = (subst Ends h e).1

  -- A text that isn't refused by R is not refused.
  pub not_refused : (C : List ℕ → Type 0) → ((input due : List ℕ) → R input due → C input → ⊥) → (r : Status) → Ends r → (input : List ℕ) → IsKnown source input → C input → r ≡ Refused → ⊥
  not_refused C apart r e input known c h =
      let w = (subst Ends h e).0 in
      let same : w.input ≡ input = whole_known source.bytes_before source.bytes_after input w.input known w.whole.taken w.whole.ended in
      apart w.input w.has.bytes w.has.has (subst C (sym same) c)
