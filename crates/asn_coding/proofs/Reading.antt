-- Steps of reading an open list.
use Rattle.std.proofs.Common.{◌≡◌, refl, ap, sym, ◌∙◌, List, [], ◌∷◌, ◌++◌, subst, ℕ, ◌+◌, ◌<◌, ◌≤◌, length, Ok, arith}
use Rattle.asn_fault.specs.Failure.{Failure, Cause}
use Rattle.asn_model.specs.Notation.{Notation}
use Rattle.asn_model.specs.Shape.{Shape, SeqKind}
use Rattle.asn_model.specs.Tree.{Slot, slot_nodes, head_nodes, head_slot}
use Rattle.asn_model.specs.Value.{Value, Values, values}
use Rattle.asn_model.specs.DecodesTo.{DecodesTo, EachDecodesTo}
use Rattle.asn_model.specs.FailsWith.{FailsWith, EachFailsWith, Path}
use Rattle.asn_coding.specs.Answer.{Answer, Refuses}
use Rattle.asn_coding.specs.Opening.{OpensList, AllBelow, IsList, list_shape, list_value}
use Rattle.asn_coding.proofs.Steps.{refuses_by, same_head, same_tail, list_decodes, list_fails}

-- The values of the items and then vs.
abbrev pub values_then : {A : Type 0} → (A → Value) → List A → Values → Values
values_then f [] vs = vs
values_then f (x ∷ xs) vs = Values.value (f x) (values_then f xs vs)

pub then_none : {A : Type 0} (f : A → Value) (xs : List A) → values_then f xs Values.no_values ≡ values f xs
then_none f [] = refl
then_none f (x ∷ xs) = ap (Values.value (f x)) (then_none f xs)

pub then_last : {A : Type 0} (f : A → Value) (xs : List A) (x : A) (vs : Values) → values_then f (xs ++ x ∷ []) vs ≡ values_then f xs (Values.value (f x) vs)
then_last f [] x vs = refl
then_last f (y ∷ xs) x vs = ap (Values.value (f y)) (then_last f xs x vs)

-- Of the elements of an open list some are read, and todo is left.
pub record Reading {A : Type 0} (n : Notation) (s : Shape) (f : A → Value) (before : List Slot) (items : List A) (i count : ℕ) (now : List Slot) : Type 0 where
  pub slot : Slot
  pub all : List Slot
  pub todo : List Slot
  pub rest : List Slot
  pub was : before ≡ slot ∷ rest
  pub is : now ≡ todo ++ rest
  pub left : length todo + i ≡ count
  pub below : AllBelow (slot_nodes slot) todo
  pub list : IsList n slot all
  pub said : (vs : Values) → EachDecodesTo n s todo vs → EachDecodesTo n s all (values_then f items vs)
  pub stopped : (p : Path) (w : Cause) → EachFailsWith n s todo p w → EachFailsWith n s all p w

module _ {A : Type 0} (n : Notation) (kind : SeqKind) (s : Shape) (f : A → Value) (before : List Slot) (items : List A) where
  pub start : (count : ℕ) (now : List Slot) → OpensList n kind before (Ok count) now → Reading n s f before [] 0 count now
  start count now (slot, slots, rest, was, is, len, below, list) =
      record { slot = slot; all = slots; todo = slots; rest = rest; was = was; is = is; left = omega (arith, len); below = below; list = list; said = λ vs h. h; stopped = λ p w h. h }

  head_at : (i count : ℕ) (now : List Slot) (slot : Slot) (todo rest : List Slot) → before ≡ slot ∷ rest → now ≡ todo ++ rest → length todo + i ≡ count
      → AllBelow (slot_nodes slot) todo → i < count → head_nodes now < head_nodes before
  head_at i count now slot [] rest was is left below h = absurd (omega (arith, left, h))
  head_at i count now slot (t ∷ ts) rest was is left below h = rw (was, is) below.0

  pub head_below : (i count : ℕ) (now : List Slot) → Reading n s f before items i count now → i < count → head_nodes now < head_nodes before
  head_below i count now r h = head_at i count now r.slot r.todo r.rest r.was r.is r.left r.below h

  step_at : (i count : ℕ) (now after : List Slot) (x : A) (slot : Slot) (all todo rest : List Slot) → before ≡ slot ∷ rest → now ≡ todo ++ rest
      → length todo + i ≡ count → AllBelow (slot_nodes slot) todo → IsList n slot all → i < count
      → ((vs : Values) → EachDecodesTo n s todo vs → EachDecodesTo n s all (values_then f items vs)) → ((p : Path) (w : Cause) → EachFailsWith n s todo p w → EachFailsWith n s all p w)
      → (t : Slot) → now ≡ t ∷ after → DecodesTo n s t (f x)
      → Reading n s f before (items ++ x ∷ []) (i + 1) count after
  step_at i count now after x slot all [] rest was is left below list h said stopped t shown says = absurd (omega (arith, left, h))
  step_at i count now after x slot all (u ∷ us) rest was is left below list h said stopped t shown says =
      let e : t ∷ after ≡ u ∷ (us ++ rest) = sym shown ∙ is in
      let said_u : DecodesTo n s u (f x) = subst (λ c. DecodesTo n s c (f x)) (same_head _ _ _ _ e) says in
      record {
        slot = slot;
        all = all;
        todo = us;
        rest = rest;
        was = was;
        is = same_tail _ _ _ _ e;
        left = omega (arith, left);
        below = below.1;
        list = list;
        said = λ vs k. subst (EachDecodesTo n s all) (sym (then_last f items x vs)) (said (Values.value (f x) vs) (EachDecodesTo.decodes_one s u us (f x) vs said_u k));
        stopped = λ p w k. stopped p w (EachFailsWith.fails_later s u us (f x) p w said_u k);
      }

  pub step : (i count : ℕ) (now after : List Slot) (x : A) → Reading n s f before items i count now → i < count → Answer n s f now (Ok x) after → Reading n s f before (items ++ x ∷ []) (i + 1) count after
  step i count now after x r h (t, shown, says) = step_at i count now after x r.slot r.all r.todo r.rest r.was r.is r.left r.below r.list h r.said r.stopped t shown says

  refuse_at : (i count : ℕ) (now : List Slot) (slot : Slot) (all todo rest : List Slot) → before ≡ slot ∷ rest → now ≡ todo ++ rest
      → length todo + i ≡ count → IsList n slot all → i < count → ((p : Path) (w : Cause) → EachFailsWith n s todo p w → EachFailsWith n s all p w)
      → (p : Path) (w : Cause) → FailsWith n s (head_slot now) p w → FailsWith n (list_shape kind s) (head_slot before) p w
  refuse_at i count now slot all [] rest was is left list h stopped p w k = absurd (omega (arith, left, h))
  refuse_at i count now slot all (u ∷ us) rest was is left list h stopped p w k =
      let at : FailsWith n s u p w = subst (λ c. FailsWith n s (head_slot c) p w) is k in
      subst (λ c. FailsWith n (list_shape kind s) (head_slot c) p w) (sym was) (list_fails kind s p w list (stopped p w (EachFailsWith.fails_here s u us p w at)))

  pub refuse : (i count : ℕ) (now : List Slot) (e : Failure) → Reading n s f before items i count now → i < count → Refuses n (FailsWith n s (head_slot now)) e → Refuses n (FailsWith n (list_shape kind s) (head_slot before)) e
  refuse i count now e r h k = refuses_by (refuse_at i count now r.slot r.all r.todo r.rest r.was r.is r.left r.list h r.stopped) e k

  finish_at : (i count : ℕ) (now : List Slot) (slot : Slot) (all todo rest : List Slot) → before ≡ slot ∷ rest → now ≡ todo ++ rest
      → length todo + i ≡ count → IsList n slot all → count ≤ i → ((vs : Values) → EachDecodesTo n s todo vs → EachDecodesTo n s all (values_then f items vs))
      → (t : Slot) × (before ≡ t ∷ now) × DecodesTo n (list_shape kind s) t (list_value kind (values f items))
  finish_at i count now slot all [] rest was is left list h said =
      (slot, was ∙ ap (λ r. slot ∷ r) (sym is), list_decodes kind s _ list (subst (EachDecodesTo n s all) (then_none f items) (said Values.no_values (EachDecodesTo.decodes_none s))))
  finish_at i count now slot all (u ∷ us) rest was is left list h said = absurd (omega (arith, left, h))

  pub finish : (i count : ℕ) (now : List Slot) → Reading n s f before items i count now → count ≤ i → (t : Slot) × (before ≡ t ∷ now) × DecodesTo n (list_shape kind s) t (list_value kind (values f items))
  finish i count now r h = finish_at i count now r.slot r.all r.todo r.rest r.was r.is r.left r.list h r.said
