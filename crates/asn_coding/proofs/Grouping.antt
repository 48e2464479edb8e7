-- What two groups of fields write and read is what their fields do, one after another.
use Rattle.std.proofs.Common.{List, ◌++◌, Some, None, ap, subst, sym}
use Rattle.asn_fault.specs.Failure.{Failure}
use Rattle.asn_fault.specs.declared.encode.EncodeError.{EncodeError}
use Rattle.asn_model.specs.Components.{Component, Standing, components}
use Rattle.asn_model.specs.Notation.{Notation}
use Rattle.asn_coding.specs.FieldAnswer.{Ahead, TakesDefault}
use Rattle.asn_coding.specs.Passing.{may_take, AddsFields, RefusesAdding, TakesFields, RefusesFields}
use Rattle.asn_model.specs.Shape.{Fields, join_fields}
use Rattle.asn_coding.specs.Writing.{Frame}
use Rattle.asn_coding.proofs.Passing.{allowed-taken}
use Rattle.asn_coding.proofs.ReadingOrder.{components-joined}

pub adds_both : {S : Type 0} {holds : S → List Frame → Type 0} {n : Notation} {fs gs : Fields} {ss ts : Frame} {old mid new : S}
    → AddsFields holds n fs ss old mid → AddsFields holds n gs ts mid new → AddsFields holds n (join_fields fs gs) (ss ++ ts) old new
adds_both AddsFields.adds_none b = b
adds_both (AddsFields.adds_next slot rest allowed) b = AddsFields.adds_next slot (adds_both rest b) allowed

-- The first group is refused. The second one has not been reached, so its fields and slots are any.
pub refuses_first : {S : Type 0} {holds : S → List Frame → Type 0} {n : Notation} {fs : Fields} {ss : Frame} {old : S} {e : EncodeError} (gs : Fields) (ts : Frame)
    → RefusesAdding holds n fs ss old e → RefusesAdding holds n (join_fields fs gs) (ss ++ ts) old e
refuses_first gs ts (RefusesAdding.refuses_slot r) = RefusesAdding.refuses_slot r
refuses_first gs ts (RefusesAdding.refuses_later_slot slot r) = RefusesAdding.refuses_later_slot slot (refuses_first gs ts r)

pub refuses_second : {S : Type 0} {holds : S → List Frame → Type 0} {n : Notation} {fs gs : Fields} {ss ts : Frame} {old mid : S} {e : EncodeError}
    → AddsFields holds n fs ss old mid → RefusesAdding holds n gs ts mid e → RefusesAdding holds n (join_fields fs gs) (ss ++ ts) old e
refuses_second AddsFields.adds_none r = r
refuses_second (AddsFields.adds_next slot rest allowed) r = RefusesAdding.refuses_later_slot slot (refuses_second rest r)

pub all_taken : {n : Notation} {cs ds : List Component} {ss ts : Frame} {before mid after : Ahead}
    → TakesFields n cs ss before mid → TakesFields n ds ts mid after → TakesFields n (cs ++ ds) (ss ++ ts) before after
all_taken TakesFields.takes_none b = b
all_taken (TakesFields.takes_next slot rest allowed) b = TakesFields.takes_next slot (all_taken rest b) allowed
all_taken (TakesFields.takes_default slot rest is plain) b = TakesFields.takes_default slot (all_taken rest b) is plain

pub takes_both : {n : Notation} (at : Standing) (fs gs : Fields) {ss ts : Frame} {before mid after : Ahead}
    → TakesFields n (components at fs) ss before mid → TakesFields n (components at gs) ts mid after → TakesFields n (components at (join_fields fs gs)) (ss ++ ts) before after
takes_both {n} at fs gs {ss} {ts} {before} {mid} {after} a b = subst (λ cs. TakesFields n cs (ss ++ ts) before after) (sym (components-joined at fs gs)) (all_taken a b)

first_refused : {n : Notation} {cs : List Component} {before : Ahead} {e : Failure} (ds : List Component)
    → RefusesFields n cs before e → RefusesFields n (cs ++ ds) before e
first_refused ds (RefusesFields.refuses_field r) = RefusesFields.refuses_field r
first_refused ds (RefusesFields.refuses_later_field slot r allowed) = RefusesFields.refuses_later_field slot (first_refused ds r) allowed

pub refuses_first_fields : {n : Notation} (at : Standing) (fs gs : Fields) {before : Ahead} {e : Failure}
    → RefusesFields n (components at fs) before e → RefusesFields n (components at (join_fields fs gs)) before e
refuses_first_fields {n} at fs gs {before} {e} r = subst (λ cs. RefusesFields n cs before e) (sym (components-joined at fs gs)) (first_refused (components at gs) r)

pub second_refused : {n : Notation} {cs ds : List Component} {ss : Frame} {before mid : Ahead} {e : Failure}
    → TakesFields n cs ss before mid → RefusesFields n ds mid e → RefusesFields n (cs ++ ds) before e
second_refused TakesFields.takes_none r = r
second_refused (TakesFields.takes_next {c = c} {o = o} slot rest allowed) r = RefusesFields.refuses_later_field slot (second_refused rest r) (allowed-taken c.presence o allowed)
second_refused (TakesFields.takes_default {v = v} (TakesDefault.takes_own slot) rest is plain) r = RefusesFields.refuses_later_field slot (second_refused rest r) (ap (λ p. may_take p (Some v)) is)
second_refused (TakesFields.takes_default (TakesDefault.takes_standing slot same) rest is plain) r = RefusesFields.refuses_later_field slot (second_refused rest r) (ap (λ p. may_take p None) is)

pub refuses_second_fields : {n : Notation} (at : Standing) (fs gs : Fields) {ss : Frame} {before mid : Ahead} {e : Failure}
    → TakesFields n (components at fs) ss before mid → RefusesFields n (components at gs) mid e → RefusesFields n (components at (join_fields fs gs)) before e
refuses_second_fields {n} at fs gs {before = before} {e = e} t r = subst (λ cs. RefusesFields n cs before e) (sym (components-joined at fs gs)) (second_refused t r)

pub ruleset group_steps = (adds_both, refuses_first, refuses_second, takes_both, refuses_first_fields, refuses_second_fields)
