-- A loop that can be read can be read unfolded, and what the parts of a shape that can be read are.
use Rattle.std.proofs.Common.{◌≡◌, refl, ap, ◌∙◌, subst, arith, ℕ, zero, suc, ◌≤◌, ◌<◌, ◌∷◌, ◌++◌, Bool, true, false, not, ◌&&◌, nat_eq, nat_le, nat_lt, if◌then◌else◌, Option, Some, None}
use Rattle.std.specs.Prelude.{codes}
use Rattle.std.specs.Str.{bytes_eq}
use Rattle.std.proofs.lemmas.Bool.{leb-true, le-leb, ltb-true, lt-ltb, eq-eqb}
use Rattle.std.proofs.lemmas.Bool.Decides.{eqb_tells}
use Rattle.asn_core.specs.declared.tag.Tag.{Tag}
use Rattle.asn_model.specs.Shape.{Alphabet, Shape, SeqKind, Fields, FieldAdditions, all_fields, join_fields, Alternatives, AlternativeAdditions, Plain, Presence, fill, fill_fields, fill_added_fields, fill_alternatives, fill_added_alternatives, unfold_loop, opened, all_alternatives, join_alternatives, field_names, identifiers, tags, tag_eq, has_tag, tags_distinct, alternative_tagged, are_distinct, end_tag}
use Rattle.asn_model.specs.Readable.{are_key_and_value, has_no_additions, is_entry, is_required, is_sequence, is_utf8_string, differ_ignoring_case, are_identifiers, all_field_names, is_of_shape, suits, has_alternative, are_distinguishable, is_readable, is_readable_in, are_fields_readable, are_added_fields_readable, are_alternatives_readable, are_added_alternatives_readable}

pub and-left : (a b : Bool) → (a && b) ≡ true → a ≡ true
and-left true b e = refl
and-left false b e = let d : false ≡ true = e in cc d

pub and-right : (a b : Bool) → (a && b) ≡ true → b ≡ true
and-right true b e = e
and-right false b e = let d : false ≡ true = e in cc d

pub and-both : (a b : Bool) → a ≡ true → b ≡ true → (a && b) ≡ true
and-both true b e f = f
and-both false b e f = let d : false ≡ true = e in cc d

field_names-fill : (fs : Fields) (k : ℕ) (r : Shape) → field_names (fill_fields fs k r) ≡ field_names fs
field_names-fill Fields.no_fields k r = refl
field_names-fill (Fields.field n t p s fs) k r = ap (λ l. n ∷ l) (field_names-fill fs k r)

all_field_names-fill : (fs : Fields) (added : FieldAdditions) (k : ℕ) (r : Shape) → all_field_names (fill_fields fs k r) (fill_added_fields added k r) ≡ all_field_names fs added
all_field_names-fill fs FieldAdditions.closed_fields k r = field_names-fill fs k r
all_field_names-fill fs (FieldAdditions.extended_fields more) k r = ap (λ l. l ++ field_names (fill_fields more k r)) (field_names-fill fs k r) ∙ ap (λ l. field_names fs ++ l) (field_names-fill more k r)

join-fill : (alts more : Alternatives) (k : ℕ) (r : Shape) → join_alternatives (fill_alternatives alts k r) (fill_alternatives more k r) ≡ fill_alternatives (join_alternatives alts more) k r
join-fill Alternatives.no_alternatives more k r = refl
join-fill (Alternatives.alternative n t s alts) more k r = ap (Alternatives.alternative n t (fill s k r)) (join-fill alts more k r)

all_alternatives-fill : (alts : Alternatives) (added : AlternativeAdditions) (k : ℕ) (r : Shape) → all_alternatives (fill_alternatives alts k r) (fill_added_alternatives added k r) ≡ fill_alternatives (all_alternatives alts added) k r
all_alternatives-fill alts AlternativeAdditions.closed_alternatives k r = refl
all_alternatives-fill alts (AlternativeAdditions.extended_alternatives more) k r = join-fill alts more k r

identifiers-fill : (alts : Alternatives) (k : ℕ) (r : Shape) → identifiers (fill_alternatives alts k r) ≡ identifiers alts
identifiers-fill Alternatives.no_alternatives k r = refl
identifiers-fill (Alternatives.alternative n t s alts) k r = ap (λ l. n ∷ l) (identifiers-fill alts k r)

tags-fill : (alts : Alternatives) (k : ℕ) (r : Shape) → tags (fill_alternatives alts k r) ≡ tags alts
tags-fill Alternatives.no_alternatives k r = refl
tags-fill (Alternatives.alternative n t s alts) k r = ap (λ l. t ∷ l) (tags-fill alts k r)

told-fill : (alts : Alternatives) (added : AlternativeAdditions) (k : ℕ) (r : Shape) → are_distinguishable (all_alternatives (fill_alternatives alts k r) (fill_added_alternatives added k r)) ≡ are_distinguishable (all_alternatives alts added)
told-fill alts added k r =
    rw (all_alternatives-fill alts added k r, identifiers-fill (all_alternatives alts added) k r, tags-fill (all_alternatives alts added) k r) refl

no_entry : {P : Type 0} → false ≡ true → P
no_entry e = cc e

text-filled : (s : Shape) (k : ℕ) (r : Shape) → is_utf8_string s ≡ true → is_utf8_string (fill s k r) ≡ true
text-filled (Shape.text Alphabet.utf8) k r e = refl
text-filled s k r e = no_entry e

-- A key and a value are those of the filled fields.
fields-filled : (fs : Fields) (k : ℕ) (r : Shape) → are_key_and_value fs ≡ true → are_key_and_value (fill_fields fs k r) ≡ true
fields-filled (Fields.field key t p s (Fields.field value u q v Fields.no_fields)) k r e =
    let named = bytes_eq key (codes "key") && is_required p in
    let valued = bytes_eq value (codes "value") && is_required q in
    let rest = and-right named (is_utf8_string s && valued) e in
    and-both _ _ (and-left named (is_utf8_string s && valued) e) (and-both _ _ (text-filled s k r (and-left (is_utf8_string s) valued rest)) (and-right (is_utf8_string s) valued rest))
fields-filled fs k r e = no_entry e

additions-filled : (added : FieldAdditions) (k : ℕ) (r : Shape) → has_no_additions added ≡ true → has_no_additions (fill_added_fields added k r) ≡ true
additions-filled FieldAdditions.closed_fields k r e = refl
additions-filled (FieldAdditions.extended_fields Fields.no_fields) k r e = refl
additions-filled (FieldAdditions.extended_fields (Fields.field n t p s fs)) k r e = no_entry e

-- An entry stays one where it is filled.
entry-filled : (s : Shape) (k : ℕ) (r : Shape) → is_entry s ≡ true → is_entry (fill s k r) ≡ true
entry-filled (Shape.seq kind fs added) k r e =
    let fields = and-right (is_sequence kind) (are_key_and_value fs && has_no_additions added) e in
    and-both _ _ (and-left (is_sequence kind) (are_key_and_value fs && has_no_additions added) e)
    (and-both _ _ (fields-filled fs k r (and-left (are_key_and_value fs) (has_no_additions added) fields)) (additions-filled added k r (and-right (are_key_and_value fs) (has_no_additions added) fields)))
entry-filled s k r e = no_entry e

has_alternative-fill : (alts : Alternatives) (k : ℕ) (r : Shape) → has_alternative (fill_alternatives alts k r) ≡ has_alternative alts
has_alternative-fill Alternatives.no_alternatives k r = refl
has_alternative-fill (Alternatives.alternative n t s alts) k r = refl

has-fill : (alts : Alternatives) (added : AlternativeAdditions) (k : ℕ) (r : Shape) → has_alternative (all_alternatives (fill_alternatives alts k r) (fill_added_alternatives added k r)) ≡ has_alternative (all_alternatives alts added)
has-fill alts added k r = ap has_alternative (all_alternatives-fill alts added k r) ∙ has_alternative-fill (all_alternatives alts added) k r

no_default : {P : Type 0} (b : Bool) → b ≡ false → b ≡ true → P
no_default true e h = let d : true ≡ false = e in cc d
no_default false e h = let d : false ≡ true = h in cc d

default-fill : (s : Shape) (p : Plain) (k : ℕ) (r : Shape) → is_of_shape s p ≡ true → is_of_shape (fill s k r) p ≡ true
default-fill (Shape.seq kind fs added) p k r e = let d : false ≡ true = e in cc d
default-fill (Shape.list_of s) p k r e = let d : false ≡ true = e in cc d
default-fill (Shape.set_of s) p k r e = let d : false ≡ true = e in cc d
default-fill (Shape.table s) p k r e = let d : false ≡ true = e in cc d
default-fill (Shape.choice alts added) p k r e = let d : false ≡ true = e in cc d
default-fill (Shape.loop s) p k r e = let d : false ≡ true = e in cc d
default-fill (Shape.back j) p k r e = let d : false ≡ true = e in cc d
default-fill s p k r e = e

suits-fill : (p : Presence) (s : Shape) (k : ℕ) (r : Shape) → suits p s ≡ true → suits p (fill s k r) ≡ true
suits-fill (Presence.default p) s k r e = default-fill s p k r e
suits-fill Presence.required s k r e = refl
suits-fill Presence.optional s k r e = refl

-- There are as many loops or more, and each that a `back` may mean is still one.
record Looser (loops bare loops2 bare2 : ℕ) : Type 0 where
  pub more : loops ≤ loops2
  pub meant : (j : ℕ) → bare ≤ j → j < loops → bare2 ≤ j

within_part : {loops bare loops2 bare2 : ℕ} → Looser loops bare loops2 bare2 → Looser loops 0 loops2 0
within_part l = record { more = l.more; meant = λ j h k. omega arith }

loop_meant : {loops bare loops2 bare2 : ℕ} → Looser loops bare loops2 bare2 → (j : ℕ) → suc bare ≤ j → j < suc loops → suc bare2 ≤ j
loop_meant l zero h k = absurd (omega (arith, h))
loop_meant l (suc i) h k = omega (arith, l.meant i (omega (arith, h)) (omega (arith, k)))

within_loop : {loops bare loops2 bare2 : ℕ} → Looser loops bare loops2 bare2 → Looser (suc loops) (suc bare) (suc loops2) (suc bare2)
within_loop l = record { more = omega (arith, l.more); meant = loop_meant l }

mutual
  loosen : (s : Shape) {loops bare loops2 bare2 : ℕ} → Looser loops bare loops2 bare2 → is_readable_in loops bare s ≡ true → is_readable_in loops2 bare2 s ≡ true
  loosen (Shape.seq kind fs added) {loops} {bare} {loops2} {bare2} l e =
      let names = are_identifiers (all_field_names fs added) && are_distinct (all_field_names fs added) in
      let parts = and-right names (are_fields_readable loops fs && are_added_fields_readable loops added) e in
      and-both _ _ (and-left names (are_fields_readable loops fs && are_added_fields_readable loops added) e)
      (and-both _ _ (loosen_fields fs l (and-left (are_fields_readable loops fs) (are_added_fields_readable loops added) parts))
      (loosen_added_fields added l (and-right (are_fields_readable loops fs) (are_added_fields_readable loops added) parts)))
  loosen (Shape.list_of s) l e = loosen s (within_part l) e
  loosen (Shape.set_of s) l e = loosen s (within_part l) e
  loosen (Shape.table s) {loops} {bare} l e = and-both _ _ (and-left (is_entry s) (is_readable_in loops 0 s) e) (loosen s (within_part l) (and-right (is_entry s) (is_readable_in loops 0 s) e))
  loosen (Shape.choice alts added) {loops} {bare} {loops2} {bare2} l e =
      let names = has_alternative (all_alternatives alts added) && are_distinguishable (all_alternatives alts added) in
      let parts = and-right names (are_alternatives_readable loops alts && are_added_alternatives_readable loops added) e in
      and-both _ _ (and-left names (are_alternatives_readable loops alts && are_added_alternatives_readable loops added) e)
      (and-both _ _ (loosen_alternatives alts l (and-left (are_alternatives_readable loops alts) (are_added_alternatives_readable loops added) parts))
      (loosen_added_alternatives added l (and-right (are_alternatives_readable loops alts) (are_added_alternatives_readable loops added) parts)))
  loosen (Shape.loop s) l e = loosen s (within_loop l) e
  loosen (Shape.back j) {loops} {bare} {loops2} {bare2} l e =
      let a = leb-true bare j (and-left (nat_le bare j) (nat_lt j loops) e) in
      let b = ltb-true j loops (and-right (nat_le bare j) (nat_lt j loops) e) in
      and-both _ _ (le-leb bare2 j (l.meant j a b)) (lt-ltb j loops2 (omega (arith, b, l.more)))
  loosen s l e = e

  loosen_fields : (fs : Fields) {loops bare loops2 bare2 : ℕ} → Looser loops bare loops2 bare2 → are_fields_readable loops fs ≡ true → are_fields_readable loops2 fs ≡ true
  loosen_fields Fields.no_fields l e = refl
  loosen_fields (Fields.field n t p s fs) {loops} l e =
      let first = and-left (suits p s && is_readable_in loops 0 s) (are_fields_readable loops fs) e in
      and-both _ _ (and-both _ _ (and-left (suits p s) (is_readable_in loops 0 s) first) (loosen s (within_part l) (and-right (suits p s) (is_readable_in loops 0 s) first)))
      (loosen_fields fs l (and-right (suits p s && is_readable_in loops 0 s) (are_fields_readable loops fs) e))

  loosen_added_fields : (added : FieldAdditions) {loops bare loops2 bare2 : ℕ} → Looser loops bare loops2 bare2 → are_added_fields_readable loops added ≡ true → are_added_fields_readable loops2 added ≡ true
  loosen_added_fields FieldAdditions.closed_fields l e = refl
  loosen_added_fields (FieldAdditions.extended_fields fs) l e = loosen_fields fs l e

  loosen_alternatives : (alts : Alternatives) {loops bare loops2 bare2 : ℕ} → Looser loops bare loops2 bare2 → are_alternatives_readable loops alts ≡ true → are_alternatives_readable loops2 alts ≡ true
  loosen_alternatives Alternatives.no_alternatives l e = refl
  loosen_alternatives (Alternatives.alternative n t s alts) {loops} l e =
      and-both _ _ (loosen s (within_part l) (and-left (is_readable_in loops 0 s) (are_alternatives_readable loops alts) e))
      (loosen_alternatives alts l (and-right (is_readable_in loops 0 s) (are_alternatives_readable loops alts) e))

  loosen_added_alternatives : (added : AlternativeAdditions) {loops bare loops2 bare2 : ℕ} → Looser loops bare loops2 bare2 → are_added_alternatives_readable loops added ≡ true → are_added_alternatives_readable loops2 added ≡ true
  loosen_added_alternatives AlternativeAdditions.closed_alternatives l e = refl
  loosen_added_alternatives (AlternativeAdditions.extended_alternatives alts) l e = loosen_alternatives alts l e

below_suc : (j k : ℕ) → j < suc k → nat_eq j k ≡ false → j < k
below_suc j k h e = grind (arith, eq-eqb)

-- A shape that can be read by itself can be read anywhere.
anywhere : (r : Shape) (loops bare : ℕ) → is_readable r ≡ true → is_readable_in loops bare r ≡ true
anywhere r loops bare e = loosen r (record { more = omega arith; meant = λ j h k. absurd (omega (arith, k)) }) e

back-fill : (b : Bool) (j k bare : ℕ) (r : Shape) → nat_eq j k ≡ b → bare ≤ j → j < suc k → is_readable r ≡ true → is_readable_in k bare (if b then r else Shape.back j) ≡ true
back-fill true j k bare r e h l read = anywhere r k bare read
back-fill false j k bare r e h l read = and-both _ _ (le-leb bare j h) (lt-ltb j k (below_suc j k l e))

mutual
  fill-readable : (s : Shape) (k bare bare2 : ℕ) (r : Shape) → is_readable r ≡ true → bare2 ≤ bare → is_readable_in (suc k) bare s ≡ true → is_readable_in k bare2 (fill s k r) ≡ true
  fill-readable (Shape.seq kind fs added) k bare bare2 r h l e =
      let names = are_identifiers (all_field_names fs added) && are_distinct (all_field_names fs added) in
      let parts = and-right names (are_fields_readable (suc k) fs && are_added_fields_readable (suc k) added) e in
      and-both _ _ (ap (λ ns. are_identifiers ns && are_distinct ns) (all_field_names-fill fs added k r) ∙ and-left names (are_fields_readable (suc k) fs && are_added_fields_readable (suc k) added) e)
      (and-both _ _ (fields-readable fs k r h (and-left (are_fields_readable (suc k) fs) (are_added_fields_readable (suc k) added) parts))
      (added_fields-readable added k r h (and-right (are_fields_readable (suc k) fs) (are_added_fields_readable (suc k) added) parts)))
  fill-readable (Shape.list_of s) k bare bare2 r h l e = fill-readable s k 0 0 r h (omega arith) e
  fill-readable (Shape.set_of s) k bare bare2 r h l e = fill-readable s k 0 0 r h (omega arith) e
  fill-readable (Shape.table s) k bare bare2 r h l e =
      and-both _ _ (entry-filled s k r (and-left (is_entry s) (is_readable_in (suc k) 0 s) e)) (fill-readable s k 0 0 r h (omega arith) (and-right (is_entry s) (is_readable_in (suc k) 0 s) e))
  fill-readable (Shape.choice alts added) k bare bare2 r h l e =
      let names = has_alternative (all_alternatives alts added) && are_distinguishable (all_alternatives alts added) in
      let parts = and-right names (are_alternatives_readable (suc k) alts && are_added_alternatives_readable (suc k) added) e in
      let told = and-left names (are_alternatives_readable (suc k) alts && are_added_alternatives_readable (suc k) added) e in
      and-both _ _ (and-both _ _ (has-fill alts added k r ∙ and-left (has_alternative (all_alternatives alts added)) (are_distinguishable (all_alternatives alts added)) told)
      (told-fill alts added k r ∙ and-right (has_alternative (all_alternatives alts added)) (are_distinguishable (all_alternatives alts added)) told))
      (and-both _ _ (alternatives-readable alts k r h (and-left (are_alternatives_readable (suc k) alts) (are_added_alternatives_readable (suc k) added) parts))
      (added_alternatives-readable added k r h (and-right (are_alternatives_readable (suc k) alts) (are_added_alternatives_readable (suc k) added) parts)))
  fill-readable (Shape.loop s) k bare bare2 r h l e = fill-readable s (suc k) (suc bare) (suc bare2) r h (omega (arith, l)) e
  fill-readable (Shape.back j) k bare bare2 r h l e =
      let a = leb-true bare j (and-left (nat_le bare j) (nat_lt j (suc k)) e) in
      back-fill (nat_eq j k) j k bare2 r refl (omega (arith, a, l)) (ltb-true j (suc k) (and-right (nat_le bare j) (nat_lt j (suc k)) e)) h
  fill-readable s k bare bare2 r h l e = e

  fields-readable : (fs : Fields) (k : ℕ) (r : Shape) → is_readable r ≡ true → are_fields_readable (suc k) fs ≡ true → are_fields_readable k (fill_fields fs k r) ≡ true
  fields-readable Fields.no_fields k r h e = refl
  fields-readable (Fields.field n t p s fs) k r h e =
      let first = and-left (suits p s && is_readable_in (suc k) 0 s) (are_fields_readable (suc k) fs) e in
      and-both _ _ (and-both _ _ (suits-fill p s k r (and-left (suits p s) (is_readable_in (suc k) 0 s) first)) (fill-readable s k 0 0 r h (omega arith) (and-right (suits p s) (is_readable_in (suc k) 0 s) first)))
      (fields-readable fs k r h (and-right (suits p s && is_readable_in (suc k) 0 s) (are_fields_readable (suc k) fs) e))

  added_fields-readable : (added : FieldAdditions) (k : ℕ) (r : Shape) → is_readable r ≡ true → are_added_fields_readable (suc k) added ≡ true → are_added_fields_readable k (fill_added_fields added k r) ≡ true
  added_fields-readable FieldAdditions.closed_fields k r h e = refl
  added_fields-readable (FieldAdditions.extended_fields fs) k r h e = fields-readable fs k r h e

  alternatives-readable : (alts : Alternatives) (k : ℕ) (r : Shape) → is_readable r ≡ true → are_alternatives_readable (suc k) alts ≡ true → are_alternatives_readable k (fill_alternatives alts k r) ≡ true
  alternatives-readable Alternatives.no_alternatives k r h e = refl
  alternatives-readable (Alternatives.alternative n t s alts) k r h e =
      and-both _ _ (fill-readable s k 0 0 r h (omega arith) (and-left (is_readable_in (suc k) 0 s) (are_alternatives_readable (suc k) alts) e))
      (alternatives-readable alts k r h (and-right (is_readable_in (suc k) 0 s) (are_alternatives_readable (suc k) alts) e))

  added_alternatives-readable : (added : AlternativeAdditions) (k : ℕ) (r : Shape) → is_readable r ≡ true → are_added_alternatives_readable (suc k) added ≡ true → are_added_alternatives_readable k (fill_added_alternatives added k r) ≡ true
  added_alternatives-readable AlternativeAdditions.closed_alternatives k r h e = refl
  added_alternatives-readable (AlternativeAdditions.extended_alternatives alts) k r h e = alternatives-readable alts k r h e

-- A loop that can be read can be read unfolded.
pub unfolded-readable : (body : Shape) → is_readable (Shape.loop body) ≡ true → is_readable (unfold_loop body) ≡ true
unfolded-readable body e = fill-readable body 0 1 0 (Shape.loop body) e (omega arith) e

-- What can be read can be read opened.
pub opened-readable : (s : Shape) → is_readable s ≡ true → is_readable (opened s) ≡ true
opened-readable (Shape.loop body) e = unfolded-readable body e
opened-readable s e = e

names-joined : (fs more : Fields) → field_names (join_fields fs more) ≡ field_names fs ++ field_names more
names-joined Fields.no_fields more = refl
names-joined (Fields.field n t p s fs) more = ap (λ l. n ∷ l) (names-joined fs more)

-- The names of all fields are those of both.
pub names-all : (fs : Fields) (added : FieldAdditions) → field_names (all_fields fs added) ≡ all_field_names fs added
names-all fs FieldAdditions.closed_fields = refl
names-all fs (FieldAdditions.extended_fields more) = names-joined fs more

-- What the shape of a sequence that can be read says of all its fields.
pub record FieldsRead (all : Fields) : Type 0 where
  pub spelled : are_identifiers (field_names all) ≡ true
  pub distinct : are_distinct (field_names all) ≡ true
  pub parts : are_fields_readable 0 all ≡ true

fields_joined : (fs more : Fields) → are_fields_readable 0 fs ≡ true → are_fields_readable 0 more ≡ true → are_fields_readable 0 (join_fields fs more) ≡ true
fields_joined Fields.no_fields more e f = f
fields_joined (Fields.field n t p s fs) more e f =
    and-both _ _ (and-left (suits p s && is_readable s) (are_fields_readable 0 fs) e) (fields_joined fs more (and-right (suits p s && is_readable s) (are_fields_readable 0 fs) e) f)

all_parts : (fs : Fields) (added : FieldAdditions) → are_fields_readable 0 fs ≡ true → are_added_fields_readable 0 added ≡ true → are_fields_readable 0 (all_fields fs added) ≡ true
all_parts fs FieldAdditions.closed_fields e f = e
all_parts fs (FieldAdditions.extended_fields more) e f = fields_joined fs more e f

pub fields_read : (kind : SeqKind) (fs : Fields) (added : FieldAdditions) → is_readable (Shape.seq kind fs added) ≡ true → FieldsRead (all_fields fs added)
fields_read kind fs added e =
    let all = all_field_names fs added in
    let read = are_fields_readable 0 fs && are_added_fields_readable 0 added in
    let names = and-left (are_identifiers all && are_distinct all) read e in
    let parts = and-right (are_identifiers all && are_distinct all) read e in
    record {
      spelled = ap are_identifiers (names-all fs added) ∙ and-left (are_identifiers all) (are_distinct all) names;
      distinct = ap are_distinct (names-all fs added) ∙ and-right (are_identifiers all) (are_distinct all) names;
      parts = all_parts fs added (and-left (are_fields_readable 0 fs) (are_added_fields_readable 0 added) parts) (and-right (are_fields_readable 0 fs) (are_added_fields_readable 0 added) parts);
    }

-- The names of the fields of a sequence that can be read are distinct.
pub names_distinct : (s : Shape) (kind : SeqKind) (fs : Fields) (added : FieldAdditions) → is_readable s ≡ true → opened s ≡ Shape.seq kind fs added → are_distinct (field_names (all_fields fs added)) ≡ true
names_distinct s kind fs added e o = let read = fields_read kind fs added (subst (λ x. is_readable x ≡ true) o (opened-readable s e)) in read.distinct

-- The alternatives of a choice that can be read are distinguishable.
distinguished : (s : Shape) (alts : Alternatives) (added : AlternativeAdditions) → is_readable s ≡ true → opened s ≡ Shape.choice alts added → are_distinguishable (all_alternatives alts added) ≡ true
distinguished s alts added e o =
    let read = subst (λ x. is_readable x ≡ true) o (opened-readable s e) in
    and-right (has_alternative (all_alternatives alts added)) _ (and-left (has_alternative (all_alternatives alts added) && are_distinguishable (all_alternatives alts added)) _ read)

-- Their tags are distinct.
pub tags_distinguished : (s : Shape) (alts : Alternatives) (added : AlternativeAdditions) → is_readable s ≡ true → opened s ≡ Shape.choice alts added → tags_distinct (tags (all_alternatives alts added)) ≡ true
tags_distinguished s alts added e o =
    let all = all_alternatives alts added in
    and-left (tags_distinct (tags all)) _ (and-right (are_identifiers (identifiers all) && differ_ignoring_case (identifiers all)) _ (distinguished s alts added e o))

not-true : (b : Bool) → not b ≡ true → b ≡ false
not-true true e = let d : false ≡ true = e in cc d
not-true false e = refl

no_first : {A : Type 0} (a b rest : Bool) (x : A) (o : Option A) → a ≡ b → (rest ≡ false → o ≡ None) → (if a then true else rest) ≡ false → (if b then Some x else o) ≡ None
no_first true b rest x o e f h = let d : true ≡ false = h in cc d
no_first false true rest x o e f h = let d : false ≡ true = e in cc d
no_first false false rest x o e f h = f h

tag_eq-sym : (a b : Tag) → tag_eq a b ≡ tag_eq b a
tag_eq-sym a b = grind (arith, eqb_tells)

no_alternative_of : (alts : Alternatives) → has_tag (tags alts) end_tag ≡ false → alternative_tagged alts end_tag ≡ None
no_alternative_of Alternatives.no_alternatives e = refl
no_alternative_of (Alternatives.alternative n t s alts) e = no_first (tag_eq t end_tag) (tag_eq end_tag t) _ _ _ (tag_eq-sym t end_tag) (no_alternative_of alts) e

-- None of them has the tag of the end of contents.
pub no_end_tag : (s : Shape) (alts : Alternatives) (added : AlternativeAdditions) → is_readable s ≡ true → opened s ≡ Shape.choice alts added → alternative_tagged (all_alternatives alts added) end_tag ≡ None
no_end_tag s alts added e o =
    let all = all_alternatives alts added in
    let ends = and-right (tags_distinct (tags all)) _ (and-right (are_identifiers (identifiers all) && differ_ignoring_case (identifiers all)) _ (distinguished s alts added e o)) in
    no_alternative_of all (not-true (has_tag (tags all) end_tag) ends)
