-- Shapes have no difference exactly where the second one is a later version of the first.
use Rattle.std.proofs.Common.{◌≡◌, ◌↔◌, refl, ap, sym, ◌∙◌, arith, ℕ, ◌+◌, List, [], ◌∷◌, ◌++◌, length, Bool, true, false, Option, Some, None}
use Rattle.std.specs.Str.{bytes_eq}
use Rattle.std.proofs.lemmas.Bool.{eq-eqb}
use Rattle.asn_core.specs.declared.tag.Tag.{Tag}
use Rattle.asn_model.specs.CharacterStrings.{alphabet_number}
use Rattle.asn_model.specs.Shape.{Shape, SeqKind, Fields, FieldAdditions, Alternatives, AlternativeAdditions, Presence, field_names, identifiers, tags, tag_eq}
use Rattle.asn_model.proofs.Readables.{and-both}
use Rattle.asn_growth.specs.Differences.{added_alternative_differences, added_field_differences, alternative_differences, differences_of, field_differences, here_or}
use Rattle.asn_growth.specs.Grows.{Grows, GrowsFields, BeginsFields, GrowsAlternatives, BeginsAlternatives, has_parts}
use Rattle.asn_growth.specs.Parts.{added_alternatives, added_fields, alternative_nodes, content, field_nodes, field_tags, node_count, presences, root_alternatives, root_fields}
use Rattle.asn_growth.specs.Reasons.{alike, begins, is_set_kind, reason_of, same_presence}
use Rattle.asn_growth.specs.declared.reasons.Reason.{Reason}
use Rattle.asn_growth.proofs.Tests.{alike-refl, begins-refl, bytes-refl, flag-refl, int-refl, nat-refl, presence-refl, size-refl, tag-refl}
use Rattle.asn_growth.proofs.Matching.{FrontAlternatives, FrontFields, Matches, Tested, all_pass, matches}

-- Without a difference there is no reason, and none below.
pub none-here : (place : ℕ) (r : Option Reason) (below : List (ℕ × Reason)) → here_or place r below ≡ [] → (r ≡ None) × (below ≡ [])
none-here place (Some r) below e = cc e
none-here place None below e = (refl, e)

pub none-of_both : {A : Type 0} (xs ys : List A) → xs ++ ys ≡ [] → (xs ≡ []) × (ys ≡ [])
none-of_both [] ys e = (refl, e)
none-of_both (x ∷ xs) ys e = cc e

-- Fields of which as many stand in both lists are all of them.
all-fields : {fs gs : Fields} → BeginsFields fs gs → length (field_names fs) ≡ length (field_names gs) → GrowsFields fs gs
all-fields (BeginsFields.begins_fields {more = Fields.no_fields}) e = GrowsFields.grows_no_fields
all-fields (BeginsFields.begins_fields {more = Fields.field n t p s fs}) e = absurd (omega (arith, e))
all-fields (BeginsFields.begins_field h m) e = GrowsFields.grows_field h (all-fields m (omega (arith, e)))

all-alternatives : {alts bs : Alternatives} → BeginsAlternatives alts bs → length (identifiers alts) ≡ length (identifiers bs) → GrowsAlternatives alts bs
all-alternatives (BeginsAlternatives.begins_alternatives {more = Alternatives.no_alternatives}) e = GrowsAlternatives.grows_no_alternatives
all-alternatives (BeginsAlternatives.begins_alternatives {more = Alternatives.alternative i t s alts}) e = absurd (omega (arith, e))
all-alternatives (BeginsAlternatives.begins_alternative h m) e = GrowsAlternatives.grows_alternative h (all-alternatives m (omega (arith, e)))

-- A shape grows where it is a later version aside from its parts, and its parts grow.
abbrev FieldsGrow : Fields → Type 0
FieldsGrow fs = (gs : Fields) (place : ℕ) → FrontFields fs gs → field_differences fs gs place ≡ [] → BeginsFields fs gs

abbrev AddedFieldsGrow : FieldAdditions → Type 0
AddedFieldsGrow FieldAdditions.closed_fields = Unit {0}
AddedFieldsGrow (FieldAdditions.extended_fields fs) = FieldsGrow fs

abbrev AlternativesGrow : Alternatives → Type 0
AlternativesGrow alts = (bs : Alternatives) (place : ℕ) → FrontAlternatives alts bs → alternative_differences alts bs place ≡ [] → BeginsAlternatives alts bs

abbrev AddedAlternativesGrow : AlternativeAdditions → Type 0
AddedAlternativesGrow AlternativeAdditions.closed_alternatives = Unit {0}
AddedAlternativesGrow (AlternativeAdditions.extended_alternatives alts) = AlternativesGrow alts

seq-grows : {kind : SeqKind} {fs : Fields} {added : FieldAdditions} {t : Shape} (p q : ℕ) → Matches (Shape.seq kind fs added) t → FieldsGrow fs → AddedFieldsGrow added
    → (field_differences fs (root_fields t) p ≡ []) × (added_field_differences added (added_fields t) q ≡ []) → Grows (Shape.seq kind fs added) t
seq-grows p q (Matches.same_leaf e) root behind h = cc e
seq-grows p q (Matches.closed_seq {gs = gs} front same) root behind h = Grows.grows_closed_seq (all-fields (root gs p front h.0) same)
seq-grows p q (Matches.longer_seq {gs = gs} {more = more} front same longer) root behind h = Grows.grows_seq (all-fields (root gs p front h.0) same) (behind more q longer h.1)

choice-grows : {alts : Alternatives} {added : AlternativeAdditions} {t : Shape} (p q : ℕ) → Matches (Shape.choice alts added) t → AlternativesGrow alts → AddedAlternativesGrow added
    → (alternative_differences alts (root_alternatives t) p ≡ []) × (added_alternative_differences added (added_alternatives t) q ≡ []) → Grows (Shape.choice alts added) t
choice-grows p q (Matches.same_leaf e) root behind h = cc e
choice-grows p q (Matches.closed_choice {bs = bs} front same) root behind h = Grows.grows_closed_choice (all-alternatives (root bs p front h.0) same)
choice-grows p q (Matches.longer_choice {bs = bs} {more = more} front same longer) root behind h = Grows.grows_choice (all-alternatives (root bs p front h.0) same) (behind more q longer h.1)

list-grows : {s t : Shape} → Matches (Shape.list_of s) t → Grows s (content t) → Grows (Shape.list_of s) t
list-grows (Matches.same_leaf e) h = cc e
list-grows (Matches.a_list s r) h = Grows.grows_list h

set-grows : {s t : Shape} → Matches (Shape.set_of s) t → Grows s (content t) → Grows (Shape.set_of s) t
set-grows (Matches.same_leaf e) h = cc e
set-grows (Matches.a_set s r) h = Grows.grows_set h

table-grows : {s t : Shape} → Matches (Shape.table s) t → Grows s (content t) → Grows (Shape.table s) t
table-grows (Matches.same_leaf e) h = cc e
table-grows (Matches.a_table s r) h = Grows.grows_table h

loop-grows : {b t : Shape} → Matches (Shape.loop b) t → Grows b (content t) → Grows (Shape.loop b) t
loop-grows (Matches.same_leaf e) h = cc e
loop-grows (Matches.a_loop b c) h = Grows.grows_loop h

leaf-grows : {s t : Shape} → has_parts s ≡ false → Matches s t → Grows s t
leaf-grows h (Matches.same_leaf e) = Grows.grows_same e
leaf-grows h (Matches.longer_enum items added more) = Grows.grows_enum items added more
leaf-grows h (Matches.closed_seq front same) = cc h
leaf-grows h (Matches.longer_seq front same longer) = cc h
leaf-grows h (Matches.a_list s r) = cc h
leaf-grows h (Matches.a_set s r) = cc h
leaf-grows h (Matches.a_table s r) = cc h
leaf-grows h (Matches.closed_choice front same) = cc h
leaf-grows h (Matches.longer_choice front same longer) = cc h
leaf-grows h (Matches.a_loop b c) = cc h

first-field : {n m : List ℕ} {t u : Tag} {p q : Presence} {s r : Shape} {fs gs : Fields} → FrontFields (Fields.field n t p s fs) (Fields.field m u q r gs) → Grows s r → (FrontFields fs gs → BeginsFields fs gs)
    → BeginsFields (Fields.field n t p s fs) (Fields.field m u q r gs)
first-field (FrontFields.front_field s r front) h rest = BeginsFields.begins_field h (rest front)

first-alternative : {i j : List ℕ} {t u : Tag} {s r : Shape} {alts bs : Alternatives} → FrontAlternatives (Alternatives.alternative i t s alts) (Alternatives.alternative j u r bs) → Grows s r
    → (FrontAlternatives alts bs → BeginsAlternatives alts bs) → BeginsAlternatives (Alternatives.alternative i t s alts) (Alternatives.alternative j u r bs)
first-alternative (FrontAlternatives.front_alternative s r front) h rest = BeginsAlternatives.begins_alternative h (rest front)

mutual
  -- A shape without a difference is a later version.
  pub no-difference : (s t : Shape) (place : ℕ) → differences_of s t place ≡ [] → Grows s t
  no-difference (Shape.seq kind fs added) t place e =
      let h = none-here place (reason_of (Shape.seq kind fs added) t) _ e in
      let g = none-of_both (field_differences fs (root_fields t) (place + 1)) (added_field_differences added (added_fields t) (place + 1 + field_nodes fs)) h.1 in
      seq-grows (place + 1) (place + 1 + field_nodes fs) (matches (Shape.seq kind fs added) t h.0) (fields-grow fs) (added-fields-grow added) g
  no-difference (Shape.list_of s) t place e =
      let h = none-here place (reason_of (Shape.list_of s) t) _ e in list-grows (matches (Shape.list_of s) t h.0) (no-difference s (content t) (place + 1) h.1)
  no-difference (Shape.set_of s) t place e =
      let h = none-here place (reason_of (Shape.set_of s) t) _ e in set-grows (matches (Shape.set_of s) t h.0) (no-difference s (content t) (place + 1) h.1)
  no-difference (Shape.table s) t place e =
      let h = none-here place (reason_of (Shape.table s) t) _ e in table-grows (matches (Shape.table s) t h.0) (no-difference s (content t) (place + 1) h.1)
  no-difference (Shape.choice alts added) t place e =
      let h = none-here place (reason_of (Shape.choice alts added) t) _ e in
      let g = none-of_both (alternative_differences alts (root_alternatives t) (place + 1)) (added_alternative_differences added (added_alternatives t) (place + 1 + alternative_nodes alts)) h.1 in
      choice-grows (place + 1) (place + 1 + alternative_nodes alts) (matches (Shape.choice alts added) t h.0) (alternatives-grow alts) (added-alternatives-grow added) g
  no-difference (Shape.loop b) t place e =
      let h = none-here place (reason_of (Shape.loop b) t) _ e in loop-grows (matches (Shape.loop b) t h.0) (no-difference b (content t) (place + 1) h.1)
  no-difference s t place e = leaf-grows refl (matches s t (none-here place (reason_of s t) [] e).0)

  fields-grow : (fs : Fields) → FieldsGrow fs
  fields-grow Fields.no_fields gs place front e = BeginsFields.begins_fields
  fields-grow (Fields.field n t p s fs) Fields.no_fields place front e = elim front [ ]
  fields-grow (Fields.field n t p s fs) (Fields.field m u q r gs) place front e =
      let h = none-of_both (differences_of s r place) (field_differences fs gs (place + node_count s)) e in
      first-field front (no-difference s r place h.0) (λ k. fields-grow fs gs (place + node_count s) k h.1)

  added-fields-grow : (added : FieldAdditions) → AddedFieldsGrow added
  added-fields-grow FieldAdditions.closed_fields = tt
  added-fields-grow (FieldAdditions.extended_fields fs) = fields-grow fs

  alternatives-grow : (alts : Alternatives) → AlternativesGrow alts
  alternatives-grow Alternatives.no_alternatives bs place front e = BeginsAlternatives.begins_alternatives
  alternatives-grow (Alternatives.alternative i t s alts) Alternatives.no_alternatives place front e = elim front [ ]
  alternatives-grow (Alternatives.alternative i t s alts) (Alternatives.alternative j u r bs) place front e =
      let h = none-of_both (differences_of s r place) (alternative_differences alts bs (place + node_count s)) e in
      first-alternative front (no-difference s r place h.0) (λ k. alternatives-grow alts bs (place + node_count s) k h.1)

  added-alternatives-grow : (added : AlternativeAdditions) → AddedAlternativesGrow added
  added-alternatives-grow AlternativeAdditions.closed_alternatives = tt
  added-alternatives-grow (AlternativeAdditions.extended_alternatives alts) = alternatives-grow alts

-- The comparisons of parts of a node pass where the second shape is a later version.
fields-length : {fs gs : Fields} → GrowsFields fs gs → length (field_names fs) ≡ length (field_names gs)
fields-length GrowsFields.grows_no_fields = refl
fields-length (GrowsFields.grows_field h m) = omega (arith, fields-length m)

alternatives-length : {alts bs : Alternatives} → GrowsAlternatives alts bs → length (identifiers alts) ≡ length (identifiers bs)
alternatives-length GrowsAlternatives.grows_no_alternatives = refl
alternatives-length (GrowsAlternatives.grows_alternative h m) = omega (arith, alternatives-length m)

front-of : {fs gs : Fields} → GrowsFields fs gs → BeginsFields fs gs
front-of GrowsFields.grows_no_fields = BeginsFields.begins_fields
front-of (GrowsFields.grows_field h m) = BeginsFields.begins_field h (front-of m)

start-of : {alts bs : Alternatives} → GrowsAlternatives alts bs → BeginsAlternatives alts bs
start-of GrowsAlternatives.grows_no_alternatives = BeginsAlternatives.begins_alternatives
start-of (GrowsAlternatives.grows_alternative h m) = BeginsAlternatives.begins_alternative h (start-of m)

names-begin : {fs gs : Fields} → BeginsFields fs gs → begins bytes_eq (field_names fs) (field_names gs) ≡ true
names-begin BeginsFields.begins_fields = refl
names-begin (BeginsFields.begins_field {n} h m) = and-both _ _ (bytes-refl n) (names-begin m)

tags-begin : {fs gs : Fields} → BeginsFields fs gs → begins tag_eq (field_tags fs) (field_tags gs) ≡ true
tags-begin BeginsFields.begins_fields = refl
tags-begin (BeginsFields.begins_field {t = t} h m) = and-both _ _ (tag-refl t) (tags-begin m)

presences-begin : {fs gs : Fields} → BeginsFields fs gs → begins same_presence (presences fs) (presences gs) ≡ true
presences-begin BeginsFields.begins_fields = refl
presences-begin (BeginsFields.begins_field {p = p} h m) = and-both _ _ (presence-refl p) (presences-begin m)

identifiers-begin : {alts bs : Alternatives} → BeginsAlternatives alts bs → begins bytes_eq (identifiers alts) (identifiers bs) ≡ true
identifiers-begin BeginsAlternatives.begins_alternatives = refl
identifiers-begin (BeginsAlternatives.begins_alternative {i = i} h m) = and-both _ _ (bytes-refl i) (identifiers-begin m)

alternative_tags-begin : {alts bs : Alternatives} → BeginsAlternatives alts bs → begins tag_eq (tags alts) (tags bs) ≡ true
alternative_tags-begin BeginsAlternatives.begins_alternatives = refl
alternative_tags-begin (BeginsAlternatives.begins_alternative {t = t} h m) = and-both _ _ (tag-refl t) (alternative_tags-begin m)

-- There are as many fields, tags and presences.
tags-length : (fs : Fields) → length (field_tags fs) ≡ length (field_names fs)
tags-length Fields.no_fields = refl
tags-length (Fields.field n t p s fs) = omega (arith, tags-length fs)

presences-length : (fs : Fields) → length (presences fs) ≡ length (field_names fs)
presences-length Fields.no_fields = refl
presences-length (Fields.field n t p s fs) = omega (arith, presences-length fs)

alternative_tags-length : (alts : Alternatives) → length (tags alts) ≡ length (identifiers alts)
alternative_tags-length Alternatives.no_alternatives = refl
alternative_tags-length (Alternatives.alternative i t s alts) = omega (arith, alternative_tags-length alts)

alike-from : {A : Type 0} (same : A → A → Bool) (xs ys : List A) → length xs ≡ length ys → begins same xs ys ≡ true → alike same xs ys ≡ true
alike-from same xs ys n e = and-both _ _ (eq-eqb _ _ n) e

root-names : {fs gs : Fields} → GrowsFields fs gs → alike bytes_eq (field_names fs) (field_names gs) ≡ true
root-names {fs} {gs} g = alike-from bytes_eq (field_names fs) (field_names gs) (fields-length g) (names-begin (front-of g))

root-tags : {fs gs : Fields} → GrowsFields fs gs → alike tag_eq (field_tags fs) (field_tags gs) ≡ true
root-tags {fs} {gs} g = alike-from tag_eq (field_tags fs) (field_tags gs) (tags-length fs ∙ fields-length g ∙ sym (tags-length gs)) (tags-begin (front-of g))

root-presences : {fs gs : Fields} → GrowsFields fs gs → alike same_presence (presences fs) (presences gs) ≡ true
root-presences {fs} {gs} g = alike-from same_presence (presences fs) (presences gs) (presences-length fs ∙ fields-length g ∙ sym (presences-length gs)) (presences-begin (front-of g))

root-identifiers : {alts bs : Alternatives} → GrowsAlternatives alts bs → alike bytes_eq (identifiers alts) (identifiers bs) ≡ true
root-identifiers {alts} {bs} g = alike-from bytes_eq (identifiers alts) (identifiers bs) (alternatives-length g) (identifiers-begin (start-of g))

root-alternative_tags : {alts bs : Alternatives} → GrowsAlternatives alts bs → alike tag_eq (tags alts) (tags bs) ≡ true
root-alternative_tags {alts} {bs} g = alike-from tag_eq (tags alts) (tags bs) (alternative_tags-length alts ∙ alternatives-length g ∙ sym (alternative_tags-length bs)) (alternative_tags-begin (start-of g))

more-items : (xs more : List (List ℕ)) → begins bytes_eq xs (xs ++ more) ≡ true
more-items [] more = refl
more-items (x ∷ xs) more = and-both _ _ (bytes-refl x) (more-items xs more)

-- A shape without parts passes each comparison with itself.
leaf-passes : (s : Shape) → has_parts s ≡ false → Tested s s
leaf-passes Shape.null e = record { kind = refl; numbers = refl; names = refl; tagged = refl; presence = refl; marker = refl; additions = refl }
leaf-passes Shape.boolean e = record { kind = refl; numbers = refl; names = refl; tagged = refl; presence = refl; marker = refl; additions = refl }
leaf-passes (Shape.int l g w) e = record { kind = refl; numbers = and-both _ _ (and-both _ _ (int-refl l) (int-refl g)) (nat-refl w); names = refl; tagged = refl; presence = refl; marker = refl; additions = refl }
leaf-passes (Shape.bits n) e = record { kind = refl; numbers = size-refl n; names = refl; tagged = refl; presence = refl; marker = refl; additions = refl }
leaf-passes (Shape.text a) e = record { kind = refl; numbers = nat-refl (alphabet_number a); names = refl; tagged = refl; presence = refl; marker = refl; additions = refl }
leaf-passes (Shape.enum items None) e =
    record { kind = refl; numbers = refl; names = and-both _ _ (alike-refl bytes_eq items bytes-refl) refl; tagged = refl; presence = refl; marker = refl; additions = refl }
leaf-passes (Shape.enum items (Some added)) e =
    record { kind = refl; numbers = refl; names = and-both _ _ (alike-refl bytes_eq items bytes-refl) refl; tagged = refl; presence = refl; marker = refl; additions = and-both _ _ (begins-refl bytes_eq added bytes-refl) refl }
leaf-passes (Shape.back k) e = record { kind = refl; numbers = nat-refl k; names = refl; tagged = refl; presence = refl; marker = refl; additions = refl }
leaf-passes (Shape.seq kind fs added) e = cc e
leaf-passes (Shape.list_of s) e = cc e
leaf-passes (Shape.set_of s) e = cc e
leaf-passes (Shape.table s) e = cc e
leaf-passes (Shape.choice alts added) e = cc e
leaf-passes (Shape.loop s) e = cc e
leaf-passes s e = record { kind = refl; numbers = refl; names = refl; tagged = refl; presence = refl; marker = refl; additions = refl }

seq-passes : (kind : SeqKind) {fs gs : Fields} → GrowsFields fs gs → Tested (Shape.seq kind fs FieldAdditions.closed_fields) (Shape.seq kind gs FieldAdditions.closed_fields)
seq-passes kind g = record {
  kind = flag-refl (is_set_kind kind);
  numbers = refl;
  names = and-both _ _ (root-names g) refl;
  tagged = and-both _ _ (root-tags g) refl;
  presence = root-presences g;
  marker = refl;
  additions = refl;
}

longer_seq-passes : (kind : SeqKind) {fs gs added more : Fields} → GrowsFields fs gs → BeginsFields added more → Tested (Shape.seq kind fs (FieldAdditions.extended_fields added)) (Shape.seq kind gs (FieldAdditions.extended_fields more))
longer_seq-passes kind g m = record {
  kind = flag-refl (is_set_kind kind);
  numbers = refl;
  names = and-both _ _ (root-names g) refl;
  tagged = and-both _ _ (root-tags g) refl;
  presence = root-presences g;
  marker = refl;
  additions = and-both _ _ (and-both _ _ (names-begin m) (and-both _ _ (tags-begin m) (presences-begin m))) refl;
}

choice-passes : {alts bs : Alternatives} → GrowsAlternatives alts bs → Tested (Shape.choice alts AlternativeAdditions.closed_alternatives) (Shape.choice bs AlternativeAdditions.closed_alternatives)
choice-passes g = record { kind = refl; numbers = refl; names = root-identifiers g; tagged = root-alternative_tags g; presence = refl; marker = refl; additions = refl }

longer_choice-passes : {alts bs added more : Alternatives} → GrowsAlternatives alts bs → BeginsAlternatives added more
    → Tested (Shape.choice alts (AlternativeAdditions.extended_alternatives added)) (Shape.choice bs (AlternativeAdditions.extended_alternatives more))
longer_choice-passes g m = record {
  kind = refl;
  numbers = refl;
  names = root-identifiers g;
  tagged = root-alternative_tags g;
  presence = refl;
  marker = refl;
  additions = and-both _ _ (identifiers-begin m) (alternative_tags-begin m);
}

-- Nothing here and nothing below is nothing.
nothing : {r : Option Reason} {below : List (ℕ × Reason)} (place : ℕ) → r ≡ None → below ≡ [] → here_or place r below ≡ []
nothing place a b = rw a b

both-none : {A : Type 0} {xs ys : List A} → xs ≡ [] → ys ≡ [] → xs ++ ys ≡ []
both-none a b = rw a b

leaf-none : (s : Shape) (place : ℕ) → has_parts s ≡ false → reason_of s s ≡ None → differences_of s s place ≡ []
leaf-none (Shape.seq kind fs added) place e h = cc e
leaf-none (Shape.list_of s) place e h = cc e
leaf-none (Shape.set_of s) place e h = cc e
leaf-none (Shape.table s) place e h = cc e
leaf-none (Shape.choice alts added) place e h = cc e
leaf-none (Shape.loop s) place e h = cc e
leaf-none s place e h = ap (λ r. here_or place r []) h

enum-passes : (items added more : List (List ℕ)) → Tested (Shape.enum items (Some added)) (Shape.enum items (Some (added ++ more)))
enum-passes items added more = record {
  kind = refl;
  numbers = refl;
  names = and-both _ _ (alike-refl bytes_eq items bytes-refl) refl;
  tagged = refl;
  presence = refl;
  marker = refl;
  additions = and-both _ _ (more-items added more) refl;
}

mutual
  -- A later version has no difference.
  pub grown-none : {s t : Shape} (place : ℕ) → Grows s t → differences_of s t place ≡ []
  grown-none place (Grows.grows_same {s} e) = leaf-none s place e (all_pass s s (leaf-passes s e))
  grown-none place (Grows.grows_enum items added more) = nothing place (all_pass _ _ (enum-passes items added more)) refl
  grown-none place (Grows.grows_closed_seq {kind} {fs} h) = nothing place (all_pass _ _ (seq-passes kind h)) (both-none (grown-all_fields (place + 1) h) refl)
  grown-none place (Grows.grows_seq {kind} {fs} h m) = nothing place (all_pass _ _ (longer_seq-passes kind h m)) (both-none (grown-all_fields (place + 1) h) (grown-fields (place + 1 + field_nodes fs) m))
  grown-none place (Grows.grows_list h) = nothing place refl (grown-none (place + 1) h)
  grown-none place (Grows.grows_set h) = nothing place refl (grown-none (place + 1) h)
  grown-none place (Grows.grows_table h) = nothing place refl (grown-none (place + 1) h)
  grown-none place (Grows.grows_closed_choice h) = nothing place (all_pass _ _ (choice-passes h)) (both-none (grown-all_alternatives (place + 1) h) refl)
  grown-none place (Grows.grows_choice {alts} h m) = nothing place (all_pass _ _ (longer_choice-passes h m)) (both-none (grown-all_alternatives (place + 1) h) (grown-alternatives (place + 1 + alternative_nodes alts) m))
  grown-none place (Grows.grows_loop h) = nothing place refl (grown-none (place + 1) h)

  grown-all_fields : {fs gs : Fields} (place : ℕ) → GrowsFields fs gs → field_differences fs gs place ≡ []
  grown-all_fields place GrowsFields.grows_no_fields = refl
  grown-all_fields place (GrowsFields.grows_field {s = s} h m) = both-none (grown-none place h) (grown-all_fields (place + node_count s) m)

  grown-fields : {fs gs : Fields} (place : ℕ) → BeginsFields fs gs → field_differences fs gs place ≡ []
  grown-fields place BeginsFields.begins_fields = refl
  grown-fields place (BeginsFields.begins_field {s = s} h m) = both-none (grown-none place h) (grown-fields (place + node_count s) m)

  grown-all_alternatives : {alts bs : Alternatives} (place : ℕ) → GrowsAlternatives alts bs → alternative_differences alts bs place ≡ []
  grown-all_alternatives place GrowsAlternatives.grows_no_alternatives = refl
  grown-all_alternatives place (GrowsAlternatives.grows_alternative {s = s} h m) = both-none (grown-none place h) (grown-all_alternatives (place + node_count s) m)

  grown-alternatives : {alts bs : Alternatives} (place : ℕ) → BeginsAlternatives alts bs → alternative_differences alts bs place ≡ []
  grown-alternatives place BeginsAlternatives.begins_alternatives = refl
  grown-alternatives place (BeginsAlternatives.begins_alternative {s = s} h m) = both-none (grown-none place h) (grown-alternatives (place + node_count s) m)

-- There is no difference exactly where the second shape is a later version.
pub none-grows : (s t : Shape) (place : ℕ) → (differences_of s t place ≡ []) ↔ Grows s t
none-grows s t place = (no-difference s t place, grown-none place)
