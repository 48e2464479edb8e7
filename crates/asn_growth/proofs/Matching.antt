-- What the second shape is where there is no reason at a node.
use Rattle.std.proofs.Common.{◌≡◌, refl, ap, sym, ◌∙◌, subst, arith, ℕ, List, [], ◌∷◌, ◌++◌, length, Bool, true, false, ◌&&◌, nat_eq, Option, Some, None, ℤ}
use Rattle.std.specs.Ordering.{int_eq}
use Rattle.std.specs.Str.{bytes_eq}
use Rattle.std.proofs.lemmas.Bool.{eqb-true}
use Rattle.asn_core.specs.declared.tag.Tag.{Tag}
use Rattle.asn_model.specs.Shape.{Alphabet, Shape, SeqKind, Fields, FieldAdditions, Alternatives, AlternativeAdditions, Presence, field_names, identifiers, tags, tag_eq}
use Rattle.asn_model.proofs.Readables.{and-left, and-right}
use Rattle.asn_growth.specs.Grows.{has_parts}
use Rattle.asn_growth.specs.Parts.{field_tags, presences}
use Rattle.asn_growth.specs.Reasons.{alike, begins, begins_additions, begins_alternatives, begins_fields, reason_of, same_kind, same_marker, same_names, same_numbers, same_presence, same_presences, same_tags, unless}
use Rattle.asn_growth.specs.declared.reasons.Reason.{Reason}
use Rattle.asn_growth.specs.declared.reasons.Reason.TheVariants as reason
use Rattle.asn_growth.proofs.Tests.{alphabet-same, bytes-same, int-same, order-same, presence-same, size-same, tag-same}

-- The second fields begin with the first, aside from their shapes.
pub data FrontFields : Fields → Fields → Type 0 where
  front_no_fields : {more : Fields} → FrontFields Fields.no_fields more
  front_field : {n : List ℕ} {t : Tag} {p : Presence} (s r : Shape) {fs gs : Fields} → FrontFields fs gs → FrontFields (Fields.field n t p s fs) (Fields.field n t p r gs)

-- The second alternatives begin with the first, aside from their shapes.
pub data FrontAlternatives : Alternatives → Alternatives → Type 0 where
  front_no_alternatives : {more : Alternatives} → FrontAlternatives Alternatives.no_alternatives more
  front_alternative : {i : List ℕ} {t : Tag} (s r : Shape) {alts bs : Alternatives} → FrontAlternatives alts bs → FrontAlternatives (Alternatives.alternative i t s alts) (Alternatives.alternative i t r bs)

-- The second shape is a later version of the first, aside from their parts.
pub data Matches : Shape → Shape → Type 0 where
  same_leaf : {s : Shape} → has_parts s ≡ false → Matches s s
  longer_enum : (items added more : List (List ℕ)) → Matches (Shape.enum items (Some added)) (Shape.enum items (Some (added ++ more)))
  closed_seq : {kind : SeqKind} {fs gs : Fields} → FrontFields fs gs → length (field_names fs) ≡ length (field_names gs) → Matches (Shape.seq kind fs FieldAdditions.closed_fields) (Shape.seq kind gs FieldAdditions.closed_fields)
  longer_seq : {kind : SeqKind} {fs gs added more : Fields} → FrontFields fs gs → length (field_names fs) ≡ length (field_names gs) → FrontFields added more
      → Matches (Shape.seq kind fs (FieldAdditions.extended_fields added)) (Shape.seq kind gs (FieldAdditions.extended_fields more))
  a_list : (s r : Shape) → Matches (Shape.list_of s) (Shape.list_of r)
  a_set : (s r : Shape) → Matches (Shape.set_of s) (Shape.set_of r)
  a_table : (s r : Shape) → Matches (Shape.table s) (Shape.table r)
  closed_choice : {alts bs : Alternatives} → FrontAlternatives alts bs → length (identifiers alts) ≡ length (identifiers bs) → Matches (Shape.choice alts AlternativeAdditions.closed_alternatives) (Shape.choice bs AlternativeAdditions.closed_alternatives)
  longer_choice : {alts bs added more : Alternatives} → FrontAlternatives alts bs → length (identifiers alts) ≡ length (identifiers bs) → FrontAlternatives added more
      → Matches (Shape.choice alts (AlternativeAdditions.extended_alternatives added)) (Shape.choice bs (AlternativeAdditions.extended_alternatives more))
  a_loop : (b c : Shape) → Matches (Shape.loop b) (Shape.loop c)

-- Each test of a node.
pub record Tested (s t : Shape) : Type 0 where
  pub kind : same_kind s t ≡ true
  pub numbers : same_numbers s t ≡ true
  pub names : same_names s t ≡ true
  pub tagged : same_tags s t ≡ true
  pub presence : same_presences s t ≡ true
  pub marker : same_marker s t ≡ true
  pub additions : begins_additions s t ≡ true

past : (b : Bool) (r : Reason) (next : Option Reason) → unless b r next ≡ None → (b ≡ true) × (next ≡ None)
past true r next e = (refl, e)
past false r next e = cc e

pub tested : (s t : Shape) → reason_of s t ≡ None → Tested s t
tested s t e =
    let a = past (same_kind s t) reason.Kind _ e in
    let b = past (same_numbers s t) reason.Numbers _ a.1 in
    let c = past (same_names s t) reason.Names _ b.1 in
    let d = past (same_tags s t) reason.Tags _ c.1 in
    let f = past (same_presences s t) reason.Presence _ d.1 in
    let g = past (same_marker s t) reason.Extensible _ f.1 in
    let h = past (begins_additions s t) reason.Additions None g.1 in
    record { kind = a.0; numbers = b.0; names = c.0; tagged = d.0; presence = f.0; marker = g.0; additions = h.0 }

pub all_pass : (s t : Shape) → Tested s t → reason_of s t ≡ None
all_pass s t h = rw (h.kind, h.numbers, h.names, h.tagged, h.presence, h.marker, h.additions) refl

other : {P : Type 0} → false ≡ true → P
other e = cc e

-- From what is compared of lists to the lists.
field-same : {n m : List ℕ} {t u : Tag} {p q : Presence} (s r : Shape) {fs gs : Fields} → n ≡ m → t ≡ u → p ≡ q → FrontFields fs gs → FrontFields (Fields.field n t p s fs) (Fields.field m u q r gs)
field-same {n} {m} {t} {u} {p} {q} s r {fs} {gs} a b c h =
    subst (λ x. FrontFields (Fields.field n t p s fs) (Fields.field x u q r gs)) a
    (subst (λ x. FrontFields (Fields.field n t p s fs) (Fields.field n x q r gs)) b
    (subst (λ x. FrontFields (Fields.field n t p s fs) (Fields.field n t x r gs)) c (FrontFields.front_field s r h)))

pub front-fields : (fs gs : Fields) → begins bytes_eq (field_names fs) (field_names gs) ≡ true → begins tag_eq (field_tags fs) (field_tags gs) ≡ true → begins same_presence (presences fs) (presences gs) ≡ true → FrontFields fs gs
front-fields Fields.no_fields gs a b c = FrontFields.front_no_fields
front-fields (Fields.field n t p s fs) Fields.no_fields a b c = other a
front-fields (Fields.field n t p s fs) (Fields.field m u q r gs) a b c =
    field-same s r (bytes-same n m (and-left (bytes_eq n m) (begins bytes_eq (field_names fs) (field_names gs)) a))
    (tag-same t u (and-left (tag_eq t u) (begins tag_eq (field_tags fs) (field_tags gs)) b))
    (presence-same p q (and-left (same_presence p q) (begins same_presence (presences fs) (presences gs)) c))
    (front-fields fs gs (and-right (bytes_eq n m) (begins bytes_eq (field_names fs) (field_names gs)) a)
    (and-right (tag_eq t u) (begins tag_eq (field_tags fs) (field_tags gs)) b)
    (and-right (same_presence p q) (begins same_presence (presences fs) (presences gs)) c))

alternative-same : {i j : List ℕ} {t u : Tag} (s r : Shape) {alts bs : Alternatives} → i ≡ j → t ≡ u → FrontAlternatives alts bs → FrontAlternatives (Alternatives.alternative i t s alts) (Alternatives.alternative j u r bs)
alternative-same {i} {j} {t} {u} s r {alts} {bs} a b h =
    subst (λ x. FrontAlternatives (Alternatives.alternative i t s alts) (Alternatives.alternative x u r bs)) a
    (subst (λ x. FrontAlternatives (Alternatives.alternative i t s alts) (Alternatives.alternative i x r bs)) b (FrontAlternatives.front_alternative s r h))

pub front-alternatives : (alts bs : Alternatives) → begins bytes_eq (identifiers alts) (identifiers bs) ≡ true → begins tag_eq (tags alts) (tags bs) ≡ true → FrontAlternatives alts bs
front-alternatives Alternatives.no_alternatives bs a b = FrontAlternatives.front_no_alternatives
front-alternatives (Alternatives.alternative i t s alts) Alternatives.no_alternatives a b = other a
front-alternatives (Alternatives.alternative i t s alts) (Alternatives.alternative j u r bs) a b =
    alternative-same s r (bytes-same i j (and-left (bytes_eq i j) (begins bytes_eq (identifiers alts) (identifiers bs)) a))
    (tag-same t u (and-left (tag_eq t u) (begins tag_eq (tags alts) (tags bs)) b))
    (front-alternatives alts bs (and-right (bytes_eq i j) (begins bytes_eq (identifiers alts) (identifiers bs)) a)
    (and-right (tag_eq t u) (begins tag_eq (tags alts) (tags bs)) b))

-- The items that follow those of the first list.
front-items : (xs ys : List (List ℕ)) → begins bytes_eq xs ys ≡ true → (more : List (List ℕ)) × (ys ≡ xs ++ more)
front-items [] ys e = (ys, refl)
front-items (x ∷ xs) [] e = other e
front-items (x ∷ xs) (y ∷ ys) e =
    let rest = front-items xs ys (and-right (bytes_eq x y) (begins bytes_eq xs ys) e) in
    let same = bytes-same x y (and-left (bytes_eq x y) (begins bytes_eq xs ys) e) in
    (rest.0, ap (λ z. z ∷ ys) (sym same) ∙ ap (λ zs. x ∷ zs) rest.1)

none-more : (xs more : List (List ℕ)) → length xs ≡ length (xs ++ more) → xs ++ more ≡ xs
none-more [] [] e = refl
none-more [] (y ∷ more) e = absurd (omega (arith, e))
none-more (x ∷ xs) more e = ap (λ zs. x ∷ zs) (none-more xs more (omega (arith, e)))

pub alike-length : {A : Type 0} (same : A → A → Bool) (xs ys : List A) → alike same xs ys ≡ true → length xs ≡ length ys
alike-length same xs ys e = eqb-true _ _ (and-left (nat_eq (length xs) (length ys)) (begins same xs ys) e)

pub alike-begins : {A : Type 0} (same : A → A → Bool) (xs ys : List A) → alike same xs ys ≡ true → begins same xs ys ≡ true
alike-begins same xs ys e = and-right (nat_eq (length xs) (length ys)) (begins same xs ys) e

items-same : (xs ys : List (List ℕ)) → alike bytes_eq xs ys ≡ true → ys ≡ xs
items-same xs ys e =
    let found = front-items xs ys (alike-begins bytes_eq xs ys e) in
    found.1 ∙ none-more xs found.0 (alike-length bytes_eq xs ys e ∙ ap length found.1)

same-text : {a b : Alphabet} → a ≡ b → Matches (Shape.text a) (Shape.text b)
same-text {a} {b} e = subst (λ x. Matches (Shape.text a) (Shape.text x)) e (Matches.same_leaf refl)

same-bits : {n m : Option ℕ} → n ≡ m → Matches (Shape.bits n) (Shape.bits m)
same-bits {n} {m} e = subst (λ x. Matches (Shape.bits n) (Shape.bits x)) e (Matches.same_leaf refl)

same-back : {j k : ℕ} → j ≡ k → Matches (Shape.back j) (Shape.back k)
same-back {j} {k} e = subst (λ x. Matches (Shape.back j) (Shape.back x)) e (Matches.same_leaf refl)

same-int : {l g m h : ℤ} {w x : ℕ} → l ≡ m → g ≡ h → w ≡ x → Matches (Shape.int l g w) (Shape.int m h x)
same-int {l} {g} {m} {h} {w} {x} a b c =
    subst (λ z. Matches (Shape.int l g w) (Shape.int z h x)) a
    (subst (λ z. Matches (Shape.int l g w) (Shape.int l z x)) b
    (subst (λ z. Matches (Shape.int l g w) (Shape.int l g z)) c (Matches.same_leaf refl)))

int-matches : (l g : ℤ) (w : ℕ) (m h : ℤ) (x : ℕ) → Tested (Shape.int l g w) (Shape.int m h x) → Matches (Shape.int l g w) (Shape.int m h x)
int-matches l g w m h x t =
    let bounds = and-left (int_eq l m && int_eq g h) (nat_eq w x) t.numbers in
    same-int (int-same l m (and-left (int_eq l m) (int_eq g h) bounds)) (int-same g h (and-right (int_eq l m) (int_eq g h) bounds)) (eqb-true w x (and-right (int_eq l m && int_eq g h) (nat_eq w x) t.numbers))

enum-matches : (xs : List (List ℕ)) (added : Option (List (List ℕ))) (ys : List (List ℕ)) (more : Option (List (List ℕ))) → Tested (Shape.enum xs added) (Shape.enum ys more) → Matches (Shape.enum xs added) (Shape.enum ys more)
enum-matches xs None ys None t =
    let same = items-same xs ys (and-left (alike bytes_eq xs ys) true t.names) in
    subst (λ z. Matches (Shape.enum xs None) (Shape.enum z None)) (sym same) (Matches.same_leaf refl)
enum-matches xs (Some added) ys (Some more) t =
    let same = items-same xs ys (and-left (alike bytes_eq xs ys) true t.names) in
    let found = front-items added more (and-left (begins bytes_eq added more) true t.additions) in
    subst (λ z. Matches (Shape.enum xs (Some added)) (Shape.enum z (Some more))) (sym same)
    (subst (λ z. Matches (Shape.enum xs (Some added)) (Shape.enum xs (Some z))) (sym found.1) (Matches.longer_enum xs added found.0))
enum-matches xs None ys (Some more) t = other t.marker
enum-matches xs (Some added) ys None t = other t.marker

root-front : (k m : SeqKind) (fs gs : Fields) (added more : FieldAdditions) → Tested (Shape.seq k fs added) (Shape.seq m gs more) → FrontFields fs gs × (length (field_names fs) ≡ length (field_names gs)) × (k ≡ m)
root-front k m fs gs added more t =
    let names = and-left (alike bytes_eq (field_names fs) (field_names gs)) true t.names in
    let tagged = and-left (alike tag_eq (field_tags fs) (field_tags gs)) true t.tagged in (
      front-fields fs gs (alike-begins bytes_eq (field_names fs) (field_names gs) names) (alike-begins tag_eq (field_tags fs) (field_tags gs) tagged) (alike-begins same_presence (presences fs) (presences gs) t.presence),
      alike-length bytes_eq (field_names fs) (field_names gs) names,
      order-same k m t.kind,
    )

added-front : (fs gs : Fields) → begins_fields fs gs ≡ true → FrontFields fs gs
added-front fs gs e =
    let rest = and-right (begins bytes_eq (field_names fs) (field_names gs)) (begins tag_eq (field_tags fs) (field_tags gs) && begins same_presence (presences fs) (presences gs)) e in
    front-fields fs gs (and-left (begins bytes_eq (field_names fs) (field_names gs)) (begins tag_eq (field_tags fs) (field_tags gs) && begins same_presence (presences fs) (presences gs)) e)
    (and-left (begins tag_eq (field_tags fs) (field_tags gs)) (begins same_presence (presences fs) (presences gs)) rest)
    (and-right (begins tag_eq (field_tags fs) (field_tags gs)) (begins same_presence (presences fs) (presences gs)) rest)

seq-matches : (k m : SeqKind) (fs gs : Fields) (added more : FieldAdditions) → Tested (Shape.seq k fs added) (Shape.seq m gs more) → Matches (Shape.seq k fs added) (Shape.seq m gs more)
seq-matches k m fs gs FieldAdditions.closed_fields FieldAdditions.closed_fields t =
    let root = root-front k m fs gs _ _ t in
    subst (λ z. Matches (Shape.seq k fs FieldAdditions.closed_fields) (Shape.seq z gs FieldAdditions.closed_fields)) root.2 (Matches.closed_seq root.0 root.1)
seq-matches k m fs gs (FieldAdditions.extended_fields added) (FieldAdditions.extended_fields more) t =
    let root = root-front k m fs gs _ _ t in
    let behind = added-front added more (and-left (begins_fields added more) true t.additions) in
    subst (λ z. Matches (Shape.seq k fs (FieldAdditions.extended_fields added)) (Shape.seq z gs (FieldAdditions.extended_fields more))) root.2 (Matches.longer_seq root.0 root.1 behind)
seq-matches k m fs gs FieldAdditions.closed_fields (FieldAdditions.extended_fields more) t = other t.marker
seq-matches k m fs gs (FieldAdditions.extended_fields added) FieldAdditions.closed_fields t = other t.marker

root-begins : (alts bs : Alternatives) (added more : AlternativeAdditions) → Tested (Shape.choice alts added) (Shape.choice bs more) → FrontAlternatives alts bs × (length (identifiers alts) ≡ length (identifiers bs))
root-begins alts bs added more t = (
  front-alternatives alts bs (alike-begins bytes_eq (identifiers alts) (identifiers bs) t.names) (alike-begins tag_eq (tags alts) (tags bs) t.tagged),
  alike-length bytes_eq (identifiers alts) (identifiers bs) t.names,
)

added-begins : (alts bs : Alternatives) → begins_alternatives alts bs ≡ true → FrontAlternatives alts bs
added-begins alts bs e =
    front-alternatives alts bs (and-left (begins bytes_eq (identifiers alts) (identifiers bs)) (begins tag_eq (tags alts) (tags bs)) e) (and-right (begins bytes_eq (identifiers alts) (identifiers bs)) (begins tag_eq (tags alts) (tags bs)) e)

choice-matches : (alts bs : Alternatives) (added more : AlternativeAdditions) → Tested (Shape.choice alts added) (Shape.choice bs more) → Matches (Shape.choice alts added) (Shape.choice bs more)
choice-matches alts bs AlternativeAdditions.closed_alternatives AlternativeAdditions.closed_alternatives t =
    let root = root-begins alts bs _ _ t in Matches.closed_choice root.0 root.1
choice-matches alts bs (AlternativeAdditions.extended_alternatives added) (AlternativeAdditions.extended_alternatives more) t =
    let root = root-begins alts bs _ _ t in Matches.longer_choice root.0 root.1 (added-begins added more t.additions)
choice-matches alts bs AlternativeAdditions.closed_alternatives (AlternativeAdditions.extended_alternatives more) t = other t.marker
choice-matches alts bs (AlternativeAdditions.extended_alternatives added) AlternativeAdditions.closed_alternatives t = other t.marker

matched : (s t : Shape) → Tested s t → Matches s t
matched Shape.null Shape.null h = Matches.same_leaf refl
matched Shape.boolean Shape.boolean h = Matches.same_leaf refl
matched (Shape.int l g w) (Shape.int m k x) h = int-matches l g w m k x h
matched (Shape.bits n) (Shape.bits m) h = same-bits (size-same n m h.numbers)
matched Shape.octets Shape.octets h = Matches.same_leaf refl
matched Shape.any Shape.any h = Matches.same_leaf refl
matched Shape.oid Shape.oid h = Matches.same_leaf refl
matched (Shape.text a) (Shape.text b) h = same-text (alphabet-same a b h.numbers)
matched Shape.bmp Shape.bmp h = Matches.same_leaf refl
matched Shape.utc Shape.utc h = Matches.same_leaf refl
matched Shape.gen Shape.gen h = Matches.same_leaf refl
matched Shape.day Shape.day h = Matches.same_leaf refl
matched Shape.decimal Shape.decimal h = Matches.same_leaf refl
matched (Shape.enum xs added) (Shape.enum ys more) h = enum-matches xs added ys more h
matched (Shape.seq k fs added) (Shape.seq m gs more) h = seq-matches k m fs gs added more h
matched (Shape.list_of s) (Shape.list_of r) h = Matches.a_list s r
matched (Shape.set_of s) (Shape.set_of r) h = Matches.a_set s r
matched (Shape.table s) (Shape.table r) h = Matches.a_table s r
matched (Shape.choice alts added) (Shape.choice bs more) h = choice-matches alts bs added more h
matched (Shape.loop b) (Shape.loop c) h = Matches.a_loop b c
matched (Shape.back j) (Shape.back k) h = same-back (eqb-true j k h.numbers)
matched s t h = other h.kind

-- Without a reason the second shape is a later version of the first, aside from their parts.
pub matches : (s t : Shape) → reason_of s t ≡ None → Matches s t
matches s t e = matched s t (tested s t e)
