-- What the comparisons of parts of a node tell.
use Rattle.std.proofs.Common.{◌≡◌, refl, ap, sym, ◌∙◌, ℕ, List, [], ◌∷◌, length, Bool, true, false, nat_eq, if◌then◌else◌, Option, Some, None, ℤ}
use Rattle.std.specs.Ordering.{int_eq}
use Rattle.std.specs.Str.{bytes_eq}
use Rattle.std.proofs.lemmas.Bool.{eqb-true, eq-eqb}
use Rattle.std.proofs.lemmas.Bool.Decides.{Decides-int_eq}
use Rattle.std.proofs.lemmas.Slice.Eq.{bytes_eq-Decides}
use Rattle.asn_core.specs.declared.tag.Class.{Class}
use Rattle.asn_core.specs.declared.tag.Class.TheVariants.{Universal, Application, Context, Private}
use Rattle.asn_core.specs.declared.tag.Tag.{Tag}
use Rattle.asn_model.specs.CharacterStrings.{alphabet_number}
use Rattle.asn_model.specs.Shape.{Alphabet, SeqKind, Plain, Presence, class_number, tag_eq}
use Rattle.asn_model.proofs.Readables.{and-left, and-right, and-both}
use Rattle.asn_growth.specs.Reasons.{alike, begins, is_set_kind, same_flag, same_plain, same_presence, same_size}

pub bytes-same : (xs ys : List ℕ) → bytes_eq xs ys ≡ true → xs ≡ ys
bytes-same xs ys e = (bytes_eq-Decides xs ys).0 e

pub bytes-refl : (xs : List ℕ) → bytes_eq xs xs ≡ true
bytes-refl xs = (bytes_eq-Decides xs xs).1 refl

pub int-same : (n m : ℤ) → int_eq n m ≡ true → n ≡ m
int-same n m e = (Decides-int_eq n m).0 e

pub int-refl : (n : ℤ) → int_eq n n ≡ true
int-refl n = (Decides-int_eq n n).1 refl

pub nat-refl : (n : ℕ) → nat_eq n n ≡ true
nat-refl n = eq-eqb n n refl

-- A class is known by its number.
class_at : ℕ → Class
class_at n = if nat_eq n 0 then Universal else (if nat_eq n 1 then Application else (if nat_eq n 2 then Context else Private))

class-known : (c : Class) → class_at (class_number c) ≡ c
unfolding class_at
class-known Universal = refl
class-known Application = refl
class-known Context = refl
class-known Private = refl

class-same : (a b : Class) → class_number a ≡ class_number b → a ≡ b
class-same a b e = sym (class-known a) ∙ ap class_at e ∙ class-known b

made_tag : Class → ℕ → Tag
made_tag c n = record { class = c; value = n }

pub tag-same : (t u : Tag) → tag_eq t u ≡ true → t ≡ u
unfolding made_tag
tag-same t u e =
    let c = class-same t.class u.class (eqb-true _ _ (and-left (nat_eq (class_number t.class) (class_number u.class)) (nat_eq t.value u.value) e)) in
    let n = eqb-true _ _ (and-right (nat_eq (class_number t.class) (class_number u.class)) (nat_eq t.value u.value) e) in
    ap (λ k. made_tag k t.value) c ∙ ap (made_tag u.class) n

pub tag-refl : (t : Tag) → tag_eq t t ≡ true
tag-refl t = and-both _ _ (nat-refl (class_number t.class)) (nat-refl t.value)

-- An alphabet is known by its number.
alphabet_at : ℕ → Alphabet
alphabet_at n =
    if nat_eq n 18 then Alphabet.numeric else (if nat_eq n 19 then Alphabet.printable else (if nat_eq n 26 then Alphabet.visible else (if nat_eq n 22 then Alphabet.ia5
    else (if nat_eq n 12 then Alphabet.utf8 else (if nat_eq n 28 then Alphabet.universal else (if nat_eq n 27 then Alphabet.general else Alphabet.graphic))))))

alphabet-known : (a : Alphabet) → alphabet_at (alphabet_number a) ≡ a
unfolding alphabet_at
alphabet-known Alphabet.numeric = refl
alphabet-known Alphabet.printable = refl
alphabet-known Alphabet.visible = refl
alphabet-known Alphabet.ia5 = refl
alphabet-known Alphabet.utf8 = refl
alphabet-known Alphabet.universal = refl
alphabet-known Alphabet.general = refl
alphabet-known Alphabet.graphic = refl

pub alphabet-same : (a b : Alphabet) → nat_eq (alphabet_number a) (alphabet_number b) ≡ true → a ≡ b
alphabet-same a b e = sym (alphabet-known a) ∙ ap alphabet_at (eqb-true _ _ e) ∙ alphabet-known b

pub size-same : (n m : Option ℕ) → same_size n m ≡ true → n ≡ m
size-same None None e = refl
size-same (Some n) (Some m) e = ap Some (eqb-true n m e)
size-same None (Some m) e = cc e
size-same (Some n) None e = cc e

pub size-refl : (n : Option ℕ) → same_size n n ≡ true
size-refl None = refl
size-refl (Some n) = nat-refl n

pub flag-same : (b c : Bool) → same_flag b c ≡ true → b ≡ c
flag-same true true e = refl
flag-same true false e = cc e
flag-same false true e = cc e
flag-same false false e = refl

pub flag-refl : (b : Bool) → same_flag b b ≡ true
flag-refl true = refl
flag-refl false = refl

pub order-same : (k m : SeqKind) → same_flag (is_set_kind k) (is_set_kind m) ≡ true → k ≡ m
order-same SeqKind.sequence SeqKind.sequence e = refl
order-same SeqKind.sequence SeqKind.set e = cc e
order-same SeqKind.set SeqKind.sequence e = cc e
order-same SeqKind.set SeqKind.set e = refl

other : {P : Type 0} → false ≡ true → P
other e = cc e

plain-same : (p q : Plain) → same_plain p q ≡ true → p ≡ q
plain-same (Plain.boolean b) (Plain.boolean c) e = ap Plain.boolean (flag-same b c e)
plain-same (Plain.int n) (Plain.int m) e = ap Plain.int (int-same n m e)
plain-same (Plain.text t) (Plain.text u) e = ap Plain.text (bytes-same t u e)
plain-same (Plain.item i) (Plain.item j) e = ap Plain.item (bytes-same i j e)
plain-same p q e = other e

plain-refl : (p : Plain) → same_plain p p ≡ true
plain-refl (Plain.boolean b) = flag-refl b
plain-refl (Plain.int n) = int-refl n
plain-refl (Plain.text t) = bytes-refl t
plain-refl (Plain.item i) = bytes-refl i

pub presence-same : (p q : Presence) → same_presence p q ≡ true → p ≡ q
presence-same Presence.required Presence.required e = refl
presence-same Presence.optional Presence.optional e = refl
presence-same (Presence.default p) (Presence.default q) e = ap Presence.default (plain-same p q e)
presence-same p q e = other e

pub presence-refl : (p : Presence) → same_presence p p ≡ true
presence-refl Presence.required = refl
presence-refl Presence.optional = refl
presence-refl (Presence.default p) = plain-refl p

-- A list begins with itself, and is like itself.
pub begins-refl : {A : Type 0} (same : A → A → Bool) (xs : List A) → ((x : A) → same x x ≡ true) → begins same xs xs ≡ true
begins-refl same [] h = refl
begins-refl same (x ∷ xs) h = and-both _ _ (h x) (begins-refl same xs h)

pub alike-refl : {A : Type 0} (same : A → A → Bool) (xs : List A) → ((x : A) → same x x ≡ true) → alike same xs xs ≡ true
alike-refl same xs h = and-both _ _ (nat-refl (length xs)) (begins-refl same xs h)
