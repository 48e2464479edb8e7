-- The fields and the alternatives of a type begin with those of its older versions.
use Rattle.std.proofs.Common.{◌≡◌, refl, ap, sym, ◌∙◌, subst, ℕ, Bool, true, false, ◌&&◌, if◌then◌else◌, List, [], map, Option, Some, None, ◌⊎◌, inl, inr}
use Rattle.std.specs.Char.{to_ascii_lowercase}
use Rattle.std.specs.Str.{bytes_eq}
use Rattle.std.proofs.lemmas.Slice.Eq.{bytes_eq-Decides}
use Rattle.asn_model.specs.Readable.{is_readable, are_alternatives_readable, are_added_alternatives_readable, are_distinguishable, has_alternative}
use Rattle.asn_model.specs.Shape.{Shape, SeqKind, Fields, FieldAdditions, Alternatives, AlternativeAdditions, all_alternatives, all_fields, alternative_named, field_names, join_alternatives, join_fields}
use Rattle.asn_fault.specs.Failure.{Cause}
use Rattle.asn_model.specs.FailsWith.{FailsWith}
use Rattle.asn_model.specs.Notation.{Notation}
use Rattle.asn_model.specs.Tree.{Slot, Tree, as_members, first_repeated, is_repeated, same_identifier}
use Rattle.asn_model.specs.Value.{Value}
use Rattle.asn_model.proofs.Readables.{and-left, and-right}
use Rattle.asn_model.proofs.Written.{all_readable}
use Rattle.asn_growth.specs.Adapted.{adapted, adapted_in, found_shape, without_loops}
use Rattle.asn_growth.specs.Grows.{Grows, GrowsFields, BeginsFields, GrowsAlternatives, BeginsAlternatives}

pub none_some : {A : Type 0} {x : A} {o : Option A} → o ≡ None → o ≡ Some x → ⊥
none_some {A} {x} e f = let d : ◌≡◌ {A = Option A} None (Some x) = sym e ∙ f in cc d

pub fields-begin : {fs gs : Fields} → GrowsFields fs gs → BeginsFields fs gs
fields-begin GrowsFields.grows_no_fields = BeginsFields.begins_fields
fields-begin (GrowsFields.grows_field g h) = BeginsFields.begins_field g (fields-begin h)

pub joined-begin : {fs gs added more : Fields} → GrowsFields fs gs → BeginsFields added more → BeginsFields (join_fields fs added) (join_fields gs more)
joined-begin GrowsFields.grows_no_fields m = m
joined-begin (GrowsFields.grows_field g h) m = BeginsFields.begins_field g (joined-begin h m)

-- What repeats no name of a type repeats none of an older version of it.
pub single-begin : (n : Notation) (t : Tree) {fs gs : Fields} → BeginsFields fs gs → first_repeated n t (field_names gs) ≡ None → first_repeated n t (field_names fs) ≡ None
single-begin n t BeginsFields.begins_fields e = refl
single-begin n t (BeginsFields.begins_field {n = name} {fs = fs} {gs = gs} g m) e = by (single-begin n t m) (is_repeated n t name) e
  where
    by : (first_repeated n t (field_names gs) ≡ None → first_repeated n t (field_names fs) ≡ None) → (b : Bool) → (if b then Some name else first_repeated n t (field_names gs)) ≡ None → (if b then Some name else first_repeated n t (field_names fs)) ≡ None
    by later true f = f
    by later false f = later f

-- The first repeated name of an older version is that of the newer one.
repeated-begin : (n : Notation) (t : Tree) {fs gs : Fields} (found : List ℕ) → BeginsFields fs gs → first_repeated n t (field_names fs) ≡ Some found → first_repeated n t (field_names gs) ≡ Some found
repeated-begin n t found BeginsFields.begins_fields e = absurd (none_some refl e)
repeated-begin n t found (BeginsFields.begins_field {n = name} {fs = fs} {gs = gs} g m) e = by (repeated-begin n t found m) (is_repeated n t name) e
  where
    by : (first_repeated n t (field_names fs) ≡ Some found → first_repeated n t (field_names gs) ≡ Some found) → (b : Bool) → (if b then Some name else first_repeated n t (field_names fs)) ≡ Some found → (if b then Some name else first_repeated n t (field_names gs)) ≡ Some found
    by later true f = f
    by later false f = later f

-- So it is refused by the newer version as by the older one.
pub repeated-again : {n : Notation} {kind other : SeqKind} {fs gs : Fields} {added more : FieldAdditions} {t : Tree} {look : List ℕ → Slot} (found : List ℕ) → Grows (Shape.seq kind fs added) (Shape.seq other gs more) → as_members n t ≡ Some look → first_repeated n t (field_names (all_fields fs added)) ≡ Some found
    → FailsWith n (Shape.seq other gs more) (Some t) [] (Cause.duplicate_field found)
repeated-again {n} {t = t} {look = look} found (Grows.grows_closed_seq {kind} {gs = gs} m) e f = FailsWith.fails_repeated kind gs FieldAdditions.closed_fields t look found e (repeated-begin n t found (fields-begin m) f)
repeated-again {n} {t = t} {look = look} found (Grows.grows_seq {kind} {gs = gs} {more = more} m k) e f = FailsWith.fails_repeated kind gs (FieldAdditions.extended_fields more) t look found e (repeated-begin n t found (joined-begin m k) f)
repeated-again found (Grows.grows_same h) e f = let d : true ≡ false = h in cc d

pub alternatives-begin : {alts bs : Alternatives} → GrowsAlternatives alts bs → BeginsAlternatives alts bs
alternatives-begin GrowsAlternatives.grows_no_alternatives = BeginsAlternatives.begins_alternatives
alternatives-begin (GrowsAlternatives.grows_alternative g h) = BeginsAlternatives.begins_alternative g (alternatives-begin h)

pub alternatives-joined : {alts bs added more : Alternatives} → GrowsAlternatives alts bs → BeginsAlternatives added more → BeginsAlternatives (join_alternatives alts added) (join_alternatives bs more)
alternatives-joined GrowsAlternatives.grows_no_alternatives m = m
alternatives-joined (GrowsAlternatives.grows_alternative g h) m = BeginsAlternatives.begins_alternative g (alternatives-joined h m)

-- The alternatives of a choice that can be read can be read.
pub readable-alternatives : (alts : Alternatives) (added : AlternativeAdditions) → is_readable (Shape.choice alts added) ≡ true → are_alternatives_readable 0 (all_alternatives alts added) ≡ true
readable-alternatives alts added a =
    let names = has_alternative (all_alternatives alts added) && are_distinguishable (all_alternatives alts added) in
    let parts = and-right names (are_alternatives_readable 0 alts && are_added_alternatives_readable 0 added) a in
    all_readable alts added (and-left (are_alternatives_readable 0 alts) (are_added_alternatives_readable 0 added) parts) (and-right (are_alternatives_readable 0 alts) (are_added_alternatives_readable 0 added) parts)

abbrev Named : Type 0
Named = List ℕ × Shape

some_named : {x y : Named} → ◌≡◌ {A = Option Named} (Some x) (Some y) → x ≡ y
some_named e = cc e

-- So can the one that is found by its name.
pub readable-named : (alts : Alternatives) (name id : List ℕ) (s : Shape) → are_alternatives_readable 0 alts ≡ true → alternative_named same_identifier alts name ≡ Some (id, s) → is_readable s ≡ true
readable-named Alternatives.no_alternatives name id s a e = absurd (none_some refl e)
readable-named (Alternatives.alternative i t r alts) name id s a e = by (λ f. readable-named alts name id s (and-right (is_readable r) (are_alternatives_readable 0 alts) a) f) (same_identifier name i) e
  where
    by : (alternative_named same_identifier alts name ≡ Some (id, s) → is_readable s ≡ true) → (b : Bool) → (if b then Some (i, r) else alternative_named same_identifier alts name) ≡ Some (id, s) → is_readable s ≡ true
    by later true f = subst (λ x. is_readable x ≡ true) (ap (λ (x : Named). x.1) (some_named f)) (and-left (is_readable r) (are_alternatives_readable 0 alts) a)
    by later false f = later f

-- An alternative is found by each name that differs from its identifier in case alone.
same-named : (alts : Alternatives) (name id : List ℕ) → map to_ascii_lowercase name ≡ map to_ascii_lowercase id → alternative_named same_identifier alts name ≡ alternative_named same_identifier alts id
same-named Alternatives.no_alternatives name id e = refl
same-named (Alternatives.alternative i t s alts) name id e =
    ap (λ l. if bytes_eq l (map to_ascii_lowercase i) then Some (i, s) else alternative_named same_identifier alts name) e
    ∙ ap (λ o. if same_identifier id i then Some (i, s) else o) (same-named alts name id e)

found-lowered : (alts : Alternatives) (name id : List ℕ) (s : Shape) → alternative_named same_identifier alts name ≡ Some (id, s) → map to_ascii_lowercase name ≡ map to_ascii_lowercase id
found-lowered Alternatives.no_alternatives name id s e = absurd (none_some refl e)
found-lowered (Alternatives.alternative i t r alts) name id s e = by (λ f. found-lowered alts name id s f) (same_identifier name i) refl e
  where
    by : (alternative_named same_identifier alts name ≡ Some (id, s) → map to_ascii_lowercase name ≡ map to_ascii_lowercase id) → (b : Bool) → same_identifier name i ≡ b → (if b then Some (i, r) else alternative_named same_identifier alts name) ≡ Some (id, s) → map to_ascii_lowercase name ≡ map to_ascii_lowercase id
    by later true m f = (bytes_eq-Decides (map to_ascii_lowercase name) (map to_ascii_lowercase i)).0 m ∙ ap (λ (x : Named). map to_ascii_lowercase (x.0)) (some_named f)
    by later false m f = later f

pub found-again : (alts : Alternatives) (name id : List ℕ) (s : Shape) → alternative_named same_identifier alts name ≡ Some (id, s) → alternative_named same_identifier alts id ≡ Some (id, s)
found-again alts name id s e = sym (same-named alts name id (found-lowered alts name id s e)) ∙ e

-- The payload of an alternative is adapted by its shape.
pub choice-adapted : (alts : Alternatives) (added : AlternativeAdditions) (id : List ℕ) (s : Shape) (v : Value) → alternative_named same_identifier (all_alternatives alts added) id ≡ Some (id, s) → adapted (Shape.choice alts added) (Value.choice id v) ≡ Value.choice id (adapted s v)
choice-adapted alts added id s v e = ap (λ o. Value.choice id (adapted_in (without_loops (found_shape o)) v)) e

-- The alternative is there, in an older version, or it isn't.
abbrev pub Found : Alternatives → List ℕ → List ℕ → Shape → Type 0
Found alts name id s = ((r : Shape) × (alternative_named same_identifier alts name ≡ Some (id, r)) × Grows r s) ⊎ (alternative_named same_identifier alts name ≡ None)

-- An alternative of a newer version is one of the older version, or the older version lacks it.
pub find : {alts bs : Alternatives} (name id : List ℕ) (s : Shape) → BeginsAlternatives alts bs → alternative_named same_identifier bs name ≡ Some (id, s) → Found alts name id s
find name id s BeginsAlternatives.begins_alternatives e = inr refl
find name id s (BeginsAlternatives.begins_alternative {i} {t} {s = q} {r} {alts} {bs} g m) e = by (λ f. find name id s m f) (same_identifier name i) e
  where
    by : (alternative_named same_identifier bs name ≡ Some (id, s) → Found alts name id s) → (b : Bool) → (if b then Some (i, r) else alternative_named same_identifier bs name) ≡ Some (id, s)
        → ((x : Shape) × ((if b then Some (i, q) else alternative_named same_identifier alts name) ≡ Some (id, x)) × Grows x s) ⊎ ((if b then Some (i, q) else alternative_named same_identifier alts name) ≡ None)
    by later true f = let d = some_named f in inl (q, ap (λ (x : Named). Some (x.0, q)) d, subst (Grows q) (ap (λ (x : Named). x.1) d) g)
    by later false f = later f
