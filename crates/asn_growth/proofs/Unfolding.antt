-- Growth survives the unfolding of loops.
use Rattle.std.proofs.Common.{◌≡◌, refl, ap, sym, arith, ℕ, suc, Bool, true, false, nat_eq, nat_le, nat_lt, if◌then◌else◌, ◌<◌}
use Rattle.std.proofs.lemmas.Bool.{leb-true, eqb-true}
use Rattle.asn_model.specs.Readable.{is_readable, is_readable_in}
use Rattle.asn_model.specs.Shape.{Shape, Fields, Alternatives, fill, fill_fields, fill_alternatives, unfold_loop}
use Rattle.asn_model.proofs.Readables.{and-left}
use Rattle.asn_growth.specs.Adapted.{head_loops, opened_times, without_loops}
use Rattle.asn_growth.specs.Grows.{Grows, GrowsFields, BeginsFields, GrowsAlternatives, BeginsAlternatives, has_parts}

pub has_none : {P : Type 0} → true ≡ false → P
has_none e = cc e

back-grows : (b : Bool) (j : ℕ) {a c : Shape} → Grows a c → Grows (if b then a else Shape.back j) (if b then c else Shape.back j)
back-grows true j g = g
back-grows false j g = Grows.grows_same refl

-- Without parts only a `back` is filled.
same-fill : (s : Shape) (k : ℕ) {a c : Shape} → has_parts s ≡ false → Grows a c → Grows (fill s k a) (fill s k c)
same-fill Shape.null k e g = Grows.grows_same refl
same-fill Shape.boolean k e g = Grows.grows_same refl
same-fill (Shape.int l m w) k e g = Grows.grows_same refl
same-fill (Shape.bits n) k e g = Grows.grows_same refl
same-fill Shape.octets k e g = Grows.grows_same refl
same-fill Shape.any k e g = Grows.grows_same refl
same-fill Shape.oid k e g = Grows.grows_same refl
same-fill (Shape.text a) k e g = Grows.grows_same refl
same-fill Shape.bmp k e g = Grows.grows_same refl
same-fill Shape.utc k e g = Grows.grows_same refl
same-fill Shape.gen k e g = Grows.grows_same refl
same-fill Shape.day k e g = Grows.grows_same refl
same-fill Shape.decimal k e g = Grows.grows_same refl
same-fill (Shape.enum items added) k e g = Grows.grows_same refl
same-fill (Shape.back j) k e g = back-grows (nat_eq j k) j g
same-fill (Shape.seq kind fs added) k e g = has_none e
same-fill (Shape.list_of s) k e g = has_none e
same-fill (Shape.set_of s) k e g = has_none e
same-fill (Shape.table s) k e g = has_none e
same-fill (Shape.choice alts added) k e g = has_none e
same-fill (Shape.loop s) k e g = has_none e

mutual
  pub grows-fill : {s r a c : Shape} (k : ℕ) → Grows s r → Grows a c → Grows (fill s k a) (fill r k c)
  grows-fill k (Grows.grows_same {s} e) g = same-fill s k e g
  grows-fill k (Grows.grows_enum items added more) g = Grows.grows_enum items added more
  grows-fill k (Grows.grows_closed_seq h) g = Grows.grows_closed_seq (fields-fill k h g)
  grows-fill k (Grows.grows_seq h m) g = Grows.grows_seq (fields-fill k h g) (begins-fill k m g)
  grows-fill k (Grows.grows_list h) g = Grows.grows_list (grows-fill k h g)
  grows-fill k (Grows.grows_set h) g = Grows.grows_set (grows-fill k h g)
  grows-fill k (Grows.grows_table h) g = Grows.grows_table (grows-fill k h g)
  grows-fill k (Grows.grows_closed_choice h) g = Grows.grows_closed_choice (alternatives-fill k h g)
  grows-fill k (Grows.grows_choice h m) g = Grows.grows_choice (alternatives-fill k h g) (begun-fill k m g)
  grows-fill k (Grows.grows_loop h) g = Grows.grows_loop (grows-fill (suc k) h g)

  fields-fill : {fs gs : Fields} {a c : Shape} (k : ℕ) → GrowsFields fs gs → Grows a c → GrowsFields (fill_fields fs k a) (fill_fields gs k c)
  fields-fill k GrowsFields.grows_no_fields g = GrowsFields.grows_no_fields
  fields-fill k (GrowsFields.grows_field h m) g = GrowsFields.grows_field (grows-fill k h g) (fields-fill k m g)

  begins-fill : {fs gs : Fields} {a c : Shape} (k : ℕ) → BeginsFields fs gs → Grows a c → BeginsFields (fill_fields fs k a) (fill_fields gs k c)
  begins-fill k BeginsFields.begins_fields g = BeginsFields.begins_fields
  begins-fill k (BeginsFields.begins_field h m) g = BeginsFields.begins_field (grows-fill k h g) (begins-fill k m g)

  alternatives-fill : {alts bs : Alternatives} {a c : Shape} (k : ℕ) → GrowsAlternatives alts bs → Grows a c → GrowsAlternatives (fill_alternatives alts k a) (fill_alternatives bs k c)
  alternatives-fill k GrowsAlternatives.grows_no_alternatives g = GrowsAlternatives.grows_no_alternatives
  alternatives-fill k (GrowsAlternatives.grows_alternative h m) g = GrowsAlternatives.grows_alternative (grows-fill k h g) (alternatives-fill k m g)

  begun-fill : {alts bs : Alternatives} {a c : Shape} (k : ℕ) → BeginsAlternatives alts bs → Grows a c → BeginsAlternatives (fill_alternatives alts k a) (fill_alternatives bs k c)
  begun-fill k BeginsAlternatives.begins_alternatives g = BeginsAlternatives.begins_alternatives
  begun-fill k (BeginsAlternatives.begins_alternative h m) g = BeginsAlternatives.begins_alternative (grows-fill k h g) (begun-fill k m g)

-- Growth survives the unfolding of a loop.
pub grows-unfolded : {b c : Shape} → Grows (Shape.loop b) (Shape.loop c) → Grows (unfold_loop b) (unfold_loop c)
grows-unfolded (Grows.grows_same e) = has_none e
grows-unfolded (Grows.grows_loop h) = grows-fill 0 h (Grows.grows_loop h)

-- A `back` at the head of a shape means none of the loops there.
other-back : (b : Bool) (j k : ℕ) (r : Shape) → nat_eq j k ≡ b → k < j → head_loops (if b then r else Shape.back j) ≡ 0
other-back true j k r e h = let same = eqb-true j k e in absurd (omega (arith, same, h))
other-back false j k r e h = refl

head-fill : (s : Shape) (loops bare k : ℕ) (r : Shape) → is_readable_in loops bare s ≡ true → k < bare → head_loops (fill s k r) ≡ head_loops s
head-fill (Shape.loop s) loops bare k r e h = ap suc (head-fill s (suc loops) (suc bare) (suc k) r e (omega (arith, h)))
head-fill (Shape.back j) loops bare k r e h = let far = leb-true bare j (and-left (nat_le bare j) (nat_lt j loops) e) in other-back (nat_eq j k) j k r refl (omega (arith, far, h))
head-fill s loops bare k r e h = refl

-- A loop that can be read, opened, is the same without loops at its head.
pub opened-head : (b : Shape) → is_readable (Shape.loop b) ≡ true → without_loops (Shape.loop b) ≡ without_loops (unfold_loop b)
opened-head b e = ap (λ n. opened_times n (unfold_loop b)) (sym (head-fill b 1 1 0 (Shape.loop b) e (omega arith)))
