-- Elements of a SET OF are equal exactly where their values are.
use Rattle.std.proofs.Common.{◌≡◌, ◌↔◌, ℕ, ℤ, pos, Bool, true, false, List, refl, sym, ap, true≢false}
use Rattle.std.specs.Bool.{beq}
use Rattle.std.specs.Global.{Global}
use Rattle.std.specs.Ordering.{int_eq}
use Rattle.std.specs.Prelude.{String, nat_eq, string_bytes}
use Rattle.std.specs.Str.{bytes_eq}
use Rattle.std.specs.Cmp.{signed_Decides, unsigned_Decides}
use Rattle.std.proofs.lemmas.Slice.Eq.{bytes_eq-Decides}
use Rattle.asn_model.specs.Value.{Value}

the_flag : Value → Bool
the_flag (Value.boolean b) = b
the_flag _ = false

the_number : Value → ℤ
the_number (Value.int n) = n
the_number _ = pos 0

the_text : Value → List ℕ
the_text (Value.text t) = t
the_text _ = List.[]

pub flags_alike : (a b : Bool) → (beq a b ≡ true) ↔ (Value.boolean a ≡ Value.boolean b)
unfolding the_flag
flags_alike a b = (λ e. ap Value.boolean (same a b e), λ e. tested a b (ap the_flag e))
  where
    same : (a b : Bool) → beq a b ≡ true → a ≡ b
    same true true e = refl
    same false false e = refl
    same true false e = absurd (true≢false (sym e))
    same false true e = absurd (true≢false (sym e))

    tested : (a b : Bool) → a ≡ b → beq a b ≡ true
    tested true true e = refl
    tested false false e = refl
    tested true false e = absurd (true≢false e)
    tested false true e = absurd (true≢false (sym e))

-- Of a type whose numbers are equal exactly where its values are.
pub numbers_alike : {I : Type 0} (eq : I → I → Bool) (number : I → ℤ) → ((a b : I) → (eq a b ≡ true) ↔ (number a ≡ number b)) → (a b : I) → (eq a b ≡ true) ↔ (Value.int (number a) ≡ Value.int (number b))
unfolding the_number
numbers_alike eq number alike a b = (λ e. ap Value.int ((alike a b).0 e), λ e. (alike a b).1 (ap the_number e))

pub texts_alike : (a b : String Global) → (bytes_eq (string_bytes a) (string_bytes b) ≡ true) ↔ (Value.text (string_bytes a) ≡ Value.text (string_bytes b))
unfolding the_text
texts_alike a b = let d = bytes_eq-Decides (string_bytes a) (string_bytes b) in (λ e. ap Value.text (d.0 e), λ e. d.1 (ap the_text e))

the_natural : ℤ → ℕ
the_natural (pos n) = n
the_natural _ = 0

-- Of the unsigned integer types.
pub unsigned_alike : (a b : ℕ) → (nat_eq a b ≡ true) ↔ (pos a ≡ pos b)
unfolding the_natural
unsigned_alike a b = let d = unsigned_Decides a b in (λ e. ap pos (d.0 e), λ e. d.1 (ap the_natural e))

-- Of the signed integer types.
pub signed_alike : (a b : ℤ) → (int_eq a b ≡ true) ↔ (a ≡ b)
signed_alike a b = signed_Decides a b
