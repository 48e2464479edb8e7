-- Errors, by what they refuse.
use Rattle.std.proofs.Common.{◌≡◌, ℕ, List, sym, subst, ap, ◌∙◌}
use Rattle.asn_lexer.specs.declared.place.Place.{Place}
use Rattle.asn_modules_errors.specs.Errors.{Refuses}
use Rattle.asn_modules_errors.specs.declared.cause.Cause.{Cause}
use Rattle.asn_modules_errors.specs.declared.error.ModuleError.{ModuleError}
use Rattle.asn_modules_errors.specs.declared.error.ModuleError.TheVariants as error

-- A place by its line and column.
pub same_place : (p : Place) (l k : ℕ) → p.line ≡ l → p.column ≡ k → p ≡ record { line = l; column = k }
same_place p l k e f = ap (λ x. record { line = x; column = p.column }) e ∙ ap (λ x. record { line = l; column = x }) f

-- What holds of a place and a cause holds of the error that refuses so.
pub refused_so : (file : List ℕ) (Q : Place → Cause → Type 0) (e : ModuleError) (place : Place) (cause : Cause) → Q place cause → Refuses file (λ p c. (p ≡ place) × (c ≡ cause)) e → Refuses file Q e
refused_so file Q (error.Refused f p c) place cause q h = (h.0, subst (λ x. Q x c) (sym h.1.0) (subst (λ y. Q place y) (sym h.1.1) q))
refused_so file Q error.OutOfMemory place cause q h = tt

-- What follows of each place and cause follows of the error.
pub refuses_more : (file : List ℕ) (P Q : Place → Cause → Type 0) (e : ModuleError) → ((p : Place) (c : Cause) → P p c → Q p c) → Refuses file P e → Refuses file Q e
refuses_more file P Q (error.Refused f p c) g h = (h.0, g p c h.1)
refuses_more file P Q error.OutOfMemory g h = tt
