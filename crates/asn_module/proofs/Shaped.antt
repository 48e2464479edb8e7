-- Why a name has no shape.
use Rattle.std.proofs.Common.{◌≡◌, ℕ, List, Bool, Some, None, Result, IfErr, sym, ap, ◌∙◌, is_some, string_bytes}
use Rattle.std.proofs.lemmas.Result.{IfErr-weaker}
use Rattle.std.specs.Borrow.{Bor}
use Rattle.std.specs.HashMap.{HashMap}
use Rattle.asn_expansion.specs.Places.{ArePlaces, is_placed}
use Rattle.asn_model.specs.Shape.{is_item}
use Rattle.asn_module.specs.Faults.{HasNoShape, NamesFail}
use Rattle.asn_module.specs.declared.fault.ModuleFault.{ModuleFault}
use Rattle.asn_module.specs.declared.fault.ModuleFault.TheVariants as fault
use Rattle.asn_module.proofs.Placed.{placed-item}
use Rattle.asn_module_text.specs.Modules.{IsProper}
use Rattle.asn_notation.specs.Notation.{Assignment}

-- The names of a proper module don't fail.
proper_names : (limit names nodes : ℕ) (assignments : List Assignment) (name : List ℕ) (e : ModuleFault) → IsProper limit assignments → NamesFail assignments e → HasNoShape names nodes assignments name e
proper_names limit names nodes assignments name (fault.Duplicate n) p h = let z : None ≡ Some (string_bytes n) = sym p.distinct ∙ h in absurd (let f : ⊥ = cc in f)
proper_names limit names nodes assignments name (fault.Unknown n) p h = let z : None ≡ Some (string_bytes n) = sym p.assigned ∙ h.1 in absurd (let f : ⊥ = cc in f)
proper_names limit names nodes assignments name fault.Syntax p h = absurd h
proper_names limit names nodes assignments name (fault.NoSuchName n) p h = absurd h
proper_names limit names nodes assignments name (fault.TooLarge n) p h = absurd h
proper_names limit names nodes assignments name (fault.NotReadable n) p h = absurd h
proper_names limit names nodes assignments name fault.OutOfMemory p h = tt

-- The same of what finding their places answers.
pub proper_places : {S : Type 0} (limit names nodes : ℕ) (assignments : List Assignment) (name : List ℕ) (r : Result S ModuleFault) → IsProper limit assignments → IfErr r (λ e. NamesFail assignments e) → IfErr r (λ e. HasNoShape names nodes assignments name e)
proper_places limit names nodes assignments name r p h = IfErr-weaker r (λ e. NamesFail assignments e) (λ e. HasNoShape names nodes assignments name e) (λ e f. proper_names limit names nodes assignments name e p f) h

-- A name is assigned where it has a place.
pub item_placed : {S : Type 0} (places : HashMap (Bor (List ℕ)) ℕ S) (ns : List (List ℕ)) (n : List ℕ) (b : Bool) → ArePlaces places ns → is_placed places n ≡ b → is_item ns n ≡ b
item_placed places ns n b are e = sym (placed-item ns n) ∙ ap is_some (sym (are n)) ∙ e
