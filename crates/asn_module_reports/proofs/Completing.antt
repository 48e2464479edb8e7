-- A module, or types with shapes, leave no reason but memory.
use Rattle.std.proofs.Common.{◌≡◌, ◌<◌, ℕ, zero, suc, List, [], ◌∷◌, Option, Some, None, Bool, true, false, if◌then◌else◌, refl, sym, ap, ◌∙◌, subst, option_map, arith}
use Rattle.std.specs.Str.{bytes_eq, chars}
use Rattle.asn_expansion.specs.Expansion.{expansion, notation_named, shape_of_found, type_shape}
use Rattle.asn_expansion.specs.Large.{HasMore}
use Rattle.asn_expansion.specs.declared.limits.TheConstants.{NODE_LIMIT, OPEN_LIMIT}
use Rattle.asn_growth.specs.Parts.{node_count}
use Rattle.asn_model.specs.Readable.{is_readable}
use Rattle.asn_model.specs.Shape.{Shape, is_item}
use Rattle.asn_module.specs.Faults.{HasNoShape, IsRefusal}
use Rattle.asn_module.specs.declared.fault.ModuleFault.{ModuleFault}
use Rattle.asn_module.specs.declared.fault.ModuleFault.TheVariants as fault
use Rattle.asn_notation.specs.Names.{assigned_names, first_repeated, first_unassigned}
use Rattle.asn_notation.specs.Notation.{Assignment, Notation}
use Rattle.asn_notation.proofs.OneNotation.{same_module}
use Rattle.asn_notation.specs.declared.limits.TheConstants.{NESTING_LIMIT}
use Rattle.asn_module_reports.specs.Reports.{AreTypesOf, GrowthFails, IsModuleText, IsType}

both : {A : Type 0} {x : A} {o : Option A} → o ≡ Some x → o ≡ None → ⊥
both {A} {x} e f = let d : ◌≡◌ {A = Option A} (Some x) None = sym e ∙ f in cc d

-- A text that stands for a module is refused for want of memory alone.
pub module_complete : (text : List ℕ) (e : ModuleFault) → IsModuleText text → IsRefusal NESTING_LIMIT (chars text) e → e ≡ fault.OutOfMemory
module_complete text fault.Syntax m h = absurd (h m.assignments m.stands.parses)
module_complete text (fault.Duplicate name) m h = absurd (both h.repeated (ap first_repeated (same_module h.parses m.stands.parses) ∙ m.stands.distinct))
module_complete text (fault.Unknown name) m h = absurd (both h.unassigned (ap first_unassigned (same_module h.parses m.stands.parses) ∙ m.stands.assigned))
module_complete text (fault.NoSuchName name) m h = absurd h
module_complete text (fault.TooLarge name) m h = absurd h
module_complete text (fault.NotReadable name) m h = absurd h
module_complete text fault.OutOfMemory m h = refl

item_if : (b : Bool) (o : Option Notation) (p : Bool) → ((n : Notation) → o ≡ Some n → p ≡ true) → (m n : Notation) → (if b then Some m else o) ≡ Some n → (if b then true else p) ≡ true
item_if true o p k m n e = refl
item_if false o p k m n e = k n e

-- A name whose notation is found is assigned.
found_assigned : (assignments : List Assignment) (name : List ℕ) (n : Notation) → notation_named assignments name ≡ Some n → is_item (assigned_names assignments) name ≡ true
found_assigned [] name n e = let d : ◌≡◌ {A = Option Notation} None (Some n) = e in cc d
found_assigned (a ∷ more) name n e =
    item_if (bytes_eq name a.name) (notation_named more name) (is_item (assigned_names more) name) (λ m f. found_assigned more name m f) a.notation n e

-- So is a name that has an expansion.
expanded_assigned : (limit : ℕ) (assignments : List Assignment) (name : List ℕ) (s : Shape) → type_shape limit assignments name ≡ Some s → is_item (assigned_names assignments) name ≡ true
unfolding expansion
expanded_assigned zero assignments name s e = let d : ◌≡◌ {A = Option Shape} None (Some s) = e in cc d
expanded_assigned (suc more) assignments name s e = by (notation_named assignments name) refl e
  where
    by : (o : Option Notation) → notation_named assignments name ≡ o → option_map (λ x. Shape.loop x) (shape_of_found (expansion assignments more (name ∷ [])) o) ≡ Some s → is_item (assigned_names assignments) name ≡ true
    by None is f = let d : ◌≡◌ {A = Option Shape} None (Some s) = f in cc d
    by (Some n) is f = found_assigned assignments name n is

-- A type with a shape has no reason to have none but memory.
pub type_complete : (assignments : List Assignment) (name : List ℕ) (s : Shape) (e : ModuleFault) → IsType assignments name s → HasNoShape OPEN_LIMIT NODE_LIMIT assignments name e → e ≡ fault.OutOfMemory
type_complete assignments name s fault.Syntax t h = absurd h
type_complete assignments name s (fault.Duplicate n) t h = absurd h
type_complete assignments name s (fault.Unknown n) t h = absurd h
type_complete assignments name s (fault.NoSuchName n) t h =
    let x : true ≡ false = sym (expanded_assigned OPEN_LIMIT assignments name s t.made) ∙ h.1 in cc x
type_complete assignments name s (fault.TooLarge n) t h =
    let more : NODE_LIMIT < node_count s = subst (HasMore node_count NODE_LIMIT) t.made h.2 in absurd (omega (arith, more, t.few))
type_complete assignments name s (fault.NotReadable n) t h =
    let d : ◌≡◌ {A = Option Shape} (Some s) (Some h.1.shape) = sym t.made ∙ h.1.made in
    let same : s ≡ h.1.shape = cc d in
    let x : true ≡ false = sym t.readable ∙ ap is_readable same ∙ h.1.unreadable in cc x
type_complete assignments name s fault.OutOfMemory t h = refl

-- Where both types have shapes, only memory keeps the report away.
pub report_complete : (old new text : List ℕ) (e : ModuleFault) → AreTypesOf old new text → GrowthFails old new text e → e ≡ fault.OutOfMemory
report_complete old new text e t (GrowthFails.no_module f h) = module_complete text f (record { assignments = t.assignments; stands = t.stands }) h
report_complete old new text e t (GrowthFails.no_older f others stands h) =
    let same = same_module stands.parses t.stands.parses in
    type_complete t.assignments old t.older f t.is_older (subst (λ a. HasNoShape OPEN_LIMIT NODE_LIMIT a old f) same h)
report_complete old new text e t (GrowthFails.no_newer f others older stands is h) =
    let same = same_module stands.parses t.stands.parses in
    type_complete t.assignments new t.newer f t.is_newer (subst (λ a. HasNoShape OPEN_LIMIT NODE_LIMIT a new f) same h)
