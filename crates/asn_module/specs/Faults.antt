-- Why a text is no module.
use Rattle.std.specs.Prelude.{◌≡◌, ◌≤◌, ℕ, List, ◌++◌, true, false, codes, Option, None, Some, string_bytes}
use Rattle.asn_expansion.specs.Expansion.{type_shape}
use Rattle.asn_expansion.specs.Large.{HasMore}
use Rattle.asn_growth.specs.Parts.{node_count}
use Rattle.asn_model.specs.Readable.{is_readable}
use Rattle.asn_model.specs.Shape.{Shape, is_item}
use Rattle.asn_notation.specs.Grammar.{ModuleParses}
use Rattle.asn_notation.specs.Names.{assigned_names, first_repeated, first_unassigned}
use Rattle.asn_notation.specs.Notation.{Assignment}
use Rattle.asn_module_reader.specs.declared.fault.ReadFault.{ReadFault}
use Rattle.asn_module_reader.specs.declared.fault.ReadFault.TheVariants as read
use Rattle.asn_module.specs.declared.fault.ModuleFault.{ModuleFault}
use Rattle.asn_module.specs.declared.fault.ModuleFault.TheVariants as fault

-- The text of a fault.
abbrev pub module_fault_text : ModuleFault → List ℕ
module_fault_text fault.Syntax = codes "not a module of this profile"
module_fault_text (fault.Duplicate name) = codes "type " ++ string_bytes name ++ codes " is assigned twice"
module_fault_text (fault.Unknown name) = codes "type " ++ string_bytes name ++ codes " isn't assigned"
module_fault_text (fault.NoSuchName name) = codes "the module has no type " ++ string_bytes name
module_fault_text (fault.TooLarge name) = codes "type " ++ string_bytes name ++ codes " is too large"
module_fault_text (fault.NotReadable name) = codes "type " ++ string_bytes name ++ codes " isn't readable"
module_fault_text fault.OutOfMemory = codes "Out of memory"

-- The fault of a reader.
abbrev pub module_fault_of : ReadFault → ModuleFault
module_fault_of read.Syntax = fault.Syntax
module_fault_of read.OutOfMemory = fault.OutOfMemory

-- The text is assignments of which the first one whose name was assigned before has this name.
pub record IsDuplicate (limit : ℕ) (text name : List ℕ) : Type 0 where
  pub assignments : List Assignment
  pub parses : ModuleParses limit text assignments
  pub repeated : first_repeated assignments ≡ Some name

-- The text is assignments with distinct names, and of the names that they refer to this is the first one that isn't assigned.
pub record IsUnknown (limit : ℕ) (text name : List ℕ) : Type 0 where
  pub assignments : List Assignment
  pub parses : ModuleParses limit text assignments
  pub distinct : first_repeated assignments ≡ None
  pub unassigned : first_unassigned assignments ≡ Some name

-- The fault is a reason why the text is no module. Want of memory is none, and may come at any text.
abbrev pub IsRefusal : ℕ → List ℕ → ModuleFault → Type 0
IsRefusal limit text fault.Syntax = (assignments : List Assignment) → ModuleParses limit text assignments → ⊥
IsRefusal limit text (fault.Duplicate name) = IsDuplicate limit text (string_bytes name)
IsRefusal limit text (fault.Unknown name) = IsUnknown limit text (string_bytes name)
IsRefusal limit text (fault.NoSuchName name) = ⊥
IsRefusal limit text (fault.TooLarge name) = ⊥
IsRefusal limit text (fault.NotReadable name) = ⊥
IsRefusal limit text fault.OutOfMemory = Unit {0}

-- The fault is the first name that was assigned before, else the first one that isn't assigned, or memory.
abbrev pub NamesFail : List Assignment → ModuleFault → Type 0
NamesFail assignments (fault.Duplicate name) = first_repeated assignments ≡ Some (string_bytes name)
NamesFail assignments (fault.Unknown name) = (first_repeated assignments ≡ None) × (first_unassigned assignments ≡ Some (string_bytes name))
NamesFail assignments fault.OutOfMemory = Unit {0}
NamesFail assignments e = ⊥

-- The shape is there, has no more nodes than the limit, and can't be read.
pub record IsNotReadable (nodes : ℕ) (s : Option Shape) : Type 0 where
  pub shape : Shape
  pub made : s ≡ Some shape
  pub few : node_count shape ≤ nodes
  pub unreadable : is_readable shape ≡ false

-- The fault is the reason why the name has no shape, of these limits on open names and nodes. Want of memory is none, and may come at any name.
abbrev pub HasNoShape : ℕ → ℕ → List Assignment → List ℕ → ModuleFault → Type 0
HasNoShape names nodes assignments name (fault.NoSuchName n) = (string_bytes n ≡ name) × (is_item (assigned_names assignments) name ≡ false)
HasNoShape names nodes assignments name (fault.TooLarge n) = (string_bytes n ≡ name) × (is_item (assigned_names assignments) name ≡ true) × HasMore node_count nodes (type_shape names assignments name)
HasNoShape names nodes assignments name (fault.NotReadable n) = (string_bytes n ≡ name) × IsNotReadable nodes (type_shape names assignments name)
HasNoShape names nodes assignments name fault.OutOfMemory = Unit {0}
HasNoShape names nodes assignments name e = ⊥
