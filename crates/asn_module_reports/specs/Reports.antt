-- What is reported on the module that a text stands for.
use Rattle.std.specs.Prelude.{◌≡◌, ◌≢◌, ◌≤◌, ℕ, List, [], ◌∷◌, ◌++◌, codes, decimal, Some, true}
use Rattle.std.specs.Str.{chars}
use Rattle.asn_expansion.specs.Expansion.{type_shape}
use Rattle.asn_expansion.specs.declared.limits.TheConstants.{NODE_LIMIT, OPEN_LIMIT}
use Rattle.asn_growth.specs.Differences.{differences_of, growth_of}
use Rattle.asn_growth.specs.Parts.{node_count}
use Rattle.asn_growth.specs.declared.reasons.Growth.{Growth}
use Rattle.asn_growth.specs.declared.reasons.Growth.TheVariants.{Differs, Grows}
use Rattle.asn_model.specs.Readable.{is_readable}
use Rattle.asn_model.specs.Shape.{Shape}
use Rattle.asn_module.specs.Faults.{HasNoShape, IsRefusal, module_fault_text}
use Rattle.asn_module.specs.declared.fault.ModuleFault.{ModuleFault}
use Rattle.asn_module.specs.declared.fault.ModuleFault.TheVariants.{OutOfMemory}
use Rattle.asn_module_text.specs.Modules.{IsModule}
use Rattle.asn_notation.specs.Notation.{Assignment}
use Rattle.asn_notation.specs.Printed.{module_text}
use Rattle.asn_notation.specs.declared.limits.TheConstants.{NESTING_LIMIT}

-- The text stands for a module.
pub record IsModuleText (text : List ℕ) : Type 0 where
  pub assignments : List Assignment
  pub stands : IsModule NESTING_LIMIT (chars text) assignments

-- The bytes are the printed text of the module that the text stands for.
pub record IsPrinting (text due : List ℕ) : Type 0 where
  pub assignments : List Assignment
  pub stands : IsModule NESTING_LIMIT (chars text) assignments
  pub is : due ≡ module_text assignments

-- The line that states a fault.
abbrev pub fault_line : ModuleFault → List ℕ
fault_line fault = codes "refused: " ++ module_fault_text fault ++ 10 ∷ []

-- The bytes are the line of a fault for which the text stands for no module.
pub record IsPrintingRefusal (text due : List ℕ) : Type 0 where
  pub fault : ModuleFault
  pub reason : IsRefusal NESTING_LIMIT (chars text) fault
  pub stated : fault ≢ OutOfMemory
  pub is : due ≡ fault_line fault

-- The type of this name has this shape, which isn't too large and can be read.
pub record IsType (assignments : List Assignment) (name : List ℕ) (s : Shape) : Type 0 where
  pub made : type_shape OPEN_LIMIT assignments name ≡ Some s
  pub few : node_count s ≤ NODE_LIMIT
  pub readable : is_readable s ≡ true

-- The text stands for a module whose types of these two names have shapes.
pub record AreTypesOf (old new text : List ℕ) : Type 0 where
  pub assignments : List Assignment
  pub stands : IsModule NESTING_LIMIT (chars text) assignments
  pub older : Shape
  pub newer : Shape
  pub is_older : IsType assignments old older
  pub is_newer : IsType assignments new newer

-- The line for an answer on growth.
abbrev pub growth_line : Growth → List ℕ
growth_line Grows = codes "grows" ++ 10 ∷ []
growth_line (Differs place reason) = codes "differs at " ++ decimal place ++ 10 ∷ []

-- The bytes say whether the newer type is a later version of the older one, or which node is the first that differs.
pub record IsGrowthReport (old new text due : List ℕ) : Type 0 where
  pub types : AreTypesOf old new text
  pub is : due ≡ growth_line (growth_of (differences_of types.older types.newer 0))

-- The fault is why the text stands for no module, else why the older type has no shape, else why the newer one has none.
pub data GrowthFails (old new text : List ℕ) : ModuleFault → Type 0 where
  no_module : (fault : ModuleFault) → IsRefusal NESTING_LIMIT (chars text) fault → GrowthFails old new text fault
  no_older : (fault : ModuleFault) (assignments : List Assignment) → IsModule NESTING_LIMIT (chars text) assignments
      → HasNoShape OPEN_LIMIT NODE_LIMIT assignments old fault → GrowthFails old new text fault
  no_newer : (fault : ModuleFault) (assignments : List Assignment) (older : Shape) → IsModule NESTING_LIMIT (chars text) assignments
      → IsType assignments old older → HasNoShape OPEN_LIMIT NODE_LIMIT assignments new fault → GrowthFails old new text fault

-- The bytes are the line of such a fault.
pub record IsGrowthRefusal (old new text due : List ℕ) : Type 0 where
  pub fault : ModuleFault
  pub reason : GrowthFails old new text fault
  pub stated : fault ≢ OutOfMemory
  pub is : due ≡ fault_line fault
