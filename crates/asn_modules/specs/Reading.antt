-- Which modules texts are.
use Rattle.std.specs.Prelude.{◌≡◌, ◌⊎◌, List, None}
use Rattle.asn_modules.specs.Missing.{missing_in}
use Rattle.asn_modules.specs.Modules.{Modules}
use Rattle.asn_modules.specs.Names.{type_names}
use Rattle.asn_modules_rules.specs.checks.Checks.{first_broken}
use Rattle.asn_modules_errors.specs.declared.error.ModuleError.{ModuleError}
use Rattle.asn_modules_names.specs.Faults.{Tells}
use Rattle.asn_modules_names.specs.Mentions.{Source}
use Rattle.asn_modules_names.specs.sources.Reading.{AreRead, IsFirstRefused, Named}
use Rattle.asn_modules_types.specs.Linked.{linked_types}

-- The texts are these types: they are read, no name or number in them breaks a rule, the types are
-- those that they assign, and the modules are missing that they import from and don't have.
pub record AreModules (texts : List Named) (m : Modules) : Type 0 where
  pub sources : List Source
  pub read : AreRead texts sources
  pub unbroken : first_broken sources ≡ None
  pub names : m.names ≡ type_names sources
  pub types : m.types ≡ linked_types sources
  pub missing : m.missing ≡ missing_in sources

-- The texts are read, and the error tells the first rule that a name or number in them breaks.
pub record Breaks (texts : List Named) (e : ModuleError) : Type 0 where
  pub sources : List Source
  pub read : AreRead texts sources
  pub tells : Tells (first_broken sources) e

-- The error tells the first text that is refused, or else the first rule that is broken, unless
-- memory ran out.
abbrev pub IsModulesRefusal : List Named → ModuleError → Type 0
IsModulesRefusal texts e = IsFirstRefused texts e ⊎ Breaks texts e
