-- The texts of faults.
use Rattle.std.specs.Prelude.{ℕ, List, ◌++◌, codes, decimal}
use Rattle.asn_filter.specs.declared.fault.FilterFault.{FilterFault}
use Rattle.asn_filter.specs.declared.fault.FilterFault.TheVariants.{NotGrown, OutOfMemory}

-- The text of a fault.
abbrev pub filter_fault_text : FilterFault → List ℕ
filter_fault_text (NotGrown place reason) = codes "shapes differ at " ++ decimal place
filter_fault_text OutOfMemory = codes "Out of memory"
