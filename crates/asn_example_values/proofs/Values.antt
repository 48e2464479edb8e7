-- What is made as an example, and what it means that none is.
use Rattle.std.proofs.Common.{◌≡◌, sym, Bool, true, false, Option, Some, None}
use Rattle.std.specs.Prelude.{IfSome, IsNone, option_map}
use Rattle.asn_dynamic_values.specs.DynView.{dyn_value}
use Rattle.asn_dynamic_values.specs.declared.value.DynValue.{DynValue}
use Rattle.asn_example_values.specs.Examples.{example}
use Rattle.asn_example_values.proofs.Fitting.{example-fits}
use Rattle.asn_example_values.proofs.Lacking.{no_example}
use Rattle.asn_model.specs.Readable.{is_readable}
use Rattle.asn_model.specs.Shape.{Shape}
use Rattle.asn_model.specs.Value.{Fits, Value}

pub made-fits : (full : Bool) (s : Shape) (o : Option DynValue) → option_map dyn_value o ≡ example full false s → IfSome o (λ v. Fits s (dyn_value v))
made-fits full s (Some v) e = example-fits s full false (dyn_value v) (sym e)
made-fits full s None e = tt

pub none-fits : (full : Bool) (s : Shape) (o : Option DynValue) → is_readable s ≡ true → option_map dyn_value o ≡ example full false s → IsNone o → (v : Value) → Fits s v → ⊥
none-fits full s (Some v) read e none = let d : true ≡ false = none in cc d
none-fits full s None read e none = no_example full s read (sym e)
