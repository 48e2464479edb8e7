-- The texts of causes.
use Rattle.std.specs.Prelude.{ℕ, List, ◌++◌, codes, decimal, string_bytes, Some, None}
use Rattle.asn_modules_errors.specs.Expectations.{expected_text}
use Rattle.asn_modules_errors.specs.LeftOuts.{left_out_text}
use Rattle.asn_modules_errors.specs.NoTokens.{no_token_text}
use Rattle.asn_modules_errors.specs.declared.cause.Cause.{Cause}
use Rattle.asn_modules_errors.specs.declared.cause.Cause.TheVariants as cause
use Rattle.asn_modules_errors.specs.declared.cause.NameRule.{NameRule}
use Rattle.asn_modules_errors.specs.declared.cause.NameRule.TheVariants as rule

abbrev pub rule_text : NameRule → List ℕ
rule_text rule.AssignedTwice = codes "is assigned twice in its module"
rule_text rule.ModuleTwice = codes "is the name of two modules"
rule_text rule.ListedTwice = codes "stands twice in its list"
rule_text rule.NumberTwice = codes "has the number of another item"
rule_text rule.NumberNotRising = codes "has a number below that of an addition before it"
rule_text rule.BitTwice = codes "has the number of another bit"
rule_text rule.BitNegative = codes "has a negative number"
rule_text rule.NotExported = codes "isn't exported by its module"
rule_text rule.NotHeld =
    codes "is neither assigned nor imported by the module that it is imported from"
rule_text rule.OwnImport = codes "is imported by a module from itself"
rule_text rule.NotAssigned = codes "is neither assigned nor imported"
rule_text rule.NoValue = codes "leads to no value"
rule_text rule.TooLarge = codes "is too large for COMPONENTS OF"

abbrev pub cause_text : Cause → List ℕ
cause_text (cause.NoToken fault) = no_token_text fault
cause_text (cause.Unexpected (Some met) expected) =
    codes "expected "
    ++ (expected_text expected ++ (codes ", met `" ++ (string_bytes met ++ codes "`")))
cause_text (cause.Unexpected None expected) =
    codes "expected " ++ (expected_text expected ++ codes ", met the end of the text")
cause_text (cause.LeftOut part) = left_out_text part ++ codes " aren't read"
cause_text (cause.Name rule name) =
    codes "`" ++ (string_bytes name ++ (codes "` " ++ rule_text rule))
