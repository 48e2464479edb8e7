-- Texts that are refused are no modules.
use Rattle.std.proofs.Common.{◌≡◌, List, None, ap, subst, ◌∙◌}
use Rattle.asn_modules.specs.Modules.{Modules}
use Rattle.asn_modules.specs.Reading.{AreModules}
use Rattle.asn_modules_rules.specs.checks.Checks.{first_broken}
use Rattle.asn_modules_errors.specs.declared.error.ModuleError.{ModuleError}
use Rattle.asn_modules_errors.specs.declared.error.ModuleError.TheVariants as error
use Rattle.asn_modules_names.specs.Faults.{Tells}
use Rattle.asn_modules_names.specs.Mentions.{Source}
use Rattle.asn_modules_names.specs.sources.Reading.{AreRead, Named}
use Rattle.asn_modules_names.proofs.sources.Same.{same_sources}
use Rattle.asn_modules_reader.specs.text.Texts.{IsRefused}

-- Where nothing is reported, nothing is refused.
nothing_told : (e : ModuleError) → Tells None e → IsRefused e → ⊥
nothing_told (error.Refused file place why) told r = told
nothing_told error.OutOfMemory told r = r

-- A rule that is broken is broken however the texts are read.
pub none_unbroken : (texts : List Named) (sources : List Source) (e : ModuleError) → AreRead texts sources → Tells (first_broken sources) e → IsRefused e → (m : Modules) → AreModules texts m → ⊥
none_unbroken texts sources e read told r m is =
    let same : sources ≡ is.sources = same_sources texts sources is.sources read is.read in
    nothing_told e (subst (λ o. Tells o e) (ap first_broken same ∙ is.unbroken) told) r
