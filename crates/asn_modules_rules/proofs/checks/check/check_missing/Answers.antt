use Rattle.std.proofs.Common.{ap, map, subst, sym, ◌∙◌}
use Rattle.std.proofs.lemmas.Result.{err_from_is_err_and}
use Rattle.std.specs.Option.{option_or}
use Rattle.asn_modules_rules.specs.checks.Checks.{first_in_assigned}
use Rattle.asn_modules_names.specs.imports.Imported.{first_import_fault}
use Rattle.asn_modules_names.specs.lookup.Homes.{home_view}
use Rattle.asn_modules_names.specs.declared.lookup.sort.Sort.TheVariants.{Types}
use Rattle.asn_modules_names.proofs.Founds.{tells_first}
use Rattle.asn_modules_names.specs.Faults.{Tells}
use Rattle.asn_modules_names.specs.Mentions.{source_view}
use Rattle.asn_modules_names.specs.lookup.Homes as homes
use Rattle.asn_modules_names.specs.references.References.{first_unknown}
use Rattle.asn_modules_rules.proofs.checks.check.check_missing.Goals as goal

pub returns-in_err-check_references : goal.returns-in_err-check_references
returns-in_err-check_references c =
    let ss = map source_view c.args.sources.now in
    let unknown = first_unknown Types ss 0 (homes.homes ss) in
    let e = c.in_err-check_references.field-0.0 in
    let p = err_from_is_err_and c.from_residual-in_err-check_references.result c.from_residual-in_err-check_references.ensures.1 in
    rw (p.1, p.2)
    (subst (λ o. Tells (option_or o (option_or unknown (first_in_assigned ss))) e) (sym (sym (ap first_import_fault (ap (map home_view) c.as_slice.ensures.value ∙ c.in_ok-homes.ensures)) ∙ c.in_ok-check_imports.ensures))
    (tells_first unknown (first_in_assigned ss) e
    (subst (λ l. Tells (first_unknown Types ss 0 l) e) (ap (map home_view) c.as_slice-2.ensures.value ∙ c.in_ok-homes.ensures) (c.in_err-check_references.ensures ss c.in_ok-index.ensures))))
