use Rattle.std.proofs.Common.{◌∙◌, ap, map}
use Rattle.std.proofs.lemmas.Result.{err_from_is_err_and}
use Rattle.asn_modules.specs.Names.{type_names}
use Rattle.asn_modules.proofs.Naming.{named-counted}
use Rattle.asn_modules.proofs.Reading.{none_unbroken}
use Rattle.asn_modules_rules.specs.checks.Checks.{first_broken}
use Rattle.asn_modules_names.specs.Mentions.{source_view}
use Rattle.asn_modules_names.proofs.Founds.{tells_at}
use Rattle.asn_modules_names.specs.sources.Reading.{named_view}
use Rattle.asn_modules_types.specs.Linked.{linked_types}
use Rattle.asn_modules.proofs.read.read_modules.Goals as goal

pub returns-in_err-check_all-clause-none : goal.returns-in_err-check_all-clause-none
returns-in_err-check_all-clause-none c =
    let p = err_from_is_err_and c.from_residual-in_err-check_all.result c.from_residual-in_err-check_all.ensures.1 in
    rw (p.1, p.2) (none_unbroken (map named_view c.args.texts.now) (map source_view c.in_ok-sources.sources.items) _ c.in_ok-sources.ensures.ok
    (tells_at (λ l. first_broken (map source_view l)) _ _ _ c.as_slice.ensures.value c.in_err-check_all.ensures))

pub new-requires-clause-named : goal.new-requires-clause-named
new-requires-clause-named c =
    named-counted (map source_view c.in_ok-sources.sources.items) c.in_ok-names.names.items c.in-Ok.types.items (c.in_ok-names.ensures ∙ ap (λ l. type_names (map source_view l)) c.as_slice-3.ensures.value)
    (c.in-Ok.ensures.types ∙ ap (λ l. linked_types (map source_view l)) c.as_slice-5.ensures.value)
