use Rattle.std.proofs.Common.{ap, ◌∙◌}
use Rattle.std.specs.List.{slice_get}
use Rattle.std.specs.Option.{option_and_then}
use Rattle.asn_modules_names.specs.imports.Tables.{modules_of}
use Rattle.asn_modules_names.proofs.imports.Finding.{titled}
use Rattle.asn_modules_names.proofs.imports.index.ExportIndex.module_named.Goals as goal

pub returns : goal.returns
returns c =
    let ms = modules_of c.args.self.now in
    ap (option_and_then (slice_get ms)) (c.copied.ensures ∙ c.get.ensures.value ∙ c.requires.titles c.args.name) ∙ titled c.args.name.now ms
