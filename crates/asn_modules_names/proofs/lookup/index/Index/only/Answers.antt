use Rattle.std.proofs.Common.{ap, ◌∙◌}
use Rattle.std.specs.Str.{bytes_eq}
use Rattle.asn_modules_names.specs.lookup.Lookup.{if_same, last_of, named}
use Rattle.asn_modules_names.proofs.lookup.index.Index.only.Goals as goal

pub returns : goal.returns
returns c = λ sort ss is.
    c.if_same.ensures
    ∙ ap (λ o. if_same o c.copied-first.result) (c.copied-last.ensures ∙ c.get.ensures.value ∙ is.last c.args.name)
    ∙ ap (λ o. if_same (last_of bytes_eq (named sort ss) c.args.name.now) o) (c.copied-first.ensures ∙ c.get-2.ensures.value ∙ is.first c.args.name)
