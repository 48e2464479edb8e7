use Rattle.std.proofs.Common.{ap, ◌∙◌}
use Rattle.asn_modules_types.specs.Defaults.{number_or}
use Rattle.asn_modules_types.specs.Known.{scope_view}
use Rattle.asn_modules_types.specs.Numbers.{number_at}
use Rattle.asn_modules_types.specs.declared.limits.TheConstants.{NAME_LIMIT}
use Rattle.asn_modules_types.proofs.defaults.number_default.Goals as goal

pub returns-in-None : goal.returns-in-None
returns-in-None c =
    c.number_at.ensures NAME_LIMIT ∙ ap (λ o. number_or o (number_at (scope_view NAME_LIMIT c.args.scope.now) c.args.value)) c.in-None.ensures
