use Rattle.avn_places.proofs.Fronts.{apostrophe_splits}
use Rattle.avn_places.proofs.tokens.past_apostrophe.Goals as goal

pub returns : goal.returns
returns c = apostrophe_splits c.args.text.now c.split_once.result c.split_once.ensures.cases
