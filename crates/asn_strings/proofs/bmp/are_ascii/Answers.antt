-- Each unit is tested in turn.
use Rattle.std.proofs.Common.{◌≡◌, ◌&&◌, ◌∙◌, Bool, true, ℕ, rules, tests}
use Rattle.std.proofs.lemmas.Iterator.{YieldsList-from_slice}
use Rattle.std.proofs.lemmas.Iterator.Consumers.{fold_from_yields_List}
use Rattle.std.specs.List.{fold}
use Rattle.asn_strings.specs.Alphabets.{is_ia5}
use Rattle.asn_strings.proofs.Places.{folds_within}
use Rattle.asn_strings.proofs.bmp.are_ascii.Goals as goal

pub returns : goal.returns
returns c =
    let test : Bool → ℕ → Bool = λ within unit. within && is_ia5 unit in
    let folded : c.fold.result ≡ fold test true c.args.units.now =
    fold_from_yields_List _ test true c.fold.result c.fold.ensures.ran
    (YieldsList-from_slice c.args.units.now c.iter.ensures.rest)
    (λ a x b q k. search (rules, tests)) in
    folded ∙ folds_within is_ia5 c.args.units.now true
