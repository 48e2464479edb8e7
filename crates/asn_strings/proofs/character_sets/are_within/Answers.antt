-- Each octet is tested in turn.
use Rattle.std.proofs.Common.{◌≡◌, ◌&&◌, ◌∙◌, Bool, true, ℕ, rules, tests}
use Rattle.std.proofs.lemmas.Iterator.{YieldsList-from_slice}
use Rattle.std.proofs.lemmas.Iterator.Consumers.{fold_from_yields_List}
use Rattle.std.specs.List.{fold}
use Rattle.asn_strings.proofs.Places.{folds_within}
use Rattle.asn_strings.proofs.character_sets.are_within.Goals as goal

pub returns : goal.returns
returns g c =
    let alphabet = g.C.CharacterSet.alphabet in
    let test : Bool → ℕ → Bool = λ within octet. within && alphabet octet in
    let folded : c.fold.result ≡ fold test true c.args.octets.now =
    fold_from_yields_List _ test true c.fold.result c.fold.ensures.ran
    (YieldsList-from_slice c.args.octets.now c.iter.ensures.rest)
    (λ a x b q k. search (rules, tests)) in
    folded ∙ folds_within alphabet c.args.octets.now true
