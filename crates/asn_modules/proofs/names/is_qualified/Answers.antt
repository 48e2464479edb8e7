use Rattle.std.proofs.Common.{◌≡◌, ◌++◌, ◌∷◌, [], None, Some, ap, sym, ◌∙◌}
use Rattle.std.proofs.lemmas.Bool.Decides.{Decides-eqb}
use Rattle.std.proofs.lemmas.Slice.Eq.{strip_prefix_is}
use Rattle.asn_modules.proofs.Naming.{behind_home, other_text}
use Rattle.asn_modules.proofs.names.is_qualified.Goals as goal

pub returns-in_default : goal.returns-in_default
returns-in_default c =
    let text = c.args.text.now in
    other_text text _ (strip_prefix_is Decides-eqb text c.args.home.now None c.in_default.ensures.cases (46 ∷ c.args.name.now))

pub returns-in-Some-strip_prefix : goal.returns-in-Some-strip_prefix
returns-in-Some-strip_prefix c =
    let text = c.args.text.now in
    let home = c.args.home.now in
    let rest = c.in-Some.rest.now in
    let dot : c.as_slice.result.now ≡ 46 ∷ [] = c.as_slice.ensures in
    let found = strip_prefix_is Decides-eqb text home (Some c.in-Some.rest) c.in-Some.ensures.cases in
    let pointed = strip_prefix_is Decides-eqb rest c.as_slice.result.now (Some c.in-Some-strip_prefix.rest) c.in-Some-strip_prefix.ensures.cases in
    c.eq.ensures ∙ sym (behind_home text home rest (46 ∷ c.args.name.now) found ∙ behind_home rest (46 ∷ []) c.in-Some-strip_prefix.rest.now c.args.name.now (pointed ∙ ap (λ l. l ++ c.in-Some-strip_prefix.rest.now) dot))

pub returns-in-None : goal.returns-in-None
returns-in-None c =
    let text = c.args.text.now in
    let home = c.args.home.now in
    let rest = c.in-Some.rest.now in
    let dot : c.as_slice.result.now ≡ 46 ∷ [] = c.as_slice.ensures in
    let found = strip_prefix_is Decides-eqb text home (Some c.in-Some.rest) c.in-Some.ensures.cases in
    let none = strip_prefix_is Decides-eqb rest c.as_slice.result.now None c.in-None.ensures.cases in
    other_text rest (46 ∷ c.args.name.now) (λ e. none c.args.name.now (e ∙ ap (λ l. l ++ c.args.name.now) (sym dot))) ∙ sym (behind_home text home rest (46 ∷ c.args.name.now) found)
