-- What is not looked for too deep.
use Rattle.std.proofs.Common.{◌≡◌, ◌≢◌, ℕ, List, [], ◌∷◌, ◌++◌, sym, subst, ap, ◌∙◌}
use Rattle.avn_grammar.specs.declared.chars.CharClass.TheVariants as is
use Rattle.avn_grammar.proofs.OneTree.{same_item, lead_along}
use Rattle.avn_grammar.proofs.DeepParses.{number_comma, item_deep}
use Rattle.avn_grammar.specs.Chars.{class_of_next, skip, tail}
use Rattle.avn_grammar.specs.Depth.{ItemsExceedDepth, deep_here, deep_after_comma, deep_after_number}
use Rattle.avn_grammar.specs.Grammar.{BeginsNumber, AllIntegers, Item, ItemParses}

-- Past an item that stands.
pub deep_comma_only : {limit m : ℕ} {before : List Item} {u r next : List ℕ} {x : Item} → next ≡ tail (skip r) → ItemParses limit m u x r → class_of_next (skip r) ≡ is.Comma → ItemsExceedDepth limit m before u → ItemsExceedDepth limit m (before ++ (x ∷ [])) next
deep_comma_only {r = r} {x = x} p s c (deep_here k) = absurd (item_deep k x r s)
deep_comma_only {limit = limit} {m = m} {before = before} {next = next} {x = x} p s c (deep_after_comma {r = q} {x = y} k d e) =
    let f = same_item s k in
    subst (λ v. ItemsExceedDepth limit m (before ++ (v ∷ [])) next) (sym f.0) (subst (λ v. ItemsExceedDepth limit m (before ++ (y ∷ [])) v) (sym (p ∙ ap (λ v. tail (skip v)) f.1)) e)
deep_comma_only p s c (deep_after_number k a d e) = absurd (number_comma _ d (lead_along (same_item s k).1 c))

pub deep_number_only : {limit m : ℕ} {before : List Item} {u r next : List ℕ} {x : Item} → next ≡ skip r → ItemParses limit m u x r → BeginsNumber (class_of_next (skip r)) → ItemsExceedDepth limit m before u → ItemsExceedDepth limit m (before ++ (x ∷ [])) next
deep_number_only {r = r} {x = x} p s c (deep_here k) = absurd (item_deep k x r s)
deep_number_only p s c (deep_after_comma k d e) = absurd (number_comma _ c (lead_along (sym (same_item s k).1) d))
deep_number_only {limit = limit} {m = m} {before = before} {next = next} {x = x} p s c (deep_after_number {r = q} {x = y} k a d e) =
    let f = same_item s k in
    subst (λ v. ItemsExceedDepth limit m (before ++ (v ∷ [])) next) (sym f.0) (subst (λ v. ItemsExceedDepth limit m (before ++ (y ∷ [])) v) (sym (p ∙ ap skip f.1)) e)

-- An item, and nothing that may follow it.
pub stopped_deep : {limit m : ℕ} {before : List Item} {u r : List ℕ} {x : Item} → ItemParses limit m u x r → class_of_next (skip r) ≢ is.Comma → (BeginsNumber (class_of_next (skip r)) → AllIntegers (before ++ (x ∷ [])) → ⊥) → ItemsExceedDepth limit m before u → ⊥
stopped_deep {r = r} {x = x} s c f (deep_here k) = item_deep k x r s
stopped_deep s c f (deep_after_comma k d e) = c (lead_along (sym (same_item s k).1) d)
stopped_deep {before = before} s c f (deep_after_number k a d e) =
    let q = same_item s k in f (subst (λ v. BeginsNumber (class_of_next (skip v))) (sym q.1) d) (subst (λ v. AllIntegers (before ++ (v ∷ []))) (sym q.0) a)
