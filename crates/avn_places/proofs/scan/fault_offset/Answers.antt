use Rattle.std.proofs.Common.{◌-◌, length, take, ◌≡◌, false, ◌∙◌, ◌∷◌, ◌++◌, [], ap, arith, rules, subst, sym}
use Rattle.avn_places.specs.Braces.{new_braces}
use Rattle.avn_places.specs.Places.{innermost, outer}
use Rattle.avn_places.specs.declared.turn.Expected.TheVariants as expected
use Rattle.avn_places.proofs.Rests.{Leads, falls_holding, falls_in, falls_on, falls_out, leads_holding, leads_in, leads_on, leads_out, leads_to_fault, rest_le, fault_rest, turned}
use Rattle.avn_places.proofs.scan.fault_offset.Goals as goal

pub overflow_sub-result : goal.overflow_sub-result
overflow_sub-result c =
    let inner = c.copied-innermost.ensures ∙ c.last.ensures.value ∙ ap innermost c.deref.ensures.value in
    let k = turned c.turns.rest.now c.past_run.result.now c.turn-then.result.1.now c.turns.opened.items c.copied-innermost.result c.turns.expected c.turn-then.result.0 _ c.past_run.utf8 c.past_run.ensures inner c.turn-then.ensures c.in-Fault.is in
    rest_le c.args.text.now c.turn-then.result.1.now (fault_rest c.args.text.now c.turns.rest.now c.turn-then.result.1.now c.turns.opened.items c.turns.expected c.turns.invariant.1 k)

pub returns-in-Fault : goal.returns-in-Fault
returns-in-Fault c =
    let inner = c.copied-innermost.ensures ∙ c.last.ensures.value ∙ ap innermost c.deref.ensures.value in
    let k = turned c.turns.rest.now c.past_run.result.now c.turn-then.result.1.now c.turns.opened.items c.copied-innermost.result c.turns.expected c.turn-then.result.0 _ c.past_run.utf8 c.past_run.ensures inner c.turn-then.ensures c.in-Fault.is in
    leads_to_fault c.args.text.now c.turns.rest.now c.turn-then.result.1.now c.turns.opened.items c.turns.expected (search rules) c.turns.invariant.1 k

pub turns-smaller-in-On : goal.turns-smaller-in-On
turns-smaller-in-On c =
    let inner = c.copied-innermost.ensures ∙ c.last.ensures.value ∙ ap innermost c.deref.ensures.value in
    let k = turned c.turns.rest.now c.past_run.result.now c.turn-then.result.1.now c.turns.opened.items c.copied-innermost.result c.turns.expected c.turn-then.result.0 _ c.past_run.utf8 c.past_run.ensures inner c.turn-then.ensures c.in-On.is in
    falls_on c.turns.rest.now c.turn-then.result.1.now c.turns.opened.items c.turns.expected c.in-On.next k

pub turns-preserved-in-On : goal.turns-preserved-in-On
turns-preserved-in-On c =
    let inner = c.copied-innermost.ensures ∙ c.last.ensures.value ∙ ap innermost c.deref.ensures.value in
    let k = turned c.turns.rest.now c.past_run.result.now c.turn-then.result.1.now c.turns.opened.items c.copied-innermost.result c.turns.expected c.turn-then.result.0 _ c.past_run.utf8 c.past_run.ensures inner c.turn-then.ensures c.in-On.is in
    (search rules, leads_on c.args.text.now c.turns.rest.now c.turn-then.result.1.now c.turns.opened.items c.turns.expected c.in-On.next c.turns.invariant.1 k)

pub turns-smaller-in_ok-push-in-Opens : goal.turns-smaller-in_ok-push-in-Opens
turns-smaller-in_ok-push-in-Opens c =
    let inner = c.copied-innermost.ensures ∙ c.last.ensures.value ∙ ap innermost c.deref.ensures.value in
    let k = turned c.turns.rest.now c.past_run.result.now c.turn-then.result.1.now c.turns.opened.items c.copied-innermost.result c.turns.expected c.turn-then.result.0 _ c.past_run.utf8 c.past_run.ensures inner c.turn-then.ensures c.in-Opens.is in
    falls_in c.turns.rest.now c.turn-then.result.1.now c.turns.opened.items c.turns.expected k

pub turns-preserved-in_ok-push-in-Opens : goal.turns-preserved-in_ok-push-in-Opens
turns-preserved-in_ok-push-in-Opens c =
    let inner = c.copied-innermost.ensures ∙ c.last.ensures.value ∙ ap innermost c.deref.ensures.value in
    let k = turned c.turns.rest.now c.past_run.result.now c.turn-then.result.1.now c.turns.opened.items c.copied-innermost.result c.turns.expected c.turn-then.result.0 _ c.past_run.utf8 c.past_run.ensures inner c.turn-then.ensures c.in-Opens.is in
    let same : c.push.new.self.items ≡ c.turns.opened.items ++ new_braces ∷ [] = c.in_ok-push-in-Opens.ensures.items ∙ ap (λ b. c.turns.opened.items ++ b ∷ []) c.new.ensures in
    (search rules, subst (λ os. Leads c.args.text.now os expected.Item c.turn-then.result.1.now) (sym same) (leads_in c.args.text.now c.turns.rest.now c.turn-then.result.1.now c.turns.opened.items c.turns.expected c.turns.invariant.1 k))

pub turns-smaller-in_ok-push-in-Holds : goal.turns-smaller-in_ok-push-in-Holds
turns-smaller-in_ok-push-in-Holds c =
    let inner = c.copied-innermost.ensures ∙ c.last.ensures.value ∙ ap innermost c.deref.ensures.value in
    let k = turned c.turns.rest.now c.past_run.result.now c.turn-then.result.1.now c.turns.opened.items c.copied-innermost.result c.turns.expected c.turn-then.result.0 _ c.past_run.utf8 c.past_run.ensures inner c.turn-then.ensures c.in-Holds.is in
    falls_holding c.turns.rest.now c.turn-then.result.1.now c.turns.opened.items c.in-Holds.braces c.turns.expected c.in-Holds.next k

pub turns-preserved-in_ok-push-in-Holds : goal.turns-preserved-in_ok-push-in-Holds
turns-preserved-in_ok-push-in-Holds c =
    let inner = c.copied-innermost.ensures ∙ c.last.ensures.value ∙ ap innermost c.deref.ensures.value in
    let k = turned c.turns.rest.now c.past_run.result.now c.turn-then.result.1.now c.turns.opened.items c.copied-innermost.result c.turns.expected c.turn-then.result.0 _ c.past_run.utf8 c.past_run.ensures inner c.turn-then.ensures c.in-Holds.is in
    let count = sym c.deref.ensures.len ∙ ap (λ x. length x) c.deref.ensures.value in
    let same : c.push-in-Holds.new.self.items ≡ outer c.turns.opened.items ++ c.in-Holds.braces ∷ [] = c.in_ok-push-in-Holds.ensures.items ∙ ap (λ os. os ++ c.in-Holds.braces ∷ []) (c.pop-before.ensures.rest ∙ ap (λ n. take (n - 1) c.turns.opened.items) count) in
    (search rules, subst (λ os. Leads c.args.text.now os c.in-Holds.next c.turn-then.result.1.now) (sym same) (leads_holding c.args.text.now c.turns.rest.now c.turn-then.result.1.now c.turns.opened.items c.in-Holds.braces c.turns.expected c.in-Holds.next c.turns.invariant.1 k))

pub turns-smaller : goal.turns-smaller
turns-smaller c =
    let inner = c.copied-innermost.ensures ∙ c.last.ensures.value ∙ ap innermost c.deref.ensures.value in
    let k = turned c.turns.rest.now c.past_run.result.now c.turn-then.result.1.now c.turns.opened.items c.copied-innermost.result c.turns.expected c.turn-then.result.0 _ c.past_run.utf8 c.past_run.ensures inner c.turn-then.ensures c.in-Closes.is in
    falls_out c.turns.rest.now c.turn-then.result.1.now c.turns.opened.items c.turns.expected k

pub turns-preserved : goal.turns-preserved
turns-preserved c =
    let inner = c.copied-innermost.ensures ∙ c.last.ensures.value ∙ ap innermost c.deref.ensures.value in
    let k = turned c.turns.rest.now c.past_run.result.now c.turn-then.result.1.now c.turns.opened.items c.copied-innermost.result c.turns.expected c.turn-then.result.0 _ c.past_run.utf8 c.past_run.ensures inner c.turn-then.ensures c.in-Closes.is in
    let count = sym c.deref.ensures.len ∙ ap (λ x. length x) c.deref.ensures.value in
    let same : c.pop-closed.new.self.items ≡ outer c.turns.opened.items = c.pop-closed.ensures.rest ∙ ap (λ n. take (n - 1) c.turns.opened.items) count in
    (search rules, subst (λ os. Leads c.args.text.now os (expected.Behind false) c.turn-then.result.1.now) (sym same) (leads_out c.args.text.now c.turns.rest.now c.turn-then.result.1.now c.turns.opened.items c.turns.expected c.turns.invariant.1 k))
