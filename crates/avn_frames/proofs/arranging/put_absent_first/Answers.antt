use Rattle.std.proofs.Common.{◌≡◌, ◌∷◌, ◌++◌, [], length, ap, ◌∙◌}
use Rattle.avn_frames.proofs.Rearranged.{first_stand, first_put}
use Rattle.avn_frames.proofs.Walking.{stand_all}
use Rattle.avn_frames.proofs.arranging.put_absent_first.Goals as goal

pub arrange-requires-clause-subtrees : goal.arrange-requires-clause-subtrees
arrange-requires-clause-subtrees c =
    let places = c.in_ok-places.places.items in
    let stand = stand_all c.args.nodes.now.nodes 0 places c.requires.slots c.in_ok-places.ensures in
    let order : c.deref.result.now ≡ length c.args.nodes.now.nodes ∷ places = c.deref.ensures.value ∙ c.in_ok-append.ensures.items ∙ ap (λ x. x ++ places) (c.in_ok-push.ensures.items ∙ ap (λ x. x ++ c.len.result ∷ []) c.new-order.ensures.items) ∙ ap (λ n. n ∷ places) c.len.ensures in
    first_stand c.args.nodes.now c.leaf.new.self places c.requires.nameless c.in_ok-leaf.ensures stand c.deref.result.now order

pub returns : goal.returns
returns c =
    let places = c.in_ok-places.places.items in
    let stand = stand_all c.args.nodes.now.nodes 0 places c.requires.slots c.in_ok-places.ensures in
    let order : c.deref.result.now ≡ length c.args.nodes.now.nodes ∷ places = c.deref.ensures.value ∙ c.in_ok-append.ensures.items ∙ ap (λ x. x ++ places) (c.in_ok-push.ensures.items ∙ ap (λ x. x ++ c.len.result ∷ []) c.new-order.ensures.items) ∙ ap (λ n. n ∷ places) c.len.ensures in
    first_put c.args.nodes.now c.leaf.new.self places c.requires.nameless c.in_ok-leaf.ensures stand c.arrange.result c.arrange.new.self c.deref.result.now order c.arrange.ensures
