-- The smallest tag of the alternatives of a choice.
use Rattle.std.proofs.Common.{◌≡◌, ◌∙◌, ap, sym, rules, Bor, ◌≤◌, ℕ, ◌+◌, ◌<◌, List, Option, None, length, map, take, get_or, fold}
use Rattle.std.proofs.lemmas.List.{get_or-map, length-map, take_all}
use Rattle.std.proofs.lemmas.List.Sums.{fold_more}
use Rattle.asn_core.specs.declared.tag.Tag.{Tag}
use Rattle.asn_core.specs.declared.tag_tree.TagTree.{TagTree, fold-roll-TagTree}
use Rattle.asn_core.specs.declared.tag_tree.TagTree.TheVariants.{rolls-Choice}
use Rattle.asn_core.specs.declared.tag_tree.TagTree.TheViews.{Choice}
use Rattle.asn_core.specs.Tags.{smallest, smaller_tag, level_tag}

-- The smallest tag of the first i trees and of the next one is that of the first i + 1.
pub one_more : (trees : List TagTree) (i : ℕ) (tree : TagTree) (least tag next : Option Tag) → i < length trees
    → least ≡ fold smaller_tag None (take i (map smallest trees)) → tree ≡ get_or trees i tree → tag ≡ smallest tree → next ≡ smaller_tag least tag
    → next ≡ fold smaller_tag None (take (i + 1) (map smallest trees))
one_more trees i tree least tag next within so_far here its_tag next_is =
    let step = fold_more smaller_tag None (map smallest trees) i (smallest tree) (rw (length-map trees smallest) within) in
    let there = get_or-map smallest trees i tree (smallest tree) within in cc

-- A choice has the smallest tag of its alternatives.
smallest-choice : (parts : Bor (List TagTree)) → smallest (Choice parts) ≡ fold smaller_tag None (map smallest parts.now)
smallest-choice parts = let layer = fold-roll-TagTree (Option Tag) level_tag in let rolled = rolls-Choice parts in search rules

-- After all its alternatives the smallest tag so far is that of the choice.
pub after_all : (parts : Bor (List TagTree)) (tree : TagTree) (i : ℕ) (least : Option Tag) → tree ≡ Choice parts → length parts.now ≤ i
    → least ≡ fold smaller_tag None (take i (map smallest parts.now)) → least ≡ smallest tree
after_all parts tree i least is past so_far =
    so_far ∙ ap (fold smaller_tag None) (take_all i (map smallest parts.now) (rw (length-map parts.now smallest) past)) ∙ sym (ap smallest is ∙ smallest-choice parts)
