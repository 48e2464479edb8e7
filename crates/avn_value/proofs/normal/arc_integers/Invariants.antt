use Rattle.std.proofs.Common.{◌≡◌, take, map}
use Rattle.std.specs.Fmt.{decimal}
use Rattle.avn_grammar.specs.Tree.{integer}
use Rattle.avn_value.specs.View.{tree_of}
use Rattle.avn_value.proofs.normal.arc_integers.Given as goal

abbrev pub invariant-loop-arc : goal.invariant-loop-arc
invariant-loop-arc l = map tree_of l.integers.items ≡ map (λ a. integer (decimal a)) (take l.arc-index l.arc-items)
