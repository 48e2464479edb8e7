use Rattle.std.proofs.Common.{◌≡◌, ◌∙◌, ap, string_bytes, drop, Some}
use Rattle.std.proofs.lemmas.Str.{IsCharBoundary-from_take, IsUtf8-string_bytes}
use Rattle.std.proofs.lemmas.Result.{on_ok_weaker}
use Rattle.avn_grammar.specs.Grammar.{word_of}
use Rattle.avn_nodes.specs.NodeViews.{kind_of}
use Rattle.avn_nodes.proofs.Extending.{extended-word}
use Rattle.avn_nodes.proofs.nodes.Nodes.word_leaf.Goals as goal

pub range_from-requires : goal.range_from-requires
range_from-requires c = λ h.
    rw c.as_str.ensures.value (IsCharBoundary-from_take (string_bytes c.self.inside.text) c.self.inside.word (IsUtf8-string_bytes c.self.inside.text) c.self.invariant.1.within c.self.invariant.1.to)

pub returns : goal.returns
returns c =
    let w : c.range_from.result.now ≡ c.args.self.now.word = c.range_from.ensures.value ∙ ap (drop c.self.inside.word) c.as_str.ensures.value ∙ ap (λ s. s.word) c.self.view_is in
    let k : c.word_kind-kind.result ≡ kind_of (Some (word_of c.args.self.now.word)) = c.word_kind-kind.ensures.kind ∙ ap (λ x. kind_of (Some (word_of x))) w in
    on_ok_weaker c.leaf.result (λ e. e ∙ extended-word c.args.self.now c.word_kind-kind.result k) c.leaf.ensures
