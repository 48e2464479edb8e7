use Rattle.std.proofs.Common.{rules, ◌++◌, [], ◌∙◌, refl}
use Rattle.std.proofs.lemmas.Grind.{put_two}
use Rattle.std.specs.Slice.Iter.{chunks_rest}
use Rattle.avn_grammar.specs.Octets.{hex_text}
use Rattle.avn_nodes.proofs.DigitRows.{chunk-next}
use Rattle.avn_nodes.proofs.Rows.{was_ok}
use Rattle.avn_nodes.proofs.digits.write_hex.Goals as goal

pub loop-chunk-init : goal.loop-chunk-init
loop-chunk-init g c = ([], (λ p. search rules), search rules, search rules)

pub loop-chunk-preserved : goal.loop-chunk-preserved
loop-chunk-preserved g c =
    let was = c.loop-chunk.invariant in
    let step = c.in-Some.ensures.steps in
    let chunk = c.in-Some.chunk.now in (
      was.0 ++ hex_text chunk,
      (λ p. let h = was.1 p in put_two g.W.Write.write_str_gives _ _ _ _ _ _ h (c.write_chunk.ensures h.plain (was_ok _ _ c.in_ok-write_chunk.was)) refl),
      chunk-next was.0 (chunks_rest c.loop-chunk.chunk-iterator) chunk (chunks_rest c.next.new.self) _ was.2 step.1.0,
      step.0 ∙ was.3,
    )
