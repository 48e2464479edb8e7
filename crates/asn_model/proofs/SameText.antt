-- Values of a shape that can be read whose canonical texts are equal are equal.
use Rattle.std.proofs.Common.{◌≡◌, sym, subst, arith, max, Some, true}
use Rattle.std.specs.Str.{chars}
use Rattle.avn_grammar.specs.Depth.{deepest}
use Rattle.avn_grammar.specs.Grammar.{ParsesWhole}
use Rattle.avn_grammar.specs.Normal.{normal}
use Rattle.avn_grammar.specs.Print.{print}
use Rattle.avn_grammar.specs.Tree.{Tree as AvnTree}
use Rattle.avn_grammar.specs.WellFormed.{is_well_formed}
use Rattle.avn_grammar.proofs.OneTree.{same_parses}
use Rattle.avn_grammar.proofs.WholePrinted.{reads_whole}
use Rattle.asn_model.specs.Canonical.{avn_tree, canonical_text}
use Rattle.asn_model.specs.Notation.{Notation, IsText}
use Rattle.asn_model.specs.Readable.{is_readable}
use Rattle.asn_model.specs.DecodesTo.{DecodesTo}
use Rattle.asn_model.specs.Shape.{Shape}
use Rattle.asn_model.specs.Tree.{Tree}
use Rattle.asn_model.specs.Value.{Value, Fits}
use Rattle.asn_model.specs.Writable.{Writable}
use Rattle.asn_model.proofs.JerTexts.{jer_data-same}
use Rattle.asn_model.proofs.Meanings.{one}
use Rattle.asn_model.proofs.Written.{decodes_written, jer_tree, jer_writes}
use Rattle.asn_model.proofs.WrittenAvn.{avn_writes, read_tree, well-formed}

-- Well-formed trees that are printed as one text have one normal form.
normal-same : (t u : AvnTree) → is_well_formed t ≡ true → is_well_formed u ≡ true → print 0 t ≡ print 0 u → normal t ≡ normal u
normal-same t u h k same =
    let limit = max (deepest 0 t) (deepest 0 u) in
    let first = subst (λ x. ParsesWhole limit (chars x) (normal t)) same (reads_whole limit 0 t h (omega arith)) in
    let second = reads_whole limit 0 u k (omega arith) in
    (same_parses first.1 second.1).0

pub same_text : (n : Notation) (s : Shape) (v w : Value) → IsText n → is_readable s ≡ true → Fits s v → Fits s w → Writable n v → Writable n w → canonical_text n v ≡ canonical_text n w → v ≡ w
same_text Notation.jer s v w text a fit_v fit_w can_v can_w same =
    one tt (decodes_written Notation.jer jer_tree jer_writes a fit_v can_v)
    (subst (λ d. DecodesTo Notation.jer s (Some (Tree.json d)) w) (sym (jer_data-same v w can_v can_w same)) (decodes_written Notation.jer jer_tree jer_writes a fit_w can_w))
same_text Notation.avn s v w text a fit_v fit_w can_v can_w same =
    one tt (decodes_written Notation.avn read_tree avn_writes a fit_v can_v)
    (subst (λ t. DecodesTo Notation.avn s (Some (Tree.avn t)) w) (sym (normal-same (avn_tree v) (avn_tree w) (well-formed a fit_v can_v) (well-formed a fit_w can_w) same)) (decodes_written Notation.avn read_tree avn_writes a fit_w can_w))
same_text Notation.other s v w text a fit_v fit_w can_v can_w same = absurd text
