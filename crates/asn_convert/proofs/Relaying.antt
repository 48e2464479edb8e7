-- A value whose texts are read again is relayed from one notation to the other and back.
use Rattle.std.proofs.Common.{◌≡◌, ◌↔◌, ℕ, List, length, true, refl, sym, ap, ◌∙◌}
use Rattle.avn_grammar.specs.declared.limits.TheConstants.{LEVEL_LIMIT}
use Rattle.asn_core.specs.declared.codec.Codec.TheVariants.{Jer, Avn}
use Rattle.asn_codec.specs.Conversion.{IsConvertible}
use Rattle.asn_codec.specs.Texts.{DecodesOnlyTo, HasTree, IsShallow, ReadsBack, TextDecodesTo}
use Rattle.asn_traits.proofs.Written.{decodes_written, jer_tree, jer_writes}
use Rattle.asn_traits.specs.Canonical.{canonical_text, jer_data}
use Rattle.asn_traits.specs.Notation.{Notation}
use Rattle.asn_traits.specs.Readable.{is_readable}
use Rattle.asn_traits.specs.Shape.{Shape}
use Rattle.asn_traits.specs.Tree.{Tree}
use Rattle.asn_traits.specs.Value.{Fits, Value}
use Rattle.asn_traits.specs.Writable.{Writable}
use Rattle.asn_convert.specs.Made.{IsRelayed, TextLengths, report_lines}

-- the text in JER decodes to the value
pub first_read : (s : Shape) (v : Value) (jer : List ℕ) → is_readable s ≡ true → Fits s v → IsRelayed v → ReadsBack LEVEL_LIMIT Notation.jer v jer → TextDecodesTo LEVEL_LIMIT Notation.jer s jer v
first_read s v jer readable fits relayed back = record { tree = Tree.json (jer_data v); has = HasTree.json_tree (back relayed.nests); says = decodes_written Notation.jer jer_tree jer_writes readable fits relayed.jer }

-- what is said of the text of a value that was converted
pub record IsConverted (from to : Notation) (s : Shape) (input output : List ℕ) : Type 0 where
  pub again : (v : Value) → TextDecodesTo LEVEL_LIMIT from s input v → IsShallow LEVEL_LIMIT from to v → DecodesOnlyTo LEVEL_LIMIT to s output v
  pub equal : (v w : Value) → TextDecodesTo LEVEL_LIMIT from s input v → Fits s w → Writable to w → (canonical_text to w ≡ output) ↔ (w ≡ v)

-- the text in AVN decodes to the value
pub then_read : (s : Shape) (v : Value) (jer avn : List ℕ) → TextDecodesTo LEVEL_LIMIT Notation.jer s jer v → IsRelayed v → IsConverted Notation.jer Notation.avn s jer avn → TextDecodesTo LEVEL_LIMIT Notation.avn s avn v
then_read s v jer avn read relayed forth = let only = forth.again v read relayed.levels in only.says

pub to_avn : (s : Shape) (v : Value) (jer : List ℕ) → TextDecodesTo LEVEL_LIMIT Notation.jer s jer v → IsRelayed v → IsConvertible LEVEL_LIMIT Jer Avn s jer
to_avn s v jer read relayed = record { notation = tt; value = v; says = read; writable = relayed.avn }

pub to_jer : (s : Shape) (v : Value) (avn : List ℕ) → TextDecodesTo LEVEL_LIMIT Notation.avn s avn v → IsRelayed v → IsConvertible LEVEL_LIMIT Avn Jer s avn
to_jer s v avn read relayed = record { notation = tt; value = v; says = read; writable = relayed.jer }

-- the lengths of the three texts are those of the canonical ones
pub measured : (s : Shape) (v : Value) (jer avn back : List ℕ) (a b c : ℕ) → Fits s v → IsRelayed v → jer ≡ canonical_text Notation.jer v → TextDecodesTo LEVEL_LIMIT Notation.jer s jer v
    → IsConverted Notation.jer Notation.avn s jer avn → IsConverted Notation.avn Notation.jer s avn back → a ≡ length jer → b ≡ length avn → c ≡ length back → TextLengths v a b c
measured s v jer avn back a b c fits relayed is read forth home is_a is_b is_c =
    let second = then_read s v jer avn read relayed forth in
    record {
      of_jer = is_a ∙ ap length is;
      of_avn = is_b ∙ ap length (sym ((forth.equal v v read fits relayed.avn).1 refl));
      of_back = is_c ∙ ap length (sym ((home.equal v v second fits relayed.jer).1 refl));
    }

-- the lines on a document are by the lengths of its value's texts
pub lines_measured : (n jer avn back : ℕ) (v : Value) → TextLengths v jer avn back
    → report_lines n jer avn back ≡ report_lines n (length (canonical_text Notation.jer v)) (length (canonical_text Notation.avn v)) (length (canonical_text Notation.jer v))
lines_measured n jer avn back v t =
    ap (λ a. report_lines n a avn back) t.of_jer
    ∙ ap (λ b. report_lines n (length (canonical_text Notation.jer v)) b back) t.of_avn
    ∙ ap (report_lines n (length (canonical_text Notation.jer v)) (length (canonical_text Notation.avn v))) t.of_back
