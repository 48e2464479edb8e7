-- What is written is read again.
use Rattle.std.proofs.Common.{◌≡◌, ◌≤◌, ◌<◌, ◌↔◌, ap, sym, ◌∙◌, subst, ℕ, List, Option, Some, true}
use Rattle.std.specs.Prelude.{IsUtf8}
use Rattle.std.specs.Str.{chars}
use Rattle.serde_json.specs.Data.{Data, depth}
use Rattle.serde_json.specs.Read.{read, max_depth}
use Rattle.std.proofs.Math.Nat.{le_trans}
use Rattle.serde_json.proofs.Nesting.{depth-read}
use Rattle.avn_grammar.specs.Depth.{ExceedsDepth, deepest}
use Rattle.avn_grammar.proofs.OneTree.{same_parses}
use Rattle.asn_core.specs.declared.codec.Codec.{Codec}
use Rattle.asn_fault.specs.EncodeCause.{EncodeCause}
use Rattle.asn_coding.proofs.Whole.{not_blocked}
use Rattle.asn_core.specs.declared.codec.Codec.TheVariants.{Avn}
use Rattle.asn_traits.specs.Canonical.{jer_data, avn_tree, canonical_text}
use Rattle.asn_traits.specs.Notation.{Notation, IsText, notation_of}
use Rattle.asn_traits.specs.Readable.{is_readable}
use Rattle.asn_traits.specs.DecodesTo.{DecodesTo}
use Rattle.asn_traits.specs.Shape.{Shape}
use Rattle.asn_traits.specs.Tree.{Tree}
use Rattle.asn_traits.specs.Value.{Value, Fits}
use Rattle.asn_traits.specs.Writable.{Writable}
use Rattle.asn_model.proofs.DecodedJson.{avn-writable, decoded-can}
use Rattle.asn_model.proofs.JsonRead.{text-held}
use Rattle.asn_traits.proofs.Meanings.{one}
use Rattle.asn_traits.proofs.Nesting.{decodes-depth}
use Rattle.asn_traits.proofs.SameText.{same_text}
use Rattle.asn_traits.proofs.Written.{decodes_written, jer_tree, jer_writes}
use Rattle.asn_traits.proofs.WrittenAvn.{read_tree, avn_writes}
use Rattle.jer_rules.specs.Text as jer
use Rattle.asn_codec.specs.Texts.{HasTree, TextDecodesTo, DecodesOnlyTo, ReadsBack, IsShallow, IsUnencodable}

same_data : (text : List ℕ) (d e : Data) → jer.IsJer text d → jer.IsJer text e → d ≡ e
same_data text d e h k = let x : ◌≡◌ {A = Option Data} (Some d) (Some e) = sym h.0 ∙ k.0 in cc x

-- A text has at most one tree.
pub one_tree : (limit : ℕ) (n : Notation) (text : List ℕ) (t u : Tree) → HasTree limit n text t → HasTree limit n text u → t ≡ u
one_tree limit n text t u (HasTree.json_tree {d = d} h) (HasTree.json_tree {d = e} k) = ap Tree.json (same_data text d e h k)
one_tree limit n text t u (HasTree.avn_tree h) (HasTree.avn_tree k) = ap Tree.avn (same_parses h.1 k.1).0

-- A text decodes to at most one value.
one_said : (limit : ℕ) (n : Notation) (s : Shape) (text : List ℕ) (v w : Value) → IsText n → TextDecodesTo limit n s text v → TextDecodesTo limit n s text w → v ≡ w
one_said limit n s text v w is h k = one is h.says (subst (λ t. DecodesTo n s (Some t) w) (one_tree limit n text k.tree h.tree k.has h.has) k.says)

alone : (limit : ℕ) (n : Notation) (s : Shape) (text : List ℕ) (v : Value) → IsText n → TextDecodesTo limit n s text v → DecodesOnlyTo limit n s text v
alone limit n s text v is h = record { says = h; alone = λ w k. one_said limit n s text w v is k h }

-- What is written for a value that a JSON text decodes to nests no deeper than JSON is read.
never_deep : (limit : ℕ) (s : Shape) (text : List ℕ) (v : Value) → TextDecodesTo limit Notation.jer s text v → depth (jer_data v) ≤ max_depth
never_deep limit s text v h = within h.has h.says
  where
    within : {t : Tree} → HasTree limit Notation.jer text t → DecodesTo Notation.jer s (Some t) v → depth (jer_data v) ≤ max_depth
    within (HasTree.json_tree {d = d} is) says = le_trans (decodes-depth says) (depth-read text d is.0)

json_again : (limit : ℕ) (s : Shape) (v : Value) (text : List ℕ) → is_readable s ≡ true → Fits s v → Writable Notation.jer v → ReadsBack limit Notation.jer v text → depth (jer_data v) ≤ max_depth → DecodesOnlyTo limit Notation.jer s text v
json_again limit s v text read fit can back shallow =
    alone limit Notation.jer s text v tt (record { tree = jer_tree v; has = HasTree.json_tree (back shallow); says = decodes_written Notation.jer jer_tree jer_writes read fit can })

-- The text of a value that can be written decodes to that value alone, unless it nests too deep.
pub again : (limit : ℕ) (from to : Notation) (s : Shape) (v : Value) (input text : List ℕ) → is_readable s ≡ true → Fits s v → Writable to v → ReadsBack limit to v text → TextDecodesTo limit from s input v → IsShallow limit from to v → DecodesOnlyTo limit to s text v
again limit Notation.jer Notation.jer s v input text read fit can back says shallow = json_again limit s v text read fit can back (never_deep limit s input v says)
again limit Notation.avn Notation.jer s v input text read fit can back says shallow = json_again limit s v text read fit can back shallow
again limit Notation.other Notation.jer s v input text read fit can back says shallow = json_again limit s v text read fit can back shallow
again limit from Notation.avn s v input text read fit can back says shallow =
    alone limit Notation.avn s text v tt (record { tree = read_tree v; has = HasTree.avn_tree (back.again shallow); says = decodes_written Notation.avn read_tree avn_writes read fit can })
again limit from Notation.other s v input text read fit can back says shallow = absurd shallow

-- The text of a value that is too deep in AVN is refused for it.
pub deep_again : (limit : ℕ) (to : Codec) (v : Value) (text : List ℕ) → to ≡ Avn → ReadsBack limit (notation_of to) v text → limit < deepest 0 (avn_tree v) → ExceedsDepth limit 0 (chars text)
deep_again limit to v text is back deep = (subst (λ c. ReadsBack limit (notation_of c) v text) is back).deep deep

-- A value has the text of another exactly if it is equal to it.
pub equal_texts : (n : Notation) (s : Shape) (v w : Value) (text : List ℕ) → IsText n → is_readable s ≡ true → Fits s v → Writable n v → text ≡ canonical_text n v → Fits s w → Writable n w → (canonical_text n w ≡ text) ↔ (w ≡ v)
equal_texts n s v w text is read fit_v can_v e fit_w can_w = ((λ same. same_text n s w v is read fit_w fit_v can_w can_v (same ∙ e)), (λ same. ap (canonical_text n) same ∙ sym e))

-- Either notation can write what a text in JER decodes to.
pub json_writable : (limit : ℕ) (n : Notation) (s : Shape) (text : List ℕ) (v : Value) → IsText n → IsUtf8 text → TextDecodesTo limit Notation.jer s text v → Writable n v
json_writable limit n s text v is utf8 h = by n is (written h.has h.says)
  where
    written : {t : Tree} → HasTree limit Notation.jer text t → DecodesTo Notation.jer s (Some t) v → Writable Notation.jer v
    written (HasTree.json_tree {d = d} has) says = decoded-can says (text-held text d utf8 has.0)

    by : (n : Notation) → IsText n → Writable Notation.jer v → Writable n v
    by Notation.jer text can = can
    by Notation.avn text can = avn-writable v can
    by Notation.other text can = absurd text

-- No codec of either notation refuses to write it.
pub json_not_refused : (limit : ℕ) (to : Codec) (s : Shape) (text : List ℕ) (v : Value) (cause : EncodeCause) → IsText (notation_of to) → IsUtf8 text → TextDecodesTo limit Notation.jer s text v → IsUnencodable to v cause → ⊥
json_not_refused limit to s text v cause is utf8 h (IsUnencodable.blocked why is_text b) = not_blocked (notation_of to) v why (json_writable limit (notation_of to) s text v is utf8 h) b
json_not_refused limit to s text v cause is utf8 h (IsUnencodable.not_text other) = subst IsText other is
