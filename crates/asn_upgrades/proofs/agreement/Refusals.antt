-- A text that is refused by a shape is refused in one way, but for the name of a CHOICE type.
use Rattle.std.proofs.Common.{◌≡◌, ℕ, List, [], ◌∷◌, map, Option, Some, None, true, false, ap, refl, sym, subst, ◌∙◌}
use Rattle.std.specs.Str.{chars}
use Rattle.serde_json.specs.Data.{Data}
use Rattle.serde_json.specs.Read.{read}
use Rattle.serde_json.specs.Written.{has_float}
use Rattle.avn_grammar.specs.Tree.{Tree as AvnTree}
use Rattle.avn_grammar.specs.ParseFailure as grammar
use Rattle.avn_grammar.specs.Depth.{ExceedsDepth}
use Rattle.avn_grammar.proofs.OneAnswer.{reads-deep, reads-unread, same_unread, unread-deep}
use Rattle.asn_core.specs.declared.codec.Codec.{Codec}
use Rattle.asn_core.specs.declared.codec.Codec.TheVariants.{Ber, Jer, Avn}
use Rattle.asn_coding.specs.Answer.{OfLevels, OfPlace}
use Rattle.asn_fault.specs.Failure.{Failure, Level, Cause}
use Rattle.asn_model.specs.FailsWith.{FailsWith}
use Rattle.asn_model.specs.Leaf.{codec_of}
use Rattle.asn_model.specs.Notation.{Notation, IsText, notation_of}
use Rattle.asn_model.specs.Shape.{Shape}
use Rattle.asn_model.specs.Tree.{Tree}
use Rattle.asn_codec.specs.Texts.{HasTree, IsDecodeFailure}
use Rattle.asn_codec.proofs.Again.{one_tree}
use Rattle.asn_upgrades.proofs.Refusing.{is_text}
use Rattle.avn_rules.specs.Text.{IsAvn}
use Rattle.jer_rules.specs.Text.{IsJer}
use Rattle.asn_upgrades.specs.agreement.Alike.{AreAlike, without_name}
use Rattle.asn_upgrades.proofs.agreement.Floats.{IsWhole}
use Rattle.asn_upgrades.proofs.agreement.Reasons.{codec_known, one-reason}

-- The tree of a text has no float.
text-whole : {limit : ℕ} {n : Notation} {text : List ℕ} {t : Tree} → HasTree limit n text t → IsWhole t
text-whole (HasTree.json_tree h) = h.1
text-whole (HasTree.avn_tree h) = tt

same_names : (l m : Level) (ls ms : List Level) → l.name ∷ map (λ k. k.name) ls ≡ m.name ∷ map (λ k. k.name) ms → map (λ k. k.name) ls ≡ map (λ k. k.name) ms
same_names l m ls ms e = cc e

same_name : (l m : Level) (ls ms : List Level) → l.name ∷ map (λ k. k.name) ls ≡ m.name ∷ map (λ k. k.name) ms → l.name ≡ m.name
same_name l m ls ms e = cc e

level-one : (l m : Level) → l.name ≡ m.name → l.codec ≡ m.codec → l ≡ m
level-one l m e f = (λ i. record { name = e i; codec = f i })

-- Levels of one notation with the same names are the same.
levels-one : (n : Notation) (ls ms : List Level) → IsText n → OfLevels n ls → OfLevels n ms → map (λ l. l.name) ls ≡ map (λ l. l.name) ms → ls ≡ ms
levels-one n [] [] text a b e = refl
levels-one n [] (m ∷ ms) text a b e = cc e
levels-one n (l ∷ ls) [] text a b e = cc e
levels-one n (l ∷ ls) (m ∷ ms) text a b e =
    ap (λ k. k ∷ ls) (level-one l m (same_name l m ls ms e) (codec_known n l.codec text a.0 ∙ sym (codec_known n m.codec text b.0)))
    ∙ ap (λ ks. m ∷ ks) (levels-one n ls ms text a.1 b.1 (same_names l m ls ms e))

-- The codec at a place, by what is wrong there.
abbrev place_codec : Notation → Cause → Codec
place_codec n (Cause.invalid_date text) = Ber
place_codec n cause = codec_of n

place-known : (n : Notation) (w : Cause) (c : Codec) → IsText n → OfPlace n w c → c ≡ place_codec n w
place-known n (Cause.invalid_date x) c text h = h
place-known n w c text h = codec_known n c text h

place-without : (n : Notation) (w : Cause) → place_codec n (without_name w) ≡ place_codec n w
place-without n (Cause.no_valid_choice name) = refl
place-without n w = refl

place-one : (n : Notation) (w x : Cause) (c d : Codec) → IsText n → OfPlace n w c → OfPlace n x d → without_name w ≡ without_name x → c ≡ d
place-one n w x c d text a b e =
    place-known n w c text a ∙ sym (place-without n w) ∙ ap (place_codec n) e ∙ place-without n x ∙ sym (place-known n x d text b)

-- A failure of the root is like itself.
pub itself : (f : Failure) → AreAlike f f
itself f = record { path = refl; cause = refl; codec = refl }

jer_avn : {c : Codec} → c ≡ Jer → c ≡ Avn → ⊥
jer_avn e f = let d : ◌≡◌ {A = Codec} Jer Avn = sym e ∙ f in cc d

jer_other : {c : Codec} → c ≡ Jer → notation_of c ≡ Notation.other → ⊥
jer_other e f = let d : ◌≡◌ {A = Notation} Notation.jer Notation.other = sym (ap notation_of e) ∙ f in cc d

avn_other : {c : Codec} → c ≡ Avn → notation_of c ≡ Notation.other → ⊥
avn_other e f = let d : ◌≡◌ {A = Notation} Notation.avn Notation.other = sym (ap notation_of e) ∙ f in cc d

none_some : {x : Data} {o : Option Data} → o ≡ None → o ≡ Some x → ⊥
none_some {x} e f = let d : ◌≡◌ {A = Option Data} None (Some x) = sym e ∙ f in cc d

some_same : {x y : Data} {o : Option Data} → o ≡ Some x → o ≡ Some y → x ≡ y
some_same {x} {y} e f = let d : ◌≡◌ {A = Option Data} (Some x) (Some y) = sym e ∙ f in cc d

json_of : {limit : ℕ} {text : List ℕ} {t : Tree} → HasTree limit Notation.jer text t → (d : Data) × IsJer text d
json_of (HasTree.json_tree {d = d} h) = (d, h)

avn_of : {limit : ℕ} {text : List ℕ} {t : Tree} → HasTree limit Notation.avn text t → (u : AvnTree) × IsAvn limit text u
avn_of (HasTree.avn_tree {t = u} h) = (u, h)

-- A text that has a tree is JSON without floats, or a value of AVN that isn't too deep.
module _ {limit : ℕ} {codec : Codec} {text : List ℕ} {t : Tree} (has : HasTree limit (notation_of codec) text t) where
  json-read : codec ≡ Jer → (d : Data) × IsJer text d
  json-read e = json_of (subst (λ c. HasTree limit (notation_of c) text t) e has)

  tree-read : codec ≡ Jer → read text ≡ None → ⊥
  tree-read e none = let is = json-read e in none_some none is.1.0

  tree-whole : codec ≡ Jer → (d : Data) → read text ≡ Some d → has_float d ≡ true → ⊥
  tree-whole e d some float =
      let is = json-read e in
      let x : false ≡ true = sym is.1.1 ∙ ap has_float (some_same is.1.0 some) ∙ float in cc x

  tree-parsed : codec ≡ Avn → (found : List ℕ) → grammar.ParseFailure limit (chars text) found → ⊥
  tree-parsed e found unread = let is = avn_of (subst (λ c. HasTree limit (notation_of c) text t) e has) in reads-unread is.1 unread

  tree-shallow : codec ≡ Avn → ExceedsDepth limit 0 (chars text) → ⊥
  tree-shallow e deep = let is = avn_of (subst (λ c. HasTree limit (notation_of c) text t) e has) in reads-deep is.1 deep

tree-text : {limit : ℕ} {n : Notation} {text : List ℕ} {t : Tree} → HasTree limit n text t → n ≡ Notation.other → ⊥
tree-text has e = subst IsText e (is_text has)

-- A text that has a tree is refused for one reason.
tree-alike : (limit : ℕ) (codec : Codec) (s : Shape) (text : List ℕ) (t : Tree) (f g : Failure) → HasTree limit (notation_of codec) text t → FailsWith (notation_of codec) s (Some t) (map (λ l. l.name) f.path) f.cause
    → OfLevels (notation_of codec) f.path → OfPlace (notation_of codec) f.cause f.codec → IsDecodeFailure limit codec s text g → AreAlike f g
tree-alike limit codec s text t f g has fails levels place (IsDecodeFailure.no_value u same other fails2 levels2 place2) =
    let n = notation_of codec in
    let x = is_text has in
    let moved = subst (λ r. FailsWith n s (Some r) (map (λ l. l.name) g.path) g.cause) (one_tree limit n text u t other has) fails2 in
    let one = one-reason x (text-whole has) fails moved in
    record {
      path = levels-one n f.path g.path x levels levels2 one.path;
      cause = one.cause;
      codec = place-one n f.cause g.cause f.codec g.codec x place place2 one.cause;
    }
tree-alike limit codec s text t f g has fails levels place (IsDecodeFailure.no_json e none) = absurd (tree-read has e none)
tree-alike limit codec s text t f g has fails levels place (IsDecodeFailure.has_real d e some float) = absurd (tree-whole has e d some float)
tree-alike limit codec s text t f g has fails levels place (IsDecodeFailure.no_avn found e unread) = absurd (tree-parsed has e found unread)
tree-alike limit codec s text t f g has fails levels place (IsDecodeFailure.too_deep e deep) = absurd (tree-shallow has e deep)
tree-alike limit codec s text t f g has fails levels place (IsDecodeFailure.not_text e) = absurd (tree-text has e)

-- Two refusals of a text by a shape are alike.
pub alike : (limit : ℕ) (codec : Codec) (s : Shape) (text : List ℕ) (f g : Failure) → IsDecodeFailure limit codec s text f → IsDecodeFailure limit codec s text g → AreAlike f g
alike limit codec s text f g (IsDecodeFailure.no_json e none) (IsDecodeFailure.no_json e2 none2) = itself _
alike limit codec s text f g (IsDecodeFailure.no_json e none) (IsDecodeFailure.has_real d2 e2 some2 float2) = absurd (none_some none some2)
alike limit codec s text f g (IsDecodeFailure.no_json e none) (IsDecodeFailure.no_avn found2 e2 unread2) = absurd (jer_avn e e2)
alike limit codec s text f g (IsDecodeFailure.no_json e none) (IsDecodeFailure.too_deep e2 deep2) = absurd (jer_avn e e2)
alike limit codec s text f g (IsDecodeFailure.no_json e none) (IsDecodeFailure.no_value t2 failure2 has2 fails2 levels2 place2) = absurd (tree-read has2 e none)
alike limit codec s text f g (IsDecodeFailure.no_json e none) (IsDecodeFailure.not_text e2) = absurd (jer_other e e2)
alike limit codec s text f g (IsDecodeFailure.has_real d e some float) (IsDecodeFailure.no_json e2 none2) = absurd (none_some none2 some)
alike limit codec s text f g (IsDecodeFailure.has_real d e some float) (IsDecodeFailure.has_real d2 e2 some2 float2) = itself _
alike limit codec s text f g (IsDecodeFailure.has_real d e some float) (IsDecodeFailure.no_avn found2 e2 unread2) = absurd (jer_avn e e2)
alike limit codec s text f g (IsDecodeFailure.has_real d e some float) (IsDecodeFailure.too_deep e2 deep2) = absurd (jer_avn e e2)
alike limit codec s text f g (IsDecodeFailure.has_real d e some float) (IsDecodeFailure.no_value t2 failure2 has2 fails2 levels2 place2) = absurd (tree-whole has2 e d some float)
alike limit codec s text f g (IsDecodeFailure.has_real d e some float) (IsDecodeFailure.not_text e2) = absurd (jer_other e e2)
alike limit codec s text f g (IsDecodeFailure.no_avn found e unread) (IsDecodeFailure.no_json e2 none2) = absurd (jer_avn e2 e)
alike limit codec s text f g (IsDecodeFailure.no_avn found e unread) (IsDecodeFailure.has_real d2 e2 some2 float2) = absurd (jer_avn e2 e)
alike limit codec s text f g (IsDecodeFailure.no_avn found e unread) (IsDecodeFailure.no_avn found2 e2 unread2) = record { path = refl; cause = ap Cause.unexpected_token (same_unread unread unread2); codec = refl }
alike limit codec s text f g (IsDecodeFailure.no_avn found e unread) (IsDecodeFailure.too_deep e2 deep2) = absurd (unread-deep unread deep2)
alike limit codec s text f g (IsDecodeFailure.no_avn found e unread) (IsDecodeFailure.no_value t2 failure2 has2 fails2 levels2 place2) = absurd (tree-parsed has2 e found unread)
alike limit codec s text f g (IsDecodeFailure.no_avn found e unread) (IsDecodeFailure.not_text e2) = absurd (avn_other e e2)
alike limit codec s text f g (IsDecodeFailure.too_deep e deep) (IsDecodeFailure.no_json e2 none2) = absurd (jer_avn e2 e)
alike limit codec s text f g (IsDecodeFailure.too_deep e deep) (IsDecodeFailure.has_real d2 e2 some2 float2) = absurd (jer_avn e2 e)
alike limit codec s text f g (IsDecodeFailure.too_deep e deep) (IsDecodeFailure.no_avn found2 e2 unread2) = absurd (unread-deep unread2 deep)
alike limit codec s text f g (IsDecodeFailure.too_deep e deep) (IsDecodeFailure.too_deep e2 deep2) = itself _
alike limit codec s text f g (IsDecodeFailure.too_deep e deep) (IsDecodeFailure.no_value t2 failure2 has2 fails2 levels2 place2) = absurd (tree-shallow has2 e deep)
alike limit codec s text f g (IsDecodeFailure.too_deep e deep) (IsDecodeFailure.not_text e2) = absurd (avn_other e e2)
alike limit codec s text f g (IsDecodeFailure.no_value t failure has fails levels place) b = tree-alike limit codec s text t f g has fails levels place b
alike limit codec s text f g (IsDecodeFailure.not_text e) (IsDecodeFailure.no_json e2 none2) = absurd (jer_other e2 e)
alike limit codec s text f g (IsDecodeFailure.not_text e) (IsDecodeFailure.has_real d2 e2 some2 float2) = absurd (jer_other e2 e)
alike limit codec s text f g (IsDecodeFailure.not_text e) (IsDecodeFailure.no_avn found2 e2 unread2) = absurd (avn_other e2 e)
alike limit codec s text f g (IsDecodeFailure.not_text e) (IsDecodeFailure.too_deep e2 deep2) = absurd (avn_other e2 e)
alike limit codec s text f g (IsDecodeFailure.not_text e) (IsDecodeFailure.no_value t2 failure2 has2 fails2 levels2 place2) = absurd (tree-text has2 e)
alike limit codec s text f g (IsDecodeFailure.not_text e) (IsDecodeFailure.not_text e2) = itself _
