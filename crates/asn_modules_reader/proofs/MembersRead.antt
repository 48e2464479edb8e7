-- The entries between braces that a reader goes over.
use Rattle.std.proofs.Common.{◌≡◌, ◌≢◌, ℕ, List, [], ◌∷◌, drop, Bool, true, false, if◌then◌else◌, Option, Some, None, refl, sym, ap, subst, ◌∙◌}
use Rattle.asn_lexer.specs.declared.keyword.Keyword.TheVariants as keyword
use Rattle.asn_lexer.specs.declared.kind.Kind.{Kind}
use Rattle.asn_lexer.specs.declared.kind.Kind.TheVariants as kind
use Rattle.asn_lexer.specs.declared.token.Token.{Token}
use Rattle.asn_modules_grammar.specs.headers.Fronts.{first_is}
use Rattle.asn_modules_grammar.specs.notation.Grammar.{NotationParses, MemberParses, component_parses, components_of_parses, marker_parses, group_parses, MembersParse, last_member, next_member, past_version}
use Rattle.asn_modules_grammar.specs.notation.Kinds.{first_kind, token_at, is_component_word}
use Rattle.asn_modules_grammar.specs.notation.Notation.{Notation, Member, component, components_of, group, marker, members_of, may_have_components}
use Rattle.asn_modules_grammar.specs.notation.Values.{presence_at}
use Rattle.asn_modules_grammar.specs.declared.notation.notation.Presence.{Presence}
use Rattle.asn_modules_grammar.proofs.notation.OneText.{same_notation, same_member}
use Rattle.asn_modules_reader.proofs.parts.Repeats.{true_false, some_same, none_some}
use Rattle.asn_modules_reader.proofs.parts.Runs.{Step}

word_here : (u v : List Token) (t : Token) → u ≡ t ∷ v → is_component_word t.kind ≡ true → token_at is_component_word u ≡ Some (t, v)
word_here u v t e h = ap (token_at is_component_word) e ∙ ap (λ b. if b then Some (t, v) else None) h

word_first : {x : Token × List Token} (u : List Token) → token_at is_component_word u ≡ Some x → first_is is_component_word u ≡ false → ⊥
word_first {x = x} [] a h = let e : ◌≡◌ {A = Option (Token × List Token)} None (Some x) = a in let y : ⊥ = cc in y
word_first (t ∷ u) a h = none_some (ap (λ b. if b then Some (t, u) else None) h) a

kind_first : (u v : List Token) (t : Token) (k : Kind) → u ≡ t ∷ v → first_kind u ≡ Some k → t.kind ≡ k
kind_first u v t k e h = some_same (ap first_kind e) h

-- A component by its parts.
pub component_read : (limit level : ℕ) (fields : Bool) (closing : Kind) (u v w rest : List Token) (name : Token) (n : Notation) (presence : Presence) → u ≡ name ∷ v → is_component_word name.kind ≡ true
    → NotationParses limit level v n w → presence_at fields w ≡ Some (presence, rest) → MemberParses limit level fields closing u (component name n presence) rest
component_read limit level fields closing u v w rest name n presence e h d p = component_parses (word_here u v name e h) d p

-- After a component's word no other entry begins.
word_other : {t : Token} {u v : List Token} {k : Kind} → u ≡ t ∷ v → is_component_word t.kind ≡ true → first_kind u ≡ Some k → is_component_word k ≡ false → ⊥
word_other {t = t} {u = u} {v = v} {k = k} e h f n = true_false (sym h ∙ ap is_component_word (kind_first u v t k e f) ∙ n)

pub component_untyped : (limit level : ℕ) (fields : Bool) (u v : List Token) (name : Token) → u ≡ name ∷ v → is_component_word name.kind ≡ true → ((n : Notation) (w : List Token) → NotationParses limit level v n w → ⊥)
    → (m : Member) (rest : List Token) → MemberParses limit level fields kind.CloseVersion u m rest → ⊥
component_untyped limit level fields u v name e h none m rest (component_parses {w = w} {n = n} a d p) =
    none n w (subst (λ z. NotationParses limit level z n w) (sym (ap (λ y. y.1) (some_same (word_here u v name e h) a))) d)
component_untyped limit level fields u v name e h none m rest (components_of_parses a b d g) = word_other e h a refl

pub component_unstated : (limit level : ℕ) (fields : Bool) (u v w : List Token) (name : Token) (n : Notation) → u ≡ name ∷ v → is_component_word name.kind ≡ true → NotationParses limit level v n w → presence_at fields w ≡ None
    → (m : Member) (rest : List Token) → MemberParses limit level fields kind.CloseVersion u m rest → ⊥
component_unstated limit level fields u v w name n e h d none m rest (component_parses {w = w'} {n = n'} a d' p) =
    let f = same_notation d (subst (λ z. NotationParses limit level z n' w') (sym (ap (λ y. y.1) (some_same (word_here u v name e h) a))) d') in
    none_some (sym (ap (presence_at fields) f.1) ∙ none) p
component_unstated limit level fields u v w name n e h d none m rest (components_of_parses a b d' g) = word_other e h a refl

-- COMPONENTS OF, by its type.
pub components_of_read : (limit level : ℕ) (fields : Bool) (closing : Kind) (u v w rest : List Token) (n : Notation) → fields ≡ true → first_kind u ≡ Some (kind.Reserved keyword.Components) → v ≡ drop 1 u
    → first_kind v ≡ Some (kind.Reserved keyword.Of) → w ≡ drop 1 v → NotationParses limit level w n rest → may_have_components n ≡ true → MemberParses limit level fields closing u (components_of n) rest
components_of_read limit level fields closing u v w rest n f a e b g d k =
    let i : w ≡ drop 1 (drop 1 u) = g ∙ ap (drop 1) e in
    subst (λ z. MemberParses limit level z closing u (components_of n) rest) (sym f)
    (components_of_parses a (subst (λ z. first_kind z ≡ Some (kind.Reserved keyword.Of)) e b) (subst (λ z. NotationParses limit level z n rest) i d) k)

pub alternative_unnamed : (limit level : ℕ) (fields : Bool) (u : List Token) → fields ≡ false → first_is is_component_word u ≡ false → (m : Member) (rest : List Token) → MemberParses limit level fields kind.CloseVersion u m rest → ⊥
alternative_unnamed limit level fields u f h m rest (component_parses a d p) = word_first u a h
alternative_unnamed limit level fields u f h m rest (components_of_parses a b d g) = true_false f

pub components_unnamed : (limit level : ℕ) (fields : Bool) (u : List Token) → first_is is_component_word u ≡ false → first_kind u ≢ Some (kind.Reserved keyword.Components)
    → (m : Member) (rest : List Token) → MemberParses limit level fields kind.CloseVersion u m rest → ⊥
components_unnamed limit level fields u h c m rest (component_parses a d p) = word_first u a h
components_unnamed limit level fields u h c m rest (components_of_parses a b d g) = c a

pub components_without_of : (limit level : ℕ) (fields : Bool) (u v : List Token) → first_is is_component_word u ≡ false → v ≡ drop 1 u → first_kind v ≢ Some (kind.Reserved keyword.Of)
    → (m : Member) (rest : List Token) → MemberParses limit level fields kind.CloseVersion u m rest → ⊥
components_without_of limit level fields u v h e c m rest (component_parses a d p) = word_first u a h
components_without_of limit level fields u v h e c m rest (components_of_parses a b d g) = c (ap first_kind e ∙ b)

pub components_untyped : (limit level : ℕ) (fields : Bool) (u v w : List Token) → first_is is_component_word u ≡ false → v ≡ drop 1 u → w ≡ drop 1 v → ((n : Notation) (rest : List Token) → NotationParses limit level w n rest → ⊥)
    → (m : Member) (rest : List Token) → MemberParses limit level fields kind.CloseVersion u m rest → ⊥
components_untyped limit level fields u v w h e g none m rest (component_parses a d p) = word_first u a h
components_untyped limit level fields u v w h e g none m rest (components_of_parses {n = n} a b d k) = none n rest (subst (λ z. NotationParses limit level z n rest) (sym (g ∙ ap (drop 1) e)) d)

pub components_without_any : (limit level : ℕ) (fields : Bool) (u v w rest : List Token) (n : Notation) → first_is is_component_word u ≡ false → v ≡ drop 1 u → w ≡ drop 1 v → NotationParses limit level w n rest → may_have_components n ≡ false
    → (m : Member) (rest : List Token) → MemberParses limit level fields kind.CloseVersion u m rest → ⊥
components_without_any limit level fields u v w rest n h e g d none m rest' (component_parses a d' p) = word_first u a h
components_without_any limit level fields u v w rest n h e g d none m rest' (components_of_parses {n = n'} a b d' k) =
    let s = same_notation d (subst (λ z. NotationParses limit level z n' rest') (sym (g ∙ ap (drop 1) e)) d') in
    true_false (sym k ∙ ap may_have_components (sym s.0) ∙ none)

-- An extension marker.
pub marker_read : (limit level : ℕ) (fields : Bool) (u v : List Token) → first_kind u ≡ Some kind.Ellipsis → v ≡ drop 1 u → MemberParses limit level fields kind.CloseBrace u marker v
marker_read limit level fields u v h e = subst (λ z. MemberParses limit level fields kind.CloseBrace u marker z) (sym e) (marker_parses h)

-- A group by its components.
pub group_read : (limit level : ℕ) (fields : Bool) (u v w rest : List Token) (ms : List Member) → first_kind u ≡ Some kind.OpenVersion → v ≡ drop 1 u → w ≡ past_version v
    → MembersParse limit level fields kind.CloseVersion w ms rest → MemberParses limit level fields kind.CloseBrace u (group (members_of ms)) rest
group_read limit level fields u v w rest ms h e f p = group_parses h (subst (λ z. MembersParse limit level fields kind.CloseVersion z ms rest) (f ∙ ap past_version e) p)

kinds_clash : {o : Option Kind} {j k : Kind} → o ≡ Some j → o ≡ Some k → j ≡ k
kinds_clash a b = some_same a b

word_kind : {x : Token × List Token} (u : List Token) (k : Kind) → first_kind u ≡ Some k → is_component_word k ≡ false → token_at is_component_word u ≡ Some x → ⊥
word_kind [] k h n a = none_some refl h
word_kind (t ∷ u) k h n a = word_first (t ∷ u) a (ap is_component_word (kind_first (t ∷ u) u t k refl h) ∙ n)

pub group_none : (limit level : ℕ) (fields : Bool) (u v w : List Token) → first_kind u ≡ Some kind.OpenVersion → v ≡ drop 1 u → w ≡ past_version v
    → ((ms : List Member) (rest : List Token) → MembersParse limit level fields kind.CloseVersion w ms rest → ⊥)
    → (m : Member) (rest : List Token) → MemberParses limit level fields kind.CloseBrace u m rest → ⊥
group_none limit level fields u v w h e f none m rest (component_parses a d p) = word_kind u kind.OpenVersion h refl a
group_none limit level fields u v w h e f none m rest (components_of_parses a b d g) = let k : kind.OpenVersion ≡ kind.Reserved keyword.Components = kinds_clash h a in let y : ⊥ = cc in y
group_none limit level fields u v w h e f none m rest (marker_parses a) = let k : kind.OpenVersion ≡ kind.Ellipsis = kinds_clash h a in let y : ⊥ = cc in y
group_none limit level fields u v w h e f none m rest (group_parses {ms = ms} a p) =
    none ms rest (subst (λ z. MembersParse limit level fields kind.CloseVersion z ms rest) (sym (f ∙ ap past_version e)) p)

-- Another entry stands in either brackets.
pub one_read : (limit level : ℕ) (fields : Bool) (u rest : List Token) (m : Member) → MemberParses limit level fields kind.CloseVersion u m rest → MemberParses limit level fields kind.CloseBrace u m rest
one_read limit level fields u rest m (component_parses a d p) = component_parses a d p
one_read limit level fields u rest m (components_of_parses a b d g) = components_of_parses a b d g

pub one_none : (limit level : ℕ) (fields : Bool) (u : List Token) → first_kind u ≢ Some kind.Ellipsis → first_kind u ≢ Some kind.OpenVersion
    → ((m : Member) (rest : List Token) → MemberParses limit level fields kind.CloseVersion u m rest → ⊥)
    → (m : Member) (rest : List Token) → MemberParses limit level fields kind.CloseBrace u m rest → ⊥
one_none limit level fields u x y none m rest (component_parses a d p) = none m rest (component_parses a d p)
one_none limit level fields u x y none m rest (components_of_parses a b d g) = none m rest (components_of_parses a b d g)
one_none limit level fields u x y none m rest (marker_parses a) = x a
one_none limit level fields u x y none m rest (group_parses a p) = y a

-- Entries in turn.
members_behind : {limit level : ℕ} {fields : Bool} {closing : Kind} {u v rest : List Token} {m : Member} {ys : List Member} → (closing ≡ kind.Comma → ⊥) → MemberParses limit level fields closing u m v → first_kind v ≡ Some kind.Comma
    → MembersParse limit level fields closing u ys rest → (xs : List Member) × MembersParse limit level fields closing (drop 1 v) xs rest × (ys ≡ m ∷ xs)
members_behind c p h (last_member q k) = absurd (c (kinds_clash k (ap first_kind (sym (same_member p q).1) ∙ h)))
members_behind {limit = limit} {level = level} {fields = fields} {closing = closing} {rest = rest} c p h (next_member {ms = ms} q k qs) =
    let e = same_member p q in (ms, subst (λ z. MembersParse limit level fields closing (drop 1 z) ms rest) (sym e.1) qs, ap (λ m. m ∷ ms) (sym e.0))

pub members_step : (limit level : ℕ) (fields : Bool) (closing : Kind) (u v w : List Token) (m : Member) → (closing ≡ kind.Comma → ⊥) → MemberParses limit level fields closing u m v → first_kind v ≡ Some kind.Comma → w ≡ drop 1 v
    → Step (MembersParse limit level fields closing) u w m
members_step limit level fields closing u v w m c p h e = subst (λ z. Step (MembersParse limit level fields closing) u z m) (sym e) (record { forward = λ xs rest q. next_member p h q; backward = λ ys rest q. members_behind c p h q })

pub members_last : (limit level : ℕ) (fields : Bool) (closing : Kind) (u v w : List Token) (m : Member) → MemberParses limit level fields closing u m v → first_kind v ≡ Some closing → w ≡ drop 1 v → MembersParse limit level fields closing u (m ∷ []) w
members_last limit level fields closing u v w m p h e = subst (λ z. MembersParse limit level fields closing u (m ∷ []) z) (sym e) (last_member p h)

pub members_none : (limit level : ℕ) (fields : Bool) (closing : Kind) (u : List Token) → ((m : Member) (v : List Token) → MemberParses limit level fields closing u m v → ⊥)
    → (xs : List Member) (rest : List Token) → MembersParse limit level fields closing u xs rest → ⊥
members_none limit level fields closing u none xs rest (last_member {v = v} {m = m} q k) = none m v q
members_none limit level fields closing u none xs rest (next_member {v = v} {m = m} q k qs) = none m v q

pub members_unended : (limit level : ℕ) (fields : Bool) (closing : Kind) (u v : List Token) (m : Member) → MemberParses limit level fields closing u m v → first_kind v ≢ Some closing → first_kind v ≢ Some kind.Comma
    → (xs : List Member) (rest : List Token) → MembersParse limit level fields closing u xs rest → ⊥
members_unended limit level fields closing u v m p h c xs rest (last_member q k) = h (ap first_kind (same_member p q).1 ∙ k)
members_unended limit level fields closing u v m p h c xs rest (next_member q k qs) = c (ap first_kind (same_member p q).1 ∙ k)

pub members_first : {limit level : ℕ} {fields : Bool} {closing : Kind} {u v rest : List Token} {m : Member} {ys : List Member} → MemberParses limit level fields closing u m v → MembersParse limit level fields closing u ys rest → (xs : List Member) × (ys ≡ m ∷ xs)
members_first p (last_member q k) = ([], ap (λ m. m ∷ []) (sym (same_member p q).0))
members_first p (next_member {ms = ms} q k qs) = (ms, ap (λ m. m ∷ ms) (sym (same_member p q).0))

pub version_no_comma : kind.CloseVersion ≡ kind.Comma → ⊥
version_no_comma e = cc

pub brace_no_comma : kind.CloseBrace ≡ kind.Comma → ⊥
brace_no_comma e = cc
