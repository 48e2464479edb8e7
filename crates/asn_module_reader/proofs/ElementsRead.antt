-- The elements between braces that a reader goes over.
use Rattle.std.proofs.Common.{◌≡◌, ℕ, List, [], ◌∷◌, ◌++◌, Bool, true, false, Some, None, refl, sym, ap, subst, ◌∙◌}
use Rattle.asn_notation.specs.Grammar.{separator_of, is_optional, past_optional, NotationParses, ElementParses, component_parses, marker_parses, ElementsParse, last_element, next_element, ListParses, no_elements_parse, some_elements_parse}
use Rattle.asn_notation.specs.Notation.{Notation, Element, component, marker, any, is_marker}
use Rattle.asn_notation.specs.Tokens.{Token, first_token, past_token, word_of}
use Rattle.asn_notation.proofs.Inverted.{token_word}
use Rattle.asn_notation.proofs.OneNotation.{same_element, same_notation}
use Rattle.asn_module_reader.specs.EntryLists.{Allows}
use Rattle.asn_module_reader.proofs.Markers.{single_last}
use Rattle.asn_module_reader.proofs.Runs.{First, Others, IsRun, Going, going_none, going_last}

true_false : true ≡ false → ⊥
true_false e = cc

elements_first : (limit level : ℕ) (allowed : Bool) (u rest : List ℕ) (xs : List Element) → ElementsParse limit level allowed u xs rest → First (ElementParses limit level allowed) u xs
elements_first limit level allowed u rest xs (last_element {e = e} p) = record { entry = e; more = false; left = rest; others = []; parses = p; made = refl }
elements_first limit level allowed u rest xs (next_element {v = v} {e = e} {es = es} p q) = record { entry = e; more = true; left = v; others = es; parses = p; made = refl }

elements_behind : (limit level : ℕ) (allowed : Bool) (u v rest : List ℕ) (x : Element) (xs : List Element) → ElementParses limit level allowed u x true v → ElementsParse limit level allowed u xs rest
    → Others (ElementsParse limit level allowed) v rest x xs
elements_behind limit level allowed u v rest x xs p (last_element q) = absurd (true_false (same_element p q).1)
elements_behind limit level allowed u v rest x xs p (next_element {es = es} q qs) =
    let e = same_element p q in
    record { others = es; parses = subst (λ y. ElementsParse limit level allowed y es rest) (sym e.2) qs; made = ap (λ y. y ∷ es) (sym e.0) }

pub elements_run : (limit level : ℕ) (allowed : Bool) → IsRun (ElementParses limit level allowed) (ElementsParse limit level allowed)
elements_run limit level allowed =
    record { last = λ u rest x p. last_element p; next = λ u v rest x xs p q. next_element p q; first = elements_first limit level allowed; behind = elements_behind limit level allowed }

-- A component with what ends it.
pub element_named : (limit level : ℕ) (allowed : Bool) (u v w rest name : List ℕ) (n : Notation) (optional more : Bool) → Token.word name ≡ first_token u → v ≡ past_token u → NotationParses limit level v n w
    → optional ≡ is_optional allowed w → separator_of (first_token (past_optional allowed w)) ≡ Some more → rest ≡ past_token (past_optional allowed w) → ElementParses limit level allowed u (component name n optional) more rest
element_named limit level allowed u v w rest name n optional more e m d o s k =
    subst (λ x. ElementParses limit level allowed u (component name n optional) more x) (sym k)
    (subst (λ x. ElementParses limit level allowed u (component name n x) more (past_token (past_optional allowed w))) (sym o)
    (component_parses (sym (ap word_of e)) (subst (λ x. NotationParses limit level x n w) m d) s))

-- The extension marker and what ends it.
pub element_marked : (limit level : ℕ) (allowed : Bool) (u v rest : List ℕ) (more : Bool) → Token.ellipsis ≡ first_token u → v ≡ past_token u → separator_of (first_token v) ≡ Some more → rest ≡ past_token v
    → ElementParses limit level allowed u marker more rest
element_marked limit level allowed u v rest more e m s k =
    subst (λ x. ElementParses limit level allowed u marker more x) (sym (k ∙ ap past_token m)) (marker_parses (sym e) (subst (λ x. separator_of (first_token x) ≡ Some more) m s))

-- Behind the name there is no notation.
pub element_bare : (limit level : ℕ) (allowed : Bool) (u v name : List ℕ) → Token.word name ≡ first_token u → v ≡ past_token u → ((n : Notation) (rest : List ℕ) → NotationParses limit level v n rest → ⊥)
    → (e : Element) (more : Bool) (rest : List ℕ) → ElementParses limit level allowed u e more rest → ⊥
element_bare limit level allowed u v name e m none x more rest (component_parses {v = w} {n = n} h d s) = none n w (subst (λ y. NotationParses limit level y n w) (sym m) d)
element_bare limit level allowed u v name e m none x more rest (marker_parses h s) = let n : Token.word name ≡ Token.ellipsis = e ∙ h in cc

-- Nothing ends the component.
pub element_unended : (limit level : ℕ) (allowed : Bool) (u v w name : List ℕ) (n : Notation) → Token.word name ≡ first_token u → v ≡ past_token u → NotationParses limit level v n w
    → separator_of (first_token (past_optional allowed w)) ≡ None → (e : Element) (more : Bool) (rest : List ℕ) → ElementParses limit level allowed u e more rest → ⊥
element_unended limit level allowed u v w name n e m d none x more rest (component_parses {v = w'} {n = n'} h c s) =
    let p = same_notation d (subst (λ y. NotationParses limit level y n' w') (sym m) c) in
    let q : None ≡ Some more = sym none ∙ ap (λ y. separator_of (first_token (past_optional allowed y))) p.1 ∙ s in cc
element_unended limit level allowed u v w name n e m d none x more rest (marker_parses h s) = let q : Token.word name ≡ Token.ellipsis = e ∙ h in cc

-- Nothing ends the extension marker.
pub marker_unended : (limit level : ℕ) (allowed : Bool) (u v : List ℕ) → Token.ellipsis ≡ first_token u → v ≡ past_token u → separator_of (first_token v) ≡ None
    → (e : Element) (more : Bool) (rest : List ℕ) → ElementParses limit level allowed u e more rest → ⊥
marker_unended limit level allowed u v e m none x more rest (component_parses h d s) = token_word _ _ Token.ellipsis (sym e) refl h
marker_unended limit level allowed u v e m none x more rest (marker_parses h s) = let q : None ≡ Some more = sym none ∙ ap (λ y. separator_of (first_token y)) m ∙ s in cc

-- The extension marker stands again.
pub element_repeated : (limit level : ℕ) (allowed : Bool) (u : List ℕ) (seen : List Element) → Token.ellipsis ≡ first_token u → any is_marker seen ≡ true
    → (e : Element) (more : Bool) (rest : List ℕ) → ElementParses limit level allowed u e more rest → Allows is_marker seen e → ⊥
element_repeated limit level allowed u seen e t x more rest (component_parses h d s) allows = token_word _ _ Token.ellipsis (sym e) refl h
element_repeated limit level allowed u seen e t x more rest (marker_parses h s) allows = true_false (sym t ∙ allows refl)

-- Another token begins no element.
pub element_other : (limit level : ℕ) (allowed : Bool) (u : List ℕ) (t : Token) → t ≡ first_token u → word_of t ≡ None → (t ≡ Token.ellipsis → ⊥)
    → (e : Element) (more : Bool) (rest : List ℕ) → ElementParses limit level allowed u e more rest → ⊥
element_other limit level allowed u t e n k x more rest (component_parses h d s) = token_word _ _ t (sym e) n h
element_other limit level allowed u t e n k x more rest (marker_parses h s) = k (e ∙ h)

-- No elements that go on here are a list.
pub no_list : {limit level : ℕ} {allowed : Bool} {first start here : List ℕ} {seen : List Element} → (first_token first ≡ Token.close_brace → ⊥) → start ≡ first → Going is_marker (ElementsParse limit level allowed) start here seen
    → ((e : Element) (more : Bool) (rest : List ℕ) → ElementParses limit level allowed here e more rest → Allows is_marker seen e → ⊥) → (xs : List Element) (rest : List ℕ) → ListParses limit level allowed first xs rest → ⊥
no_list closes same g none xs rest (no_elements_parse o) = closes o
no_list {limit = limit} {level = level} {allowed = allowed} closes same g none xs rest (some_elements_parse p m) =
    going_none (elements_run limit level allowed) g none xs rest (subst (λ x. ElementsParse limit level allowed x xs rest) (sym same) p) m

-- No elements.
pub empty_list : (limit level : ℕ) (allowed : Bool) (u rest : List ℕ) (es : List Element) → first_token u ≡ Token.close_brace → rest ≡ past_token u → es ≡ [] → ListParses limit level allowed u es rest
empty_list limit level allowed u rest es o k n = subst (λ x. ListParses limit level allowed u x rest) (sym n) (subst (λ x. ListParses limit level allowed u [] x) (sym k) (no_elements_parse o))

-- All elements, with the last one.
pub element_list : {limit level : ℕ} {allowed : Bool} {first start here rest : List ℕ} {seen all : List Element} {more : Bool} (e : Element) → start ≡ first → Going is_marker (ElementsParse limit level allowed) start here seen
    → ElementParses limit level allowed here e more rest → more ≡ false → Allows is_marker seen e → all ≡ seen ++ e ∷ [] → ListParses limit level allowed first all rest
element_list {limit = limit} {level = level} {allowed = allowed} {first = first} {here = here} {rest = rest} {seen = seen} e same g p last allows n =
    subst (λ x. ListParses limit level allowed first x rest) (sym n)
    (some_elements_parse (subst (λ x. ElementsParse limit level allowed x (seen ++ e ∷ []) rest) same (going_last (elements_run limit level allowed) g (subst (λ x. ElementParses limit level allowed here e x rest) last p)))
    (single_last is_marker seen e g.single allows))
