-- A printed text whose tree is too deep is refused for its depth.
use Rattle.std.proofs.Common.{◌≡◌, ◌≢◌, inl, inr, ℕ, suc, ◌<◌, ◌≤◌, List, [], ◌∷◌, ◌++◌, true, false, cond, ◌&&◌, refl, sym, ap, subst, ◌∙◌, arith}
use Rattle.std.proofs.lemmas.Bool.{cases_Bool, and_parts, cond-true, cond-false, cases_lt}
use Rattle.avn_grammar.specs.declared.chars.CharClass.{CharClass}
use Rattle.avn_grammar.specs.declared.chars.CharClass.TheVariants as is
use Rattle.avn_grammar.specs.Chars.{class_of_next, tail, skip, is_name, is_letter, is_space, starts_with, all}
use Rattle.avn_grammar.specs.Depth.{ExceedsDepth, too_deep, deep_payload, deep_braces, ItemExceedsDepth, deep_choice, deep_field, deep_value, ItemsExceedDepth, deep_here, deep_after_comma, deepest, deepest_field, deepest_item, deepest_in}
use Rattle.avn_grammar.specs.Grammar.{is_real_keyword, Item, named, bare, ComesAfterWord, ItemParses, ComesAfterValue}
use Rattle.avn_grammar.specs.Normal.{normal}
use Rattle.avn_grammar.specs.Octets.{hex_text}
use Rattle.avn_grammar.specs.Print.{indent, has_fields}
use Rattle.avn_grammar.specs.Tree.{Tree, Trees, Fields, boolean, null, integer, real, octet_string, bit_string, oid, enumerated, char_string, sequence, sequence_of, choice, no_trees, tree, no_fields, field, absent}
use Rattle.avn_grammar.specs.WellFormed.{is_number, is_identifier, is_well_formed, are_well_formed, are_fields_well_formed, is_arc}
use Rattle.std.specs.Fmt.{decimal}
use Rattle.avn_grammar.proofs.PrintedBefore.{put_arcs}
use Rattle.avn_grammar.proofs.ReadPrinted.{Shape, keyword, whole, parted, shape_of, decimal_letter, apostrophe_letter, bits_letter, arc_lead, arc_skip, arcs_letter}
use Rattle.avn_grammar.proofs.Runs.{past-past}
use Rattle.avn_grammar.proofs.RunsBefore.{lead-letter}
use Rattle.avn_grammar.proofs.PrintedBefore.{put, put_rows, put_fields, shown}
use Rattle.avn_grammar.proofs.PrintedTokens.{value_colon, value_close, value_word, ident_of, begins_value, brace}
use Rattle.avn_grammar.proofs.ReadPrinted.{DecodesTo, DecodesIn, says, behind, choice_at, lead-colon, field_parses, closing, closing-lead, rows_after, fields_after, lead-comma, row_at, field_at, number_letter, quote_letter, brace_letter}

letter_close : (k : CharClass) → k ≡ is.Letter → k ≡ is.CloseBrace → ⊥
letter_close k a b = cc

digit_close : (k : CharClass) → k ≡ is.Digit → k ≡ is.CloseBrace → ⊥
digit_close k a b = cc

abbrev pub Sinks : ℕ → Tree → Type 0
Sinks limit t = (d level : ℕ) (w u : List ℕ) → skip w ≡ put shown d t u → limit < deepest level t → ComesAfterValue (class_of_next (skip u)) → ExceedsDepth limit level w

abbrev pub SinksIn : ℕ → Tree → Type 0
SinksIn limit t = (d level : ℕ) (w u : List ℕ) → skip w ≡ put shown d t u → level ≤ limit → limit < deepest_in level t → ComesAfterWord (class_of_next (skip u)) → ItemExceedsDepth limit (suc level) w

-- What looks for no value but itself.
leaf_sinks : (limit : ℕ) (t : Tree) → ((level : ℕ) → deepest level t ≡ level) → Sinks limit t
leaf_sinks limit t e = λ d level w u f l a. too_deep (omega (arith, l, e level))

-- A bare word in braces sinks nowhere.
word_sinks : (limit : ℕ) (t : Tree) → ((level : ℕ) → deepest_in level t ≡ level) → SinksIn limit t
word_sinks limit t e = λ d level w u f m l a. absurd (omega (arith, m, l, e level))

value_sinks : (limit : ℕ) (t : Tree) → ((level : ℕ) → deepest (suc level) t ≡ deepest_in level t) → ((d : ℕ) (u : List ℕ) → class_of_next (put shown d t u) ≢ is.Letter) → Sinks limit t → SinksIn limit t
value_sinks limit t same n s = λ d level w u e m l a.
    deep_value (λ k. n d u (sym (ap class_of_next e) ∙ k)) (s d (suc level) (skip w) u (past-past is_space w ∙ e) (omega (arith, l, same level)) (inr a))

choice_sinks : (limit : ℕ) (id : List ℕ) (t : Tree) → is_identifier id ≡ true → is_well_formed t ≡ true → Sinks limit t → Sinks limit (choice id t)
unfolding deepest
choice_sinks limit id t i h s = λ d level w u e l a. elim (cases_lt limit level) [
  | inl k ↦ too_deep k
  | inr k ↦ deep_payload k (choice_at d id t w u e i) (lead-colon (32 ∷ put shown d t u)) (s d (suc level) (32 ∷ put shown d t u) u (behind d t u h) l a)
]

choice_sinks_in : (limit : ℕ) (id : List ℕ) (t : Tree) → is_identifier id ≡ true → is_well_formed t ≡ true → Sinks limit t → SinksIn limit (choice id t)
unfolding deepest
choice_sinks_in limit id t i h s = λ d level w u e m l a.
    deep_choice (choice_at d id t w u e i) (lead-colon (32 ∷ put shown d t u)) (s d (suc level) (32 ∷ put shown d t u) u (behind d t u h) l (inr a))

field_sinks : (limit d level : ℕ) (id : List ℕ) (t : Tree) (w u : List ℕ) → skip w ≡ id ++ (32 ∷ put shown d t u) → is_identifier id ≡ true → is_well_formed t ≡ true → Sinks limit t → limit < deepest (suc level) t
    → ComesAfterWord (class_of_next (skip u)) → ItemExceedsDepth limit (suc level) w
field_sinks limit d level id t w u e i h s l a =
    let b = ap class_of_next (behind d t u h) in
    let o = begins_value d t u h in
    deep_field (ident_of w id (32 ∷ put shown d t u) e i refl) (λ k. value_colon _ o (sym b ∙ k)) (λ k. value_word _ o (subst ComesAfterWord b k)) (s d (suc level) (32 ∷ put shown d t u) u (behind d t u h) l (inr a))

-- After an item, the rows sink.
abbrev pub RowsSink : ℕ → Trees → Type 0
RowsSink limit ts = (d i level : ℕ) (before : List Item) (w v : List ℕ) (x : Item) → level ≤ limit → limit < deepest_item level ts → class_of_next (skip v) ≡ is.CloseBrace → ItemParses limit (suc level) w x (put_rows shown d (suc i) ts v)
    → ItemsExceedDepth limit (suc level) before w

abbrev pub FieldsSink : ℕ → Fields → Type 0
FieldsSink limit fs = (d i level : ℕ) (before : List Item) (w v : List ℕ) (x : Item) → level ≤ limit → limit < deepest_field level fs → class_of_next (skip v) ≡ is.CloseBrace → ItemParses limit (suc level) w x (put_fields shown d (suc i) fs v)
    → ItemsExceedDepth limit (suc level) before w

no_rows : (limit : ℕ) → RowsSink limit no_trees
unfolding deepest
no_rows limit = λ d i level before w v x m l c k. absurd (omega (arith, m, l))

more_rows : (limit : ℕ) (t : Tree) (ts : Trees) → is_well_formed t ≡ true → DecodesIn limit t → SinksIn limit t → RowsSink limit ts → RowsSink limit (tree t ts)
unfolding put deepest
more_rows limit t ts h s g f = λ d i level before w v x m l c k.
    let r = put_rows shown d (suc (suc i)) ts v in
    let y = 10 ∷ (indent d ++ put shown d t r) in
    deep_after_comma k (lead-comma y) (elim (cases_lt limit (deepest_in level t)) [
      | inl q ↦ deep_here (g d level y r (row_at d t r h) m q (rows_after d (suc i) ts v c))
      | inr q ↦ f d (suc i) level (before ++ (x ∷ [])) y v (bare (normal t)) m (omega arith) c (s d level y r (row_at d t r h) q (rows_after d (suc i) ts v c))
    ])

first_row : (limit : ℕ) (t : Tree) (ts : Trees) → is_well_formed t ≡ true → DecodesIn limit t → SinksIn limit t → RowsSink limit ts → Sinks limit (sequence_of (tree t ts))
unfolding put deepest closing
first_row limit t ts h s g f = λ d level w u e l a. elim (cases_lt limit level) [
  | inl m ↦ too_deep m
  | inr m ↦
      let v = closing d u in
      let r = put_rows shown (suc d) 1 ts v in
      let y = 10 ∷ (indent (suc d) ++ put shown (suc d) t r) in
      let at = row_at (suc d) t r h in
      let c = rows_after (suc d) 0 ts v (closing-lead d u) in
      let items : ItemsExceedDepth limit (suc level) [] y = elim (cases_lt limit (deepest_in level t)) [
        | inl q ↦ deep_here (g (suc d) level y r at m q c)
        | inr q ↦ f (suc d) 0 level [] y v (bare (normal t)) m (omega arith) (closing-lead d u) (s (suc d) level y r at q c)
      ] in
      deep_braces m (brace _ y e) (λ k. value_close _ (begins_value (suc d) t r h) (sym (ap class_of_next (ap (λ x. skip (tail x)) e ∙ at)) ∙ k)) (subst (λ x. ItemsExceedDepth limit (suc level) [] x) (sym (ap tail e)) items)
]

no_more_fields : (limit : ℕ) → FieldsSink limit no_fields
unfolding deepest
no_more_fields limit = λ d i level before w v x m l c k. absurd (omega (arith, m, l))

absent_field : (limit : ℕ) (id : List ℕ) (fs : Fields) → FieldsSink limit fs → FieldsSink limit (absent id fs)
unfolding put deepest
absent_field limit id fs f = λ d i level before w v x m l c k. f d i level before w v x m l c k

more_fields : (limit : ℕ) (id : List ℕ) (t : Tree) (fs : Fields) → is_identifier id ≡ true → is_well_formed t ≡ true → DecodesTo limit t → Sinks limit t → FieldsSink limit fs → FieldsSink limit (field id t fs)
unfolding put deepest
more_fields limit id t fs i h s g f = λ d j level before w v x m l c k.
    let r = put_fields shown d (suc (suc j)) fs v in
    let y = 10 ∷ (indent d ++ (id ++ (32 ∷ put shown d t r))) in
    let at = field_at d id (32 ∷ put shown d t r) i in
    let z = fields_after d (suc j) fs v c in
    deep_after_comma k (lead-comma y) (elim (cases_lt limit (deepest (suc level) t)) [
      | inl q ↦ deep_here (field_sinks limit d level id t y r at i h g q z)
      | inr q ↦ f d (suc j) level (before ++ (x ∷ [])) y v (named id (normal t)) m (omega arith) c (field_parses limit d level id t y r at i h s q z)
    ])

-- The fields from the first that is present on.
pub record Sunk (limit level : ℕ) (w : List ℕ) : Type 0 where
  pub items : ItemsExceedDepth limit (suc level) [] w
  pub starts : class_of_next (skip w) ≡ is.Letter

abbrev pub FieldsStart : ℕ → Fields → Type 0
FieldsStart limit fs = (d level : ℕ) (v : List ℕ) → level ≤ limit → limit < deepest_field level fs → class_of_next (skip v) ≡ is.CloseBrace → Sunk limit level (put_fields shown d 0 fs v)

none_first : (limit : ℕ) → FieldsStart limit no_fields
unfolding deepest
none_first limit = λ d level v m l c. absurd (omega (arith, m, l))

absent_first : (limit : ℕ) (id : List ℕ) (fs : Fields) → FieldsStart limit fs → FieldsStart limit (absent id fs)
unfolding put deepest
absent_first limit id fs f = λ d level v m l c. f d level v m l c

first_field : (limit : ℕ) (id : List ℕ) (t : Tree) (fs : Fields) → is_identifier id ≡ true → is_well_formed t ≡ true → DecodesTo limit t → Sinks limit t → FieldsSink limit fs → FieldsStart limit (field id t fs)
unfolding put deepest
first_field limit id t fs i h s g f = λ d level v m l c.
    let r = put_fields shown d 1 fs v in
    let y = 10 ∷ (indent d ++ (id ++ (32 ∷ put shown d t r))) in
    let at = field_at d id (32 ∷ put shown d t r) i in
    let z = fields_after d 0 fs v c in
    record {
      items = elim (cases_lt limit (deepest (suc level) t)) [
        | inl q ↦ deep_here (field_sinks limit d level id t y r at i h g q z)
        | inr q ↦ f d 0 level [] y v (named id (normal t)) m (omega arith) c (field_parses limit d level id t y r at i h s q z)
      ];
      starts = ap class_of_next at ∙ lead-letter id (32 ∷ put shown d t r) (and_parts (starts_with is_letter id) (all is_name id) i).0;
    }

no_deeper : (level : ℕ) (fs : Fields) → has_fields fs ≡ false → deepest_field level fs ≡ level
unfolding deepest
no_deeper level no_fields h = refl
no_deeper level (field id t fs) h = let n : ⊥ = cc in absurd n
no_deeper level (absent id fs) h = no_deeper level fs h

fields_sink : (limit : ℕ) (fs : Fields) → FieldsStart limit fs → Sinks limit (sequence fs)
unfolding put deepest closing
fields_sink limit fs f = λ d level w u e l a. elim (cases_lt limit level) [
  | inl m ↦ too_deep m
  | inr m ↦ elim (cases_Bool (has_fields fs)) [
    | inl h ↦
        let b = put_fields shown (suc d) 0 fs (closing d u) in
        let s = f (suc d) level (closing d u) m l (closing-lead d u) in
        let at : skip w ≡ 123 ∷ b = e ∙ cond-true (has_fields fs) (123 ∷ b) (123 ∷ 125 ∷ u) h in
        deep_braces m (brace _ b at) (λ k. letter_close _ s.starts (ap (λ x. class_of_next (skip (tail x))) (sym at) ∙ k)) (subst (λ x. ItemsExceedDepth limit (suc level) [] x) (sym (ap tail at)) s.items)
    | inr h ↦ absurd (omega (arith, l, m, no_deeper level fs h))
  ]
]

real_sinks : (limit : ℕ) (n : List ℕ) → Shape n → SinksIn limit (real n)
unfolding put deepest
real_sinks limit n (keyword k) = λ d level w u e m l a. let q = cond-true (is_real_keyword n) level (suc level) k in absurd (omega (arith, m, subst (λ x. limit < x) q l))
real_sinks limit n (whole k h) = λ d level w u e m l a.
    let q = cond-false (is_real_keyword n) level (suc level) k in deep_value (λ x. number_letter n u h (sym (ap class_of_next e) ∙ x)) (too_deep (subst (λ x. limit < x) q l))
real_sinks limit n (parted k f h) = λ d level w u e m l a.
    let q = cond-false (is_real_keyword n) level (suc level) k in deep_value (λ x. decimal_letter n u h (sym (ap class_of_next e) ∙ x)) (too_deep (subst (λ x. limit < x) q l))

octets_sink : (limit : ℕ) (octets : List ℕ) → Sinks limit (octet_string octets) → SinksIn limit (octet_string octets)
unfolding put deepest
octets_sink limit octets s = value_sinks limit (octet_string octets) (λ level. refl) (λ d u. apostrophe_letter (hex_text octets ++ (39 ∷ 72 ∷ u))) s

arcs_sink : (limit a : ℕ) (arcs : List ℕ) → is_arc a ≡ true → Sinks limit (oid (a ∷ arcs))
unfolding put put_arcs deepest
arcs_sink limit b arcs h = λ d level w u e l a. elim (cases_lt limit level) [
  | inl m ↦ too_deep m
  | inr m ↦
      let r = put_arcs arcs (32 ∷ 125 ∷ u) in
      let v = 32 ∷ (decimal b ++ r) in
      let g = arc_lead b r h in
      let f : class_of_next (skip v) ≡ is.Digit = ap class_of_next (arc_skip b r h) ∙ g in
      deep_braces m (brace _ v e) (λ k. digit_close _ f (ap (λ x. class_of_next (skip (tail x))) (sym e) ∙ k))
      (subst (λ x. ItemsExceedDepth limit (suc level) [] x) (sym (ap tail e)) (deep_here (deep_value (λ k. let n : ⊥ = cc in n) (too_deep l))))
]

number_sinks : (limit : ℕ) (n : List ℕ) → is_number n ≡ true → SinksIn limit (integer n)
unfolding put deepest
number_sinks limit n h = λ d level w u e m l a. deep_value (λ x. number_letter n u h (sym (ap class_of_next e) ∙ x)) (too_deep (omega arith))

text_sinks : (limit : ℕ) (text : List ℕ) → SinksIn limit (char_string text)
unfolding put deepest
text_sinks limit text = λ d level w u e m l a. deep_value (λ x. quote_letter (shown text ++ (34 ∷ u)) (sym (ap class_of_next e) ∙ x)) (too_deep (omega arith))

list_sinks : (limit : ℕ) (ts : Trees) → Sinks limit (sequence_of ts) → SinksIn limit (sequence_of ts)
unfolding put deepest
list_sinks limit no_trees s = value_sinks limit (sequence_of no_trees) (λ level. refl) (λ d u. brace_letter (125 ∷ u)) s
list_sinks limit (tree t ts) s = value_sinks limit (sequence_of (tree t ts)) (λ level. refl) (λ d u. brace_letter (put_rows shown (suc d) 0 (tree t ts) (10 ∷ (indent d ++ (125 ∷ u))))) s

sequence_sinks : (limit : ℕ) (fs : Fields) → Sinks limit (sequence fs) → SinksIn limit (sequence fs)
unfolding put deepest
sequence_sinks limit fs s = value_sinks limit (sequence fs) (λ level. refl)
    (λ d u. elim (has_fields fs) as (λ b. class_of_next (cond b (123 ∷ put_fields shown (suc d) 0 fs (10 ∷ (indent d ++ (125 ∷ u)))) (123 ∷ 125 ∷ u)) ≢ is.Letter) [
      | true ↦ brace_letter (put_fields shown (suc d) 0 fs (10 ∷ (indent d ++ (125 ∷ u))))
      | false ↦ brace_letter (125 ∷ u)
    ]) s

mutual
  unfolding is_well_formed deepest

  pub sinks : (limit : ℕ) (t : Tree) → is_well_formed t ≡ true → Sinks limit t × SinksIn limit t
  sinks limit (boolean b) h = (leaf_sinks limit (boolean b) (λ level. refl), word_sinks limit (boolean b) (λ level. refl))
  sinks limit null h = (leaf_sinks limit null (λ level. refl), word_sinks limit null (λ level. refl))
  sinks limit (integer n) h = (leaf_sinks limit (integer n) (λ level. refl), number_sinks limit n h)
  sinks limit (real n) h = (leaf_sinks limit (real n) (λ level. refl), real_sinks limit n (shape_of n h))
  sinks limit (octet_string octets) h = let s = leaf_sinks limit (octet_string octets) (λ level. refl) in (s, octets_sink limit octets s)
  sinks limit (bit_string octets n) h = let s = leaf_sinks limit (bit_string octets n) (λ level. refl) in (s, value_sinks limit (bit_string octets n) (λ level. refl) (λ d u. bits_letter d octets n u) s)
  sinks limit (oid []) h = let s = leaf_sinks limit (oid []) (λ level. refl) in (s, value_sinks limit (oid []) (λ level. refl) (λ d u. arcs_letter d [] u) s)
  sinks limit (oid (a ∷ arcs)) h = let s = arcs_sink limit a arcs (and_parts (is_arc a) (all is_arc arcs) h).0 in (s, value_sinks limit (oid (a ∷ arcs)) (λ level. refl) (λ d u. arcs_letter d (a ∷ arcs) u) s)
  sinks limit (enumerated id) h = (leaf_sinks limit (enumerated id) (λ level. refl), word_sinks limit (enumerated id) (λ level. refl))
  sinks limit (char_string text) h = (leaf_sinks limit (char_string text) (λ level. refl), text_sinks limit text)
  sinks limit (sequence fs) h = let s = fields_sink limit fs (fields_start limit fs h) in (s, sequence_sinks limit fs s)
  sinks limit (sequence_of no_trees) h = let s = leaf_sinks limit (sequence_of no_trees) (λ level. refl) in (s, list_sinks limit no_trees s)
  sinks limit (sequence_of (tree t ts)) h =
      let k = and_parts (is_well_formed t) (are_well_formed ts) h in
      let p = sinks limit t k.0 in
      let s = first_row limit t ts k.0 (says limit t k.0).1 p.1 (rows_sink limit ts k.1) in (s, list_sinks limit (tree t ts) s)
  sinks limit (choice id t) h =
      let k = and_parts (is_identifier id) (is_well_formed t) h in
      let p = sinks limit t k.1 in (choice_sinks limit id t k.0 k.1 p.0, choice_sinks_in limit id t k.0 k.1 p.0)

  pub rows_sink : (limit : ℕ) (ts : Trees) → are_well_formed ts ≡ true → RowsSink limit ts
  rows_sink limit no_trees h = no_rows limit
  rows_sink limit (tree t ts) h =
      let k = and_parts (is_well_formed t) (are_well_formed ts) h in
      let p = sinks limit t k.0 in
      more_rows limit t ts k.0 (says limit t k.0).1 p.1 (rows_sink limit ts k.1)

  pub fields_sink_after : (limit : ℕ) (fs : Fields) → are_fields_well_formed fs ≡ true → FieldsSink limit fs
  fields_sink_after limit no_fields h = no_more_fields limit
  fields_sink_after limit (field id t fs) h =
      let k = and_parts (is_identifier id) (is_well_formed t && are_fields_well_formed fs) h in
      let l = and_parts (is_well_formed t) (are_fields_well_formed fs) k.1 in
      let p = sinks limit t l.0 in
      more_fields limit id t fs k.0 l.0 (says limit t l.0).0 p.0 (fields_sink_after limit fs l.1)
  fields_sink_after limit (absent id fs) h = absent_field limit id fs (fields_sink_after limit fs (and_parts (is_identifier id) (are_fields_well_formed fs) h).1)

  pub fields_start : (limit : ℕ) (fs : Fields) → are_fields_well_formed fs ≡ true → FieldsStart limit fs
  fields_start limit no_fields h = none_first limit
  fields_start limit (field id t fs) h =
      let k = and_parts (is_identifier id) (is_well_formed t && are_fields_well_formed fs) h in
      let l = and_parts (is_well_formed t) (are_fields_well_formed fs) k.1 in
      let p = sinks limit t l.0 in
      first_field limit id t fs k.0 l.0 (says limit t l.0).0 p.0 (fields_sink_after limit fs l.1)
  fields_start limit (absent id fs) h = absent_first limit id fs (fields_start limit fs (and_parts (is_identifier id) (are_fields_well_formed fs) h).1)
