-- The notations that a reader goes over.
use Rattle.std.proofs.Common.{◌≡◌, ◌≤◌, inl, inr, ℕ, suc, List, true, false, Option, Some, sym, ap, subst, ◌∙◌}
use Rattle.asn_model.specs.Shape.{SeqKind}
use Rattle.asn_notation.specs.Grammar.{NotationParses, whole_parses, pair_parses, members_parse, list_parses, choice_parses, enumerated_parses, ListParses, ItemListParses}
use Rattle.asn_notation.specs.Notation.{Notation, Element, members, list_of, choice, enumerated, elements_of}
use Rattle.asn_notation.specs.Starts.{Start, start_at}
use Rattle.asn_notation.specs.Tokens.{Token, first_token, past_token, word_of, keyword_of, keyword_at}
use Rattle.asn_notation.specs.declared.keyword.Keyword.{Keyword}
use Rattle.asn_notation.specs.declared.keyword.Keyword.TheVariants as keyword
use Rattle.asn_notation.proofs.Inverted.{inverted, brace_keyword}
use Rattle.asn_module_reader.specs.Productions.{MembersParse, in_braces, behind_of}

-- One word.
pub notation_whole : (limit level : ℕ) (u rest : List ℕ) (n : Notation) → level ≤ limit → Start.whole n ≡ start_at u → rest ≡ past_token u → NotationParses limit level u n rest
notation_whole limit level u rest n l e k = subst (λ x. NotationParses limit level u n x) (sym k) (whole_parses l (sym e))

-- Two words.
pub notation_pair : (limit level : ℕ) (u v rest : List ℕ) (k : Keyword) (n : Notation) → level ≤ limit → Start.pair k n ≡ start_at u → v ≡ past_token u → keyword_at v ≡ Some k → rest ≡ past_token v → NotationParses limit level u n rest
notation_pair limit level u v rest k n l e m h r =
    subst (λ x. NotationParses limit level u n x) (sym (r ∙ ap past_token m)) (pair_parses l (sym e) (subst (λ x. keyword_at x ≡ Some k) m h))

pub pair_none : (limit level : ℕ) (u v : List ℕ) (k : Keyword) (n : Notation) → Start.pair k n ≡ start_at u → v ≡ past_token u → (keyword_at v ≡ Some k → ⊥)
    → (m : Notation) (rest : List ℕ) → NotationParses limit level u m rest → ⊥
pair_none limit level u v k n e m none x rest p = let b = inverted (Start.pair k n) (sym e) p in none (subst (λ y. keyword_at y ≡ Some k) (sym m) b.second)

-- SEQUENCE or SET.
pub notation_members : (limit level next : ℕ) (u v rest : List ℕ) (kind : SeqKind) (n : Notation) → level ≤ limit → next ≡ suc level → Start.members kind ≡ start_at u → v ≡ past_token u
    → MembersParse limit next kind v n rest → NotationParses limit level u n rest
notation_members limit level next u v rest kind n l up e m (in_braces {es = es} o d) =
    members_parse l (sym e) (subst (λ x. first_token x ≡ Token.open_brace) m o) (subst (λ x. ListParses limit x true (past_token (past_token u)) es rest) up (subst (λ x. ListParses limit next true (past_token x) es rest) m d))
notation_members limit level next u v rest kind n l up e m (behind_of {n = part} o d) =
    list_parses l (sym e) (subst (λ x. keyword_at x ≡ Some keyword.Of) m o) (subst (λ x. NotationParses limit x (past_token (past_token u)) part rest) up (subst (λ x. NotationParses limit next (past_token x) part rest) m d))

pub members_none : (limit level next : ℕ) (u v : List ℕ) (kind : SeqKind) → next ≡ suc level → Start.members kind ≡ start_at u → v ≡ past_token u
    → ((n : Notation) (rest : List ℕ) → MembersParse limit next kind v n rest → ⊥) → (n : Notation) (rest : List ℕ) → NotationParses limit level u n rest → ⊥
members_none limit level next u v kind up e m none n rest p = elim (inverted (Start.members kind) (sym e) p) [
  | inl b ↦ none (members kind (elements_of b.elements)) rest (in_braces (subst (λ x. first_token x ≡ Token.open_brace) (sym m) b.open_brace)
      (subst (λ x. ListParses limit next true (past_token x) b.elements rest) (sym m) (subst (λ x. ListParses limit x true (past_token (past_token u)) b.elements rest) (sym up) b.list)))
  | inr b ↦ none (list_of kind b.part) rest (behind_of (subst (λ x. keyword_at x ≡ Some keyword.Of) (sym m) b.of_word)
      (subst (λ x. NotationParses limit next (past_token x) b.part rest) (sym m) (subst (λ x. NotationParses limit x (past_token (past_token u)) b.part rest) (sym up) b.parses)))
]

-- Behind SEQUENCE or SET.
pub braced : (limit level : ℕ) (kind : SeqKind) (v w rest : List ℕ) (es : List Element) → Token.open_brace ≡ first_token v → w ≡ past_token v → ListParses limit level true w es rest → MembersParse limit level kind v (members kind (elements_of es)) rest
braced limit level kind v w rest es o m d = in_braces (sym o) (subst (λ x. ListParses limit level true x es rest) m d)

pub listed : (limit level : ℕ) (kind : SeqKind) (v w rest : List ℕ) (n : Notation) → keyword_at v ≡ Some keyword.Of → w ≡ past_token v → NotationParses limit level w n rest → MembersParse limit level kind v (list_of kind n) rest
listed limit level kind v w rest n o m d = behind_of o (subst (λ x. NotationParses limit level x n rest) m d)

pub braced_none : (limit level : ℕ) (kind : SeqKind) (v w : List ℕ) → Token.open_brace ≡ first_token v → w ≡ past_token v → ((es : List Element) (rest : List ℕ) → ListParses limit level true w es rest → ⊥)
    → (n : Notation) (rest : List ℕ) → MembersParse limit level kind v n rest → ⊥
braced_none limit level kind v w o m none n rest (in_braces {es = es} p d) = none es rest (subst (λ x. ListParses limit level true x es rest) (sym m) d)
braced_none limit level kind v w o m none n rest (behind_of p d) = brace_keyword _ _ (sym o) p

pub listed_none : (limit level : ℕ) (kind : SeqKind) (v w : List ℕ) → keyword_at v ≡ Some keyword.Of → w ≡ past_token v → ((n : Notation) (rest : List ℕ) → NotationParses limit level w n rest → ⊥)
    → (n : Notation) (rest : List ℕ) → MembersParse limit level kind v n rest → ⊥
listed_none limit level kind v w o m none n rest (in_braces p d) = brace_keyword _ _ p o
listed_none limit level kind v w o m none n rest (behind_of {n = part} p d) = none part rest (subst (λ x. NotationParses limit level x part rest) (sym m) d)

pub members_other : (limit level : ℕ) (kind : SeqKind) (v : List ℕ) (t : Token) → t ≡ first_token v → (t ≡ Token.open_brace → ⊥) → (keyword_of (word_of t) ≡ Some keyword.Of → ⊥)
    → (n : Notation) (rest : List ℕ) → MembersParse limit level kind v n rest → ⊥
members_other limit level kind v t e o k n rest (in_braces p d) = o (e ∙ p)
members_other limit level kind v t e o k n rest (behind_of p d) = k (ap (λ x. keyword_of (word_of x)) e ∙ p)

-- CHOICE.
pub notation_choice : (limit level next : ℕ) (u v w rest : List ℕ) (es : List Element) → level ≤ limit → next ≡ suc level → Start.choice ≡ start_at u → v ≡ past_token u → first_token v ≡ Token.open_brace → w ≡ past_token v
    → ListParses limit next false w es rest → NotationParses limit level u (choice (elements_of es)) rest
notation_choice limit level next u v w rest es l up e m o k d =
    choice_parses l (sym e) (subst (λ x. first_token x ≡ Token.open_brace) m o) (subst (λ x. ListParses limit x false (past_token (past_token u)) es rest) up (subst (λ x. ListParses limit next false x es rest) (k ∙ ap past_token m) d))

pub choice_unopened : (limit level : ℕ) (u v : List ℕ) → Start.choice ≡ start_at u → v ≡ past_token u → (first_token v ≡ Token.open_brace → ⊥) → (n : Notation) (rest : List ℕ) → NotationParses limit level u n rest → ⊥
choice_unopened limit level u v e m none n rest p = let b = inverted Start.choice (sym e) p in none (subst (λ x. first_token x ≡ Token.open_brace) (sym m) b.open_brace)

pub choice_none : (limit level next : ℕ) (u v w : List ℕ) → next ≡ suc level → Start.choice ≡ start_at u → v ≡ past_token u → w ≡ past_token v → ((es : List Element) (rest : List ℕ) → ListParses limit next false w es rest → ⊥)
    → (n : Notation) (rest : List ℕ) → NotationParses limit level u n rest → ⊥
choice_none limit level next u v w up e m k none n rest p =
    let b = inverted Start.choice (sym e) p in
    none b.elements rest (subst (λ x. ListParses limit next false x b.elements rest) (sym (k ∙ ap past_token m)) (subst (λ x. ListParses limit x false (past_token (past_token u)) b.elements rest) (sym up) b.list))

-- ENUMERATED.
pub notation_enumerated : (limit level : ℕ) (u v w rest : List ℕ) (items : List (Option (List ℕ))) → level ≤ limit → Start.enumerated ≡ start_at u → v ≡ past_token u → first_token v ≡ Token.open_brace → w ≡ past_token v
    → ItemListParses w items rest → NotationParses limit level u (enumerated items) rest
notation_enumerated limit level u v w rest items l e m o k d =
    enumerated_parses l (sym e) (subst (λ x. first_token x ≡ Token.open_brace) m o) (subst (λ x. ItemListParses x items rest) (k ∙ ap past_token m) d)

pub enumerated_unopened : (limit level : ℕ) (u v : List ℕ) → Start.enumerated ≡ start_at u → v ≡ past_token u → (first_token v ≡ Token.open_brace → ⊥) → (n : Notation) (rest : List ℕ) → NotationParses limit level u n rest → ⊥
enumerated_unopened limit level u v e m none n rest p = let b = inverted Start.enumerated (sym e) p in none (subst (λ x. first_token x ≡ Token.open_brace) (sym m) b.open_brace)

pub enumerated_none : (limit level : ℕ) (u v w : List ℕ) → Start.enumerated ≡ start_at u → v ≡ past_token u → w ≡ past_token v → ((items : List (Option (List ℕ))) (rest : List ℕ) → ItemListParses w items rest → ⊥)
    → (n : Notation) (rest : List ℕ) → NotationParses limit level u n rest → ⊥
enumerated_none limit level u v w e m k none n rest p =
    let b = inverted Start.enumerated (sym e) p in
    none b.items rest (subst (λ x. ItemListParses x b.items rest) (sym (k ∙ ap past_token m)) b.list)

-- No notation begins here.
pub nothing_none : (limit level : ℕ) (u : List ℕ) → Start.nothing ≡ start_at u → (n : Notation) (rest : List ℕ) → NotationParses limit level u n rest → ⊥
nothing_none limit level u e n rest p = inverted Start.nothing (sym e) p
