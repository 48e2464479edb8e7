-- What a notation is, by the first word of its text.
use Rattle.std.proofs.Common.{◌≡◌, ◌≤◌, ◌⊎◌, inl, inr, ℕ, suc, List, Bool, true, false, Option, Some, None, refl, sym, ap, subst, ◌∙◌}
use Rattle.asn_model.specs.Shape.{SeqKind}
use Rattle.asn_notation.specs.Notation.{Notation, Element, Elements, members, list_of, choice, enumerated, elements_of}
use Rattle.asn_notation.specs.Tokens.{Token, first_token, past_token, keyword_at, keyword_of, word_of, word_at}
use Rattle.asn_notation.specs.Starts.{Start, start_at}
use Rattle.asn_notation.specs.Grammar.{NotationParses, whole_parses, pair_parses, members_parse, list_parses, choice_parses, enumerated_parses, ListParses, ItemListParses}
use Rattle.asn_notation.specs.declared.keyword.Keyword.{Keyword}
use Rattle.asn_notation.specs.declared.keyword.Keyword.TheVariants as keyword

-- Behind its first word the notation is elements between braces.
pub record IsBraced (limit level : ℕ) (allowed : Bool) (u : List ℕ) (f : Elements → Notation) (n : Notation) (rest : List ℕ) : Type 0 where
  pub elements : List Element
  pub open_brace : first_token (past_token u) ≡ Token.open_brace
  pub list : ListParses limit (suc level) allowed (past_token (past_token u)) elements rest
  pub made : n ≡ f (elements_of elements)

-- Behind its first word the notation is OF and a notation.
pub record IsListOf (limit level : ℕ) (u : List ℕ) (kind : SeqKind) (n : Notation) (rest : List ℕ) : Type 0 where
  pub part : Notation
  pub of_word : keyword_at (past_token u) ≡ Some keyword.Of
  pub parses : NotationParses limit (suc level) (past_token (past_token u)) part rest
  pub made : n ≡ list_of kind part

-- Behind its first word the notation is items between braces.
pub record IsEnumerated (u : List ℕ) (n : Notation) (rest : List ℕ) : Type 0 where
  pub items : List (Option (List ℕ))
  pub open_brace : first_token (past_token u) ≡ Token.open_brace
  pub list : ItemListParses (past_token (past_token u)) items rest
  pub made : n ≡ enumerated items

-- The notation is two words.
pub record IsPair (u : List ℕ) (k : Keyword) (m n : Notation) (rest : List ℕ) : Type 0 where
  pub second : keyword_at (past_token u) ≡ Some k
  pub made : n ≡ m
  pub left : rest ≡ past_token (past_token u)

-- The notation is one word.
pub record IsWhole (u : List ℕ) (m n : Notation) (rest : List ℕ) : Type 0 where
  pub made : n ≡ m
  pub left : rest ≡ past_token u

-- What the notation is where its first word stands for this.
abbrev pub Body : ℕ → ℕ → List ℕ → Start → Notation → List ℕ → Type 0
Body limit level u (Start.whole m) n rest = IsWhole u m n rest
Body limit level u (Start.pair k m) n rest = IsPair u k m n rest
Body limit level u (Start.members kind) n rest = IsBraced limit level true u (λ es. members kind es) n rest ⊎ IsListOf limit level u kind n rest
Body limit level u Start.choice n rest = IsBraced limit level false u (λ es. choice es) n rest
Body limit level u Start.enumerated n rest = IsEnumerated u n rest
Body limit level u Start.nothing n rest = ⊥

-- What a notation is, by what its first word stands for.
pub inverted : {limit level : ℕ} {u rest : List ℕ} {n : Notation} (s : Start) → start_at u ≡ s → NotationParses limit level u n rest → Body limit level u s n rest
inverted {limit = limit} {level = level} s e (whole_parses {u = u} {n = n} l f) =
    subst (λ x. Body limit level u x n (past_token u)) (sym f ∙ e) (record { made = refl; left = refl })
inverted {limit = limit} {level = level} s e (pair_parses {u = u} {n = n} l f k) =
    subst (λ x. Body limit level u x n (past_token (past_token u))) (sym f ∙ e) (record { second = k; made = refl; left = refl })
inverted {limit = limit} {level = level} s e (members_parse {u = u} {rest = rest} {kind = kind} {es = es} l f o d) =
    subst (λ x. Body limit level u x (members kind (elements_of es)) rest) (sym f ∙ e) (inl (record { elements = es; open_brace = o; list = d; made = refl }))
inverted {limit = limit} {level = level} s e (list_parses {u = u} {rest = rest} {kind = kind} {n = n} l f o d) =
    subst (λ x. Body limit level u x (list_of kind n) rest) (sym f ∙ e) (inr (record { part = n; of_word = o; parses = d; made = refl }))
inverted {limit = limit} {level = level} s e (choice_parses {u = u} {rest = rest} {es = es} l f o d) =
    subst (λ x. Body limit level u x (choice (elements_of es)) rest) (sym f ∙ e) (record { elements = es; open_brace = o; list = d; made = refl })
inverted {limit = limit} {level = level} s e (enumerated_parses {u = u} {rest = rest} {items = items} l f o d) =
    subst (λ x. Body limit level u x (enumerated items) rest) (sym f ∙ e) (record { items = items; open_brace = o; list = d; made = refl })

-- A notation stands within the limit.
pub within : {limit level : ℕ} {u rest : List ℕ} {n : Notation} → NotationParses limit level u n rest → level ≤ limit
within (whole_parses l f) = l
within (pair_parses l f k) = l
within (members_parse l f o d) = l
within (list_parses l f o d) = l
within (choice_parses l f o d) = l
within (enumerated_parses l f o d) = l

-- A brace is no reserved word.
pub brace_keyword : (v : List ℕ) (k : Keyword) → first_token v ≡ Token.open_brace → keyword_at v ≡ Some k → ⊥
brace_keyword v k o h = let n : keyword_at v ≡ None = ap (λ t. keyword_of (word_of t)) o in let m : None ≡ Some k = sym n ∙ h in cc

-- A token that is no word.
pub token_word : (v name : List ℕ) (t : Token) → first_token v ≡ t → word_of t ≡ None → word_at v ≡ Some name → ⊥
token_word v name t o e h = let m : None ≡ Some name = sym (ap word_of o ∙ e) ∙ h in cc
