-- The grammar: which notation stands at the front of a text, and what follows it.
use Rattle.std.specs.Prelude.{ℕ, suc, ◌≤◌, ◌≡◌, List, [], ◌∷◌, Bool, true, false, ◌&&◌, if◌then◌else◌, Option, Some, None}
use Rattle.asn_model.specs.Shape.{SeqKind}
use Rattle.asn_notation.specs.Notation.{Notation, Element, Assignment, members, list_of, choice, enumerated, component, marker, elements_of, is_marker, is_item_marker, at_most_one}
use Rattle.asn_notation.specs.Tokens.{Token, first_token, past_token, word_at, keyword_at}
use Rattle.asn_notation.specs.Starts.{Start, start_at, is_type_name}
use Rattle.asn_notation.specs.declared.keyword.Keyword.{Keyword}
use Rattle.asn_notation.specs.declared.keyword.Keyword.TheVariants as keyword

-- The word is OPTIONAL.
abbrev pub is_optional_word : Option Keyword → Bool
is_optional_word (Some keyword.Optional) = true
is_optional_word k = false

-- The component before the text may be absent: OPTIONAL stands behind it, where it may.
abbrev pub is_optional : Bool → List ℕ → Bool
is_optional allowed u = allowed && is_optional_word (keyword_at u)

-- What follows a component and its OPTIONAL, if there is one.
abbrev pub past_optional : Bool → List ℕ → List ℕ
past_optional allowed u = if is_optional allowed u then past_token u else u

-- Whether another entry of a list follows the token, which ends one.
abbrev pub separator_of : Token → Option Bool
separator_of Token.comma = Some true
separator_of Token.close_brace = Some false
separator_of t = None

-- An item of an ENUMERATED stands at the front of the text with the comma or brace that ends it, and the rest follows that.
pub data ItemParses : List ℕ → Option (List ℕ) → Bool → List ℕ → Type 0 where
  item_parses : {u name : List ℕ} {more : Bool} → word_at u ≡ Some name → separator_of (first_token (past_token u)) ≡ Some more → ItemParses u (Some name) more (past_token (past_token u))
  item_marker_parses : {u : List ℕ} {more : Bool} → first_token u ≡ Token.ellipsis → separator_of (first_token (past_token u)) ≡ Some more → ItemParses u None more (past_token (past_token u))

-- The items stand at the front of the text up to the closing brace, and the rest follows it.
pub data ItemsParse : List ℕ → List (Option (List ℕ)) → List ℕ → Type 0 where
  last_item : {u rest : List ℕ} {i : Option (List ℕ)} → ItemParses u i false rest → ItemsParse u (i ∷ []) rest
  next_item : {u v rest : List ℕ} {i : Option (List ℕ)} {items : List (Option (List ℕ))} → ItemParses u i true v → ItemsParse v items rest → ItemsParse u (i ∷ items) rest

-- So do they where there may be none, after an opening brace.
pub data ItemListParses : List ℕ → List (Option (List ℕ)) → List ℕ → Type 0 where
  no_items : {u : List ℕ} → first_token u ≡ Token.close_brace → ItemListParses u [] (past_token u)
  some_items : {u rest : List ℕ} {items : List (Option (List ℕ))} → ItemsParse u items rest → at_most_one is_item_marker items ≡ true → ItemListParses u items rest

mutual
  -- Looked for at the level, which is at most the limit, the notation stands at the front of the text, and the rest follows it.
  pub data NotationParses (limit : ℕ) : ℕ → List ℕ → Notation → List ℕ → Type 0 where
    whole_parses : {level : ℕ} {u : List ℕ} {n : Notation} → level ≤ limit → start_at u ≡ Start.whole n → NotationParses limit level u n (past_token u)
    pair_parses : {level : ℕ} {u : List ℕ} {k : Keyword} {n : Notation} → level ≤ limit → start_at u ≡ Start.pair k n → keyword_at (past_token u) ≡ Some k → NotationParses limit level u n (past_token (past_token u))
    members_parse : {level : ℕ} {u rest : List ℕ} {kind : SeqKind} {es : List Element} → level ≤ limit → start_at u ≡ Start.members kind → first_token (past_token u) ≡ Token.open_brace
        → ListParses limit (suc level) true (past_token (past_token u)) es rest → NotationParses limit level u (members kind (elements_of es)) rest
    list_parses : {level : ℕ} {u rest : List ℕ} {kind : SeqKind} {n : Notation} → level ≤ limit → start_at u ≡ Start.members kind → keyword_at (past_token u) ≡ Some keyword.Of
        → NotationParses limit (suc level) (past_token (past_token u)) n rest → NotationParses limit level u (list_of kind n) rest
    choice_parses : {level : ℕ} {u rest : List ℕ} {es : List Element} → level ≤ limit → start_at u ≡ Start.choice → first_token (past_token u) ≡ Token.open_brace
        → ListParses limit (suc level) false (past_token (past_token u)) es rest → NotationParses limit level u (choice (elements_of es)) rest
    enumerated_parses : {level : ℕ} {u rest : List ℕ} {items : List (Option (List ℕ))} → level ≤ limit → start_at u ≡ Start.enumerated → first_token (past_token u) ≡ Token.open_brace
        → ItemListParses (past_token (past_token u)) items rest → NotationParses limit level u (enumerated items) rest

  -- An element, whose notation is looked for at the level and which may be optional where that is allowed, stands at the front of the text with the comma or brace that ends it, and the rest follows that.
  pub data ElementParses (limit : ℕ) : ℕ → Bool → List ℕ → Element → Bool → List ℕ → Type 0 where
    component_parses : {level : ℕ} {allowed : Bool} {u name v : List ℕ} {n : Notation} {more : Bool} → word_at u ≡ Some name → NotationParses limit level (past_token u) n v → separator_of (first_token (past_optional allowed v)) ≡ Some more
        → ElementParses limit level allowed u (component name n (is_optional allowed v)) more (past_token (past_optional allowed v))
    marker_parses : {level : ℕ} {allowed : Bool} {u : List ℕ} {more : Bool} → first_token u ≡ Token.ellipsis → separator_of (first_token (past_token u)) ≡ Some more → ElementParses limit level allowed u marker more (past_token (past_token u))

  -- The elements stand at the front of the text up to the closing brace, and the rest follows it.
  pub data ElementsParse (limit : ℕ) : ℕ → Bool → List ℕ → List Element → List ℕ → Type 0 where
    last_element : {level : ℕ} {allowed : Bool} {u rest : List ℕ} {e : Element} → ElementParses limit level allowed u e false rest → ElementsParse limit level allowed u (e ∷ []) rest
    next_element : {level : ℕ} {allowed : Bool} {u v rest : List ℕ} {e : Element} {es : List Element} → ElementParses limit level allowed u e true v → ElementsParse limit level allowed v es rest → ElementsParse limit level allowed u (e ∷ es) rest

  -- So do they where there may be none, after an opening brace.
  pub data ListParses (limit : ℕ) : ℕ → Bool → List ℕ → List Element → List ℕ → Type 0 where
    no_elements_parse : {level : ℕ} {allowed : Bool} {u : List ℕ} → first_token u ≡ Token.close_brace → ListParses limit level allowed u [] (past_token u)
    some_elements_parse : {level : ℕ} {allowed : Bool} {u rest : List ℕ} {es : List Element} → ElementsParse limit level allowed u es rest → at_most_one is_marker es ≡ true → ListParses limit level allowed u es rest

-- The whole text is these assignments.
pub data ModuleParses (limit : ℕ) : List ℕ → List Assignment → Type 0 where
  no_assignments : {u : List ℕ} → first_token u ≡ Token.end → ModuleParses limit u []
  assignment_parses : {u name v : List ℕ} {n : Notation} {more : List Assignment} → word_at u ≡ Some name → is_type_name name ≡ true → first_token (past_token u) ≡ Token.assignment
      → NotationParses limit 0 (past_token (past_token u)) n v → ModuleParses limit v more → ModuleParses limit u (record { name = name; notation = n } ∷ more)
