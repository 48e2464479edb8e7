-- The grammar of types: which type stands at the front of tokens, and what follows it.
use Rattle.std.specs.Prelude.{ℕ, suc, ◌≤◌, ◌≡◌, ◌≢◌, List, [], ◌∷◌, drop, Bool, true, false, ◌&&◌, nat_le, if◌then◌else◌, Option, Some, None, filter_map}
use Rattle.std.specs.List.{count_by}
use Rattle.asn_lexer.specs.declared.keyword.Keyword.TheVariants as keyword
use Rattle.asn_lexer.specs.declared.kind.Kind.{Kind}
use Rattle.asn_lexer.specs.declared.kind.Kind.TheVariants as kind
use Rattle.asn_lexer.specs.declared.token.Token.{Token}
use Rattle.asn_modules_grammar.specs.headers.Fronts.{first_is}
use Rattle.asn_modules_grammar.specs.headers.Groups.{past_groups}
use Rattle.asn_modules_grammar.specs.declared.headers.group.Group.TheVariants.{Braces}
use Rattle.asn_model.specs.Shape.{SeqKind}
use Rattle.asn_modules_grammar.specs.notation.Kinds.{first_kind, token_at, is_colon, is_component_word, is_number}
use Rattle.asn_modules_grammar.specs.notation.Notation.{Notation, Base, Member, notation, leaf, integer, bit_string, enumerated, members, list_of, choice, reference, all_types, instance_or, component, components_of, group, marker, members_of, is_marker, may_have_components}
use Rattle.asn_modules_grammar.specs.notation.Numbers.{NamedNumbersParse, ItemsParse}
use Rattle.asn_modules_grammar.specs.notation.Sizes.{ConstraintsParse, of_at}
use Rattle.asn_modules_grammar.specs.notation.Starts.{Start, start_at, begins_type}
use Rattle.asn_modules_grammar.specs.notation.Tags.{TagsParse}
use Rattle.asn_modules_grammar.specs.notation.Values.{presence_at}
use Rattle.asn_modules_grammar.specs.declared.notation.leaf.Leaf.{Leaf}
use Rattle.asn_modules_grammar.specs.declared.notation.notation.Presence.{Presence}
use Rattle.asn_modules_grammar.specs.declared.notation.number.Item.{Item}
use Rattle.asn_modules_grammar.specs.declared.notation.number.NamedNumber.{NamedNumber}
use Rattle.asn_modules_grammar.specs.declared.notation.size.Size.{Size}
use Rattle.asn_modules_grammar.specs.declared.notation.tag.TagNotation.{TagNotation}

-- The sizes among constraints.
abbrev pub sizes_of : List (Option Size) → List Size
sizes_of = filter_map (λ size. size)

-- What follows the number of a version and its colon, if they stand here.
abbrev pub past_version : List Token → List Token
past_version u =
    if first_is is_number u && first_is is_colon (drop 1 u) then drop 1 (drop 1 u) else u

mutual
  -- Looked for at the level, which is at most the limit, the type stands at the front of the
  -- tokens, and the rest follows it.
  pub data NotationParses (limit : ℕ) : ℕ → List Token → Notation → List Token → Type 0 where
    notation_parses : {level : ℕ} {u v w x rest : List Token} {tags : List TagNotation}
        {start : Start} {base : Base} {constraints : List (Option Size)} → level ≤ limit
        → TagsParse u tags v → start_at v ≡ Some (start, w)
        → BaseParses limit level start w base x → ConstraintsParse x constraints rest
        → NotationParses limit level u (notation tags base (sizes_of constraints)) rest

  -- After the words that stand for this start, at the level, the type goes on, and the rest
  -- follows it.
  pub data BaseParses (limit : ℕ) : ℕ → Start → List Token → Base → List Token → Type 0 where
    leaf_parses : {level : ℕ} {u : List Token} {l : Leaf}
        → BaseParses limit level (Start.leaf l) u (leaf l) u
    reference_parses : {level : ℕ} {u : List Token} {home : Option Token} {name : Token}
        → first_kind u ≢ Some kind.OpenBrace
        → BaseParses limit level (Start.reference home name) u (reference home name) u
    instance_parses : {level : ℕ} {u rest : List Token} {home : Option Token} {name : Token}
        {ns : List (Option Notation)} → first_kind u ≡ Some kind.OpenBrace
        → ArgumentsParse limit (suc level) (drop 1 u) ns rest
        → BaseParses limit level (Start.reference home name) u
        (instance_or home name (all_types ns)) rest
    integer_parses : {level : ℕ} {u rest : List Token} {ns : List NamedNumber}
        → NamedNumbersParse u ns rest → BaseParses limit level Start.integer u (integer ns) rest
    bit_string_parses : {level : ℕ} {u rest : List Token} {ns : List NamedNumber}
        → NamedNumbersParse u ns rest
        → BaseParses limit level Start.bit_string u (bit_string ns) rest
    enumerated_parses : {level : ℕ} {u rest : List Token} {items : List (Option Item)}
        → first_kind u ≡ Some kind.OpenBrace → ItemsParse (drop 1 u) items rest
        → BaseParses limit level Start.enumerated u (enumerated items) rest
    members_parse : {level : ℕ} {u rest : List Token} {seq : SeqKind} {ms : List Member}
        → first_kind u ≡ Some kind.OpenBrace → BracesParse limit (suc level) true (drop 1 u) ms rest
        → BaseParses limit level (Start.members seq) u (members seq (members_of ms)) rest
    list_parses : {level : ℕ} {u v rest : List Token} {seq : SeqKind} {n : Notation}
        → of_at u ≡ Some v → NotationParses limit (suc level) v n rest
        → BaseParses limit level (Start.members seq) u (list_of seq n) rest
    choice_parses : {level : ℕ} {u rest : List Token} {ms : List Member}
        → first_kind u ≡ Some kind.OpenBrace
        → BracesParse limit (suc level) false (drop 1 u) ms rest
        → BaseParses limit level Start.choice u (choice (members_of ms)) rest

  -- From the tokens these actual parameters stand, with commas between them, up to the brace that
  -- closes them, and the rest follows that. `None` is what begins no type, or goes on after one
  -- otherwise than with a comma, with all that follows it.
  pub data ArgumentsParse (limit : ℕ) : ℕ → List Token → List (Option Notation) → List Token → Type 0 where
    other_arguments : {level : ℕ} {u rest : List Token} → begins_type u ≡ false
        → past_groups (Braces ∷ []) u ≡ Some rest → ArgumentsParse limit level u (None ∷ []) rest
    last_argument : {level : ℕ} {u v : List Token} {n : Notation} → begins_type u ≡ true
        → NotationParses limit level u n v → first_kind v ≡ Some kind.CloseBrace
        → ArgumentsParse limit level u (Some n ∷ []) (drop 1 v)
    next_argument : {level : ℕ} {u v rest : List Token} {n : Notation} {ns : List (Option Notation)}
        → begins_type u ≡ true → NotationParses limit level u n v → first_kind v ≡ Some kind.Comma
        → ArgumentsParse limit level (drop 1 v) ns rest
        → ArgumentsParse limit level u (Some n ∷ ns) rest
    unlike_argument : {level : ℕ} {u v rest : List Token} {n : Notation} → begins_type u ≡ true
        → NotationParses limit level u n v → first_kind v ≢ Some kind.CloseBrace
        → first_kind v ≢ Some kind.Comma
        → past_groups (Braces ∷ []) v ≡ Some rest
        → ArgumentsParse limit level u (Some n ∷ None ∷ []) rest

  -- Within what a token of the kind closes, an entry stands at the front of the tokens, whose types
  -- are looked for at the level. `fields` states whether it is one of a SEQUENCE or SET: only there
  -- may it be absent or COMPONENTS OF, of a SEQUENCE, a SET or a name. Only braces hold markers and
  -- groups.
  pub data MemberParses (limit : ℕ) : ℕ → Bool → Kind → List Token → Member → List Token → Type 0 where
    component_parses : {level : ℕ} {fields : Bool} {closing : Kind} {u v w rest : List Token}
        {name : Token} {n : Notation} {presence : Presence}
        → token_at is_component_word u ≡ Some (name, v) → NotationParses limit level v n w
        → presence_at fields w ≡ Some (presence, rest)
        → MemberParses limit level fields closing u (component name n presence) rest
    components_of_parses : {level : ℕ} {closing : Kind} {u rest : List Token} {n : Notation}
        → first_kind u ≡ Some (kind.Reserved keyword.Components)
        → first_kind (drop 1 u) ≡ Some (kind.Reserved keyword.Of)
        → NotationParses limit level (drop 1 (drop 1 u)) n rest → may_have_components n ≡ true
        → MemberParses limit level true closing u (components_of n) rest
    marker_parses : {level : ℕ} {fields : Bool} {u : List Token} → first_kind u ≡ Some kind.Ellipsis
        → MemberParses limit level fields kind.CloseBrace u marker (drop 1 u)
    group_parses : {level : ℕ} {fields : Bool} {u rest : List Token} {ms : List Member}
        → first_kind u ≡ Some kind.OpenVersion
        → MembersParse limit level fields kind.CloseVersion (past_version (drop 1 u)) ms rest
        → MemberParses limit level fields kind.CloseBrace u (group (members_of ms)) rest

  -- These entries stand with commas between them up to the token of the kind that closes them, and
  -- the rest follows that.
  pub data MembersParse (limit : ℕ) : ℕ → Bool → Kind → List Token → List Member → List Token → Type 0 where
    last_member : {level : ℕ} {fields : Bool} {closing : Kind} {u v : List Token} {m : Member}
        → MemberParses limit level fields closing u m v → first_kind v ≡ Some closing
        → MembersParse limit level fields closing u (m ∷ []) (drop 1 v)
    next_member : {level : ℕ} {fields : Bool} {closing : Kind} {u v rest : List Token} {m : Member}
        {ms : List Member} → MemberParses limit level fields closing u m v
        → first_kind v ≡ Some kind.Comma
        → MembersParse limit level fields closing (drop 1 v) ms rest
        → MembersParse limit level fields closing u (m ∷ ms) rest

  -- So between braces, where there may be none, and at most two extension markers.
  pub data BracesParse (limit : ℕ) : ℕ → Bool → List Token → List Member → List Token → Type 0 where
    no_members_parse : {level : ℕ} {fields : Bool} {u : List Token}
        → first_kind u ≡ Some kind.CloseBrace → BracesParse limit level fields u [] (drop 1 u)
    some_members_parse : {level : ℕ} {fields : Bool} {u rest : List Token} {ms : List Member}
        → MembersParse limit level fields kind.CloseBrace u ms rest
        → nat_le (count_by is_marker ms) 2 ≡ true → BracesParse limit level fields u ms rest
