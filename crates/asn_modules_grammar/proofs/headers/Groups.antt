-- How groups are passed over, a token at a time.
use Rattle.std.proofs.Common.{◌≡◌, List, [], ◌∷◌, ◌++◌, Bool, true, false, ◌||◌, if◌then◌else◌, None, refl, sym, ap, ◌∙◌}
use Rattle.std.specs.Prelude.{reverse}
use Rattle.std.proofs.lemmas.List.{reverse-append}
use Rattle.asn_lexer.specs.declared.token.Token.{Token}
use Rattle.asn_modules_grammar.specs.headers.Groups.{opens, closes, past_groups}
use Rattle.asn_modules_grammar.specs.declared.headers.group.Group.{Group}
use Rattle.asn_modules_grammar.specs.declared.headers.group.Group.TheVariants.{Braces, Parens}

-- The five ways on.
ways : (g : Group) (gs : List Group) (t : Token) (u : List Token) (a b c d : Bool)
    → opens Braces t.kind ≡ a → opens Parens t.kind ≡ b → closes g t.kind ≡ c → (closes Braces t.kind || closes Parens t.kind) ≡ d
    → past_groups (g ∷ gs) (t ∷ u) ≡ (if a then past_groups (Braces ∷ g ∷ gs) u else if b then past_groups (Parens ∷ g ∷ gs) u else if c then past_groups gs u else if d then None else past_groups (g ∷ gs) u)
ways g gs t u a b c d e f h k =
    ap (λ x. if x then past_groups (Braces ∷ g ∷ gs) u else if opens Parens t.kind then past_groups (Parens ∷ g ∷ gs) u else if closes g t.kind then past_groups gs u else if (closes Braces t.kind || closes Parens t.kind) then None else past_groups (g ∷ gs) u) e
    ∙ ap (λ x. if a then past_groups (Braces ∷ g ∷ gs) u else if x then past_groups (Parens ∷ g ∷ gs) u else if closes g t.kind then past_groups gs u else if (closes Braces t.kind || closes Parens t.kind) then None else past_groups (g ∷ gs) u) f
    ∙ ap (λ x. if a then past_groups (Braces ∷ g ∷ gs) u else if b then past_groups (Parens ∷ g ∷ gs) u else if x then past_groups gs u else if (closes Braces t.kind || closes Parens t.kind) then None else past_groups (g ∷ gs) u) h
    ∙ ap (λ x. if a then past_groups (Braces ∷ g ∷ gs) u else if b then past_groups (Parens ∷ g ∷ gs) u else if c then past_groups gs u else if x then None else past_groups (g ∷ gs) u) k

pub group_ends : (g : Group) (gs : List Group) (v : List Token) → v ≡ [] → past_groups (g ∷ gs) v ≡ None
group_ends g gs v e = ap (past_groups (g ∷ gs)) e

pub braces_open : (g : Group) (gs hs : List Group) (t : Token) (u v : List Token) → v ≡ t ∷ u → hs ≡ g ∷ gs → opens Braces t.kind ≡ true → past_groups (g ∷ gs) v ≡ past_groups (Braces ∷ hs) u
braces_open g gs hs t u v e m h = ap (past_groups (g ∷ gs)) e ∙ ways g gs t u true _ _ _ h refl refl refl ∙ ap (λ x. past_groups (Braces ∷ x) u) (sym m)

pub parens_open : (g : Group) (gs hs : List Group) (t : Token) (u v : List Token) → v ≡ t ∷ u → hs ≡ g ∷ gs → opens Braces t.kind ≡ false → opens Parens t.kind ≡ true → past_groups (g ∷ gs) v ≡ past_groups (Parens ∷ hs) u
parens_open g gs hs t u v e m h k = ap (past_groups (g ∷ gs)) e ∙ ways g gs t u false true _ _ h k refl refl ∙ ap (λ x. past_groups (Parens ∷ x) u) (sym m)

pub group_closes : (g : Group) (gs : List Group) (t : Token) (u v : List Token) → v ≡ t ∷ u → opens Braces t.kind ≡ false → opens Parens t.kind ≡ false → closes g t.kind ≡ true → past_groups (g ∷ gs) v ≡ past_groups gs u
group_closes g gs t u v e h k l = ap (past_groups (g ∷ gs)) e ∙ ways g gs t u false false true _ h k l refl

pub group_breaks : (g : Group) (gs : List Group) (t : Token) (u v : List Token) → v ≡ t ∷ u → opens Braces t.kind ≡ false → opens Parens t.kind ≡ false → closes g t.kind ≡ false
    → (closes Braces t.kind || closes Parens t.kind) ≡ true → past_groups (g ∷ gs) v ≡ None
group_breaks g gs t u v e h k l m = ap (past_groups (g ∷ gs)) e ∙ ways g gs t u false false false true h k l m

pub group_goes : (g : Group) (gs : List Group) (t : Token) (u v : List Token) → v ≡ t ∷ u → opens Braces t.kind ≡ false → opens Parens t.kind ≡ false → closes g t.kind ≡ false
    → (closes Braces t.kind || closes Parens t.kind) ≡ false → past_groups (g ∷ gs) v ≡ past_groups (g ∷ gs) u
group_goes g gs t u v e h k l m = ap (past_groups (g ∷ gs)) e ∙ ways g gs t u false false false false h k l m

pub pushed : (g : Group) (gs hs : List Group) → hs ≡ gs ++ g ∷ [] → reverse hs ≡ g ∷ reverse gs
pushed g gs hs e = ap reverse e ∙ reverse-append gs (g ∷ [])

pub ruleset group_steps = (group_ends, braces_open, parens_open, group_closes, group_breaks, group_goes, pushed)
