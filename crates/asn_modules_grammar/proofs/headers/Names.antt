-- How names are read, one at a time.
use Rattle.std.proofs.Common.{◌≡◌, List, [], ◌∷◌, ◌++◌, Bool, true, false, drop, if◌then◌else◌, Option, Some, None, refl, sym, ap, ◌∙◌, append_assoc}
use Rattle.std.specs.Option.{option_map, option_and_then}
use Rattle.asn_lexer.specs.declared.token.Token.{Token}
use Rattle.asn_modules_grammar.specs.headers.Fronts.{first_is, is_name}
use Rattle.asn_modules_grammar.specs.headers.Marks.{is_mark}
use Rattle.asn_modules_grammar.specs.declared.headers.mark.Mark.TheVariants.{Comma}
use Rattle.asn_modules_grammar.specs.headers.Groups.{opens, closes}
use Rattle.asn_modules_grammar.specs.declared.headers.group.Group.TheVariants.{Braces}
use Rattle.asn_modules_grammar.specs.headers.Headers.{closed_here, past_empty_braces, names_at, names_from, names_past, names_behind}

-- What was read, with more names in front.
abbrev pub in_front : List Token → Option (List Token × List Token) → Option (List Token × List Token)
in_front ns found = option_map (λ p. (ns ++ p.0, p.1)) found

more_in_front : (ns ms : List Token) (t : Token) (found : Option (List Token × List Token)) → ms ≡ ns ++ t ∷ [] → in_front ns (option_map (λ p. (t ∷ p.0, p.1)) found) ≡ in_front ms found
more_in_front ns ms t None e = refl
more_in_front ns ms t (Some p) e = ap (λ l. Some (l, p.1)) (sym (append_assoc ns (t ∷ []) p.0) ∙ ap (λ l. l ++ p.0) (sym e))

-- Past one name, and the braces after it.
behind_past : (t : Token) (u : List Token) → names_past t u ≡ option_and_then (names_behind t) (closed_here u)
behind_past t [] = refl
behind_past t (c ∷ u) = split (closes Braces c.kind)
  where
    split : (b : Bool) → (if b then names_behind t u else None) ≡ option_and_then (names_behind t) (if b then Some u else None)
    split true = refl
    split false = refl

joined : (t : Token) (u : List Token) → names_from t u ≡ option_and_then (names_behind t) (past_empty_braces u)
joined t [] = refl
joined t (c ∷ u) = split (opens Braces c.kind)
  where
    split : (b : Bool) → (if b then names_past t u else names_behind t (c ∷ u)) ≡ option_and_then (names_behind t) (if b then closed_here u else Some (c ∷ u))
    split true = behind_past t u
    split false = refl

named : (t : Token) (v w : List Token) → v ≡ t ∷ w → is_name t.kind ≡ true → names_at v ≡ option_and_then (names_behind t) (past_empty_braces w)
named t v w e h = ap names_at e ∙ ap (λ b. if b then names_from t w else None) h ∙ joined t w

pub name_goes : (t : Token) (u v w x ns ms : List Token) → v ≡ t ∷ w → is_name t.kind ≡ true → past_empty_braces w ≡ Some x → first_is (is_mark Comma) x ≡ true → u ≡ drop 1 x → ms ≡ ns ++ t ∷ []
    → in_front ns (names_at v) ≡ in_front ms (names_at u)
name_goes t u v w [] ns ms e h b k d m = let x : ⊥ = cc in absurd x
name_goes t u v w (c ∷ x) ns ms e h b k d m =
    ap (in_front ns) (named t v w e h ∙ ap (option_and_then (names_behind t)) b ∙ ap (λ y. if y then option_map (λ p. (t ∷ p.0, p.1)) (names_at x) else Some (t ∷ [], c ∷ x)) k)
    ∙ more_in_front ns ms t (names_at x) m ∙ ap (λ y. in_front ms (names_at y)) (sym d)

pub name_last : (t : Token) (v w x ns ms : List Token) → v ≡ t ∷ w → is_name t.kind ≡ true → past_empty_braces w ≡ Some x → first_is (is_mark Comma) x ≡ false → ms ≡ ns ++ t ∷ [] → in_front ns (names_at v) ≡ Some (ms, x)
name_last t v w [] ns ms e h b k m = ap (in_front ns) (named t v w e h ∙ ap (option_and_then (names_behind t)) b) ∙ ap (λ l. Some (l, [])) (sym m)
name_last t v w (c ∷ x) ns ms e h b k m =
    ap (in_front ns) (named t v w e h ∙ ap (option_and_then (names_behind t)) b ∙ ap (λ y. if y then option_map (λ p. (t ∷ p.0, p.1)) (names_at x) else Some (t ∷ [], c ∷ x)) k)
    ∙ ap (λ l. Some (l, c ∷ x)) (sym m)

pub name_open : (t : Token) (v w ns : List Token) → v ≡ t ∷ w → is_name t.kind ≡ true → past_empty_braces w ≡ None → in_front ns (names_at v) ≡ None
name_open t v w ns e h b = ap (in_front ns) (named t v w e h ∙ ap (option_and_then (names_behind t)) b)

other_here : (v : List Token) → first_is is_name v ≡ false → names_at v ≡ None
other_here [] h = refl
other_here (t ∷ u) h = ap (λ b. if b then names_from t u else None) h

pub name_none : (v ns : List Token) → first_is is_name v ≡ false → in_front ns (names_at v) ≡ None
name_none v ns h = ap (in_front ns) (other_here v h)

pub ruleset name_steps = (name_goes, name_last, name_open, name_none)
