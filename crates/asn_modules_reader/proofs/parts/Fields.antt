-- Fields of object classes, read one at a time.
use Rattle.std.proofs.Common.{◌≡◌, List, [], ◌∷◌, Bool, true, false, ◌&&◌, if◌then◌else◌, Option, Some, None, refl, ap, ◌∙◌}
use Rattle.asn_lexer.specs.declared.token.Token.{Token}
use Rattle.asn_modules_grammar.specs.headers.Fronts.{first_is, is_name}
use Rattle.asn_modules_grammar.specs.notation.Classes.{begins_field, past_fields, past_names}
use Rattle.asn_modules_grammar.specs.notation.Kinds.{is_ampersand, is_point}

never : (b : Bool) → (b && false) ≡ false
never true = refl
never false = refl

pub no_point : (u : List Token) → first_is is_point u ≡ false → begins_field u ≡ false
no_point [] h = refl
no_point (p ∷ []) h = refl
no_point (p ∷ a ∷ u) h = ap (λ b. b && is_ampersand a.kind) h

pub no_ampersand : (t : Token) (u v : List Token) → v ≡ t ∷ u → first_is is_ampersand u ≡ false → begins_field v ≡ false
no_ampersand t [] v e h = ap begins_field e
no_ampersand t (a ∷ u) v e h = ap begins_field e ∙ ap (λ b. is_point t.kind && b) h ∙ never (is_point t.kind)

pub field_here : (p a : Token) (u v w : List Token) → w ≡ p ∷ v → v ≡ a ∷ u → is_point p.kind ≡ true → is_ampersand a.kind ≡ true → begins_field w ≡ true
field_here p a u v w e f h k = ap begins_field (e ∙ ap (λ x. p ∷ x) f) ∙ ap (λ b. b && is_ampersand a.kind) h ∙ k

pub field_past : (p a : Token) (u v w : List Token) → w ≡ p ∷ v → v ≡ a ∷ u → is_point p.kind ≡ true → is_ampersand a.kind ≡ true → past_fields w ≡ past_names u
field_past p a u v w e f h k =
    ap past_fields (e ∙ ap (λ x. p ∷ x) f)
    ∙ ap (λ b. if b && is_ampersand a.kind then past_names u else Some (p ∷ a ∷ u)) h
    ∙ ap (λ b. if b then past_names u else Some (p ∷ a ∷ u)) k

pub ruleset field_steps = (no_point, no_ampersand, field_here, field_past)

pub fields_end : (u : List Token) → begins_field u ≡ false → past_fields u ≡ Some u
fields_end [] h = refl
fields_end (p ∷ []) h = refl
fields_end (p ∷ a ∷ u) h = ap (λ b. if b then past_names u else Some (p ∷ a ∷ u)) h

pub name_past : (t : Token) (u v : List Token) → v ≡ t ∷ u → is_name t.kind ≡ true → past_names v ≡ past_fields u
name_past t u v e h = ap past_names e ∙ ap (λ b. if b then past_fields u else None) h

pub name_missing : (v : List Token) → first_is is_name v ≡ false → past_names v ≡ None
name_missing [] h = refl
name_missing (t ∷ u) h = ap (λ b. if b then past_fields u else None) h

pub ruleset name_steps = (fields_end, name_past, name_missing)
