-- Clauses of macros, a token at a time.
use Rattle.std.proofs.Common.{◌≡◌, List, [], ◌∷◌, Bool, true, false, if◌then◌else◌, Option, Some, None, refl, sym, ap, ◌∙◌}
use Rattle.asn_lexer.specs.declared.token.Token.{Token}
use Rattle.asn_modules_grammar.specs.notation.Kinds.{is_assignment}
use Rattle.asn_modules_grammar.specs.notation.Macros.{behind_clauses, ends_clauses, is_end, past_clauses, past_end}

pub end_missing : (v : List Token) → v ≡ [] → past_end v ≡ None
end_missing v e = ap past_end e

pub end_here : (t : Token) (u v : List Token) → v ≡ t ∷ u → is_end t.kind ≡ true → past_end v ≡ Some u
end_here t u v e h = ap past_end e ∙ ap (λ b. if b then Some u else past_end u) h

pub end_later : (t : Token) (u v : List Token) → v ≡ t ∷ u → is_end t.kind ≡ false → past_end v ≡ past_end u
end_later t u v e h = ap past_end e ∙ ap (λ b. if b then Some u else past_end u) h

pub ruleset end_steps = (end_missing, end_here, end_later)

ways : (t : Token) (u v : List Token) (a b : Bool) → v ≡ t ∷ u → is_assignment t.kind ≡ a → is_end t.kind ≡ b → past_clauses v ≡ (if a then Some u else if b then None else past_clauses u)
ways t u v a b e h k =
    ap past_clauses e ∙ ap (λ x. if x then Some u else if is_end t.kind then None else past_clauses u) h ∙ ap (λ x. if a then Some u else if x then None else past_clauses u) k

pub clauses_missing : (v : List Token) → v ≡ [] → past_clauses v ≡ None
clauses_missing v e = ap past_clauses e

pub clauses_assigned : (t : Token) (u v : List Token) → v ≡ t ∷ u → is_assignment t.kind ≡ true → past_clauses v ≡ Some u
clauses_assigned t u v e h = ways t u v true _ e h refl

pub clauses_ended : (t : Token) (u v : List Token) → v ≡ t ∷ u → is_assignment t.kind ≡ false → is_end t.kind ≡ true → past_clauses v ≡ None
clauses_ended t u v e h k = ways t u v false true e h k

pub clauses_later : (t : Token) (u v : List Token) → v ≡ t ∷ u → is_assignment t.kind ≡ false → is_end t.kind ≡ false → past_clauses v ≡ past_clauses u
clauses_later t u v e h k = ways t u v false false e h k

pub ruleset clause_steps = (clauses_missing, clauses_assigned, clauses_ended, clauses_later)

pub behind_none : (v : List Token) → v ≡ [] → behind_clauses v ≡ v
behind_none v e = ap behind_clauses e ∙ sym e

pub behind_here : (t : Token) (u v : List Token) → v ≡ t ∷ u → ends_clauses v ≡ true → behind_clauses v ≡ v
behind_here t u v e h = ap behind_clauses e ∙ ap (λ b. if b then t ∷ u else behind_clauses u) (sym (ap ends_clauses e) ∙ h) ∙ sym e

pub behind_later : (t : Token) (u v : List Token) → v ≡ t ∷ u → ends_clauses v ≡ false → behind_clauses v ≡ behind_clauses u
behind_later t u v e h = ap behind_clauses e ∙ ap (λ b. if b then t ∷ u else behind_clauses u) (sym (ap ends_clauses e) ∙ h)

pub ruleset behind_steps = (behind_none, behind_here, behind_later)
