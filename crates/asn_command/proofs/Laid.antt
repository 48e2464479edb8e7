-- Texts on one line, byte by byte.
use Rattle.std.proofs.Common.{◌≡◌, ◌≢◌, ◌<◌, ◌≤◌, ◌+◌, ◌++◌, ℕ, List, [], ◌∷◌, length, drop, get_or, Bool, true, false, ◌==◌, if◌then◌else◌, Option, Some, None, option_map, refl, sym, ap, ◌∙◌, append_assoc, append-nil}
use Rattle.std.proofs.lemmas.List.{drop_all, drop_more}
use Rattle.asn_command.specs.OneLine.{behind, joined, laid, step_of}
use Rattle.asn_command.specs.declared.one_line.Step.TheVariants.{Stop, Skip, Put}
use Rattle.asn_command.specs.declared.one_line.Within.{Within}
use Rattle.asn_command.specs.declared.one_line.Within.TheVariants.{Line, Indentation, Text}

-- Bytes and what follows them.
abbrev pub put : List ℕ → Option (List ℕ) → Option (List ℕ)
put front rest = option_map (λ bytes. front ++ bytes) rest

put_more : (front : List ℕ) (b : ℕ) (rest : Option (List ℕ)) → put front (option_map (λ bytes. b ∷ bytes) rest) ≡ put (front ++ b ∷ []) rest
put_more front b None = refl
put_more front b (Some bytes) = ap (λ l. Some l) (sym (append_assoc front (b ∷ []) bytes))

-- The first byte of those from a place on.
one_more : (place : Within) (text : List ℕ) (i b : ℕ) → i < length text → b ≡ get_or text i b → laid place (drop i text) ≡ joined (step_of place b) (laid (behind place b) (drop (i + 1) text))
one_more place text i b h is = ap (laid place) (drop_more text i b h ∙ ap (λ x. x ∷ drop (i + 1) text) (sym is))

module _ (all : Option (List ℕ)) (now : List ℕ) (place : Within) (text : List ℕ) (i b : ℕ) (h : i < length text) (is : b ≡ get_or text i b) (e : all ≡ put now (laid place (drop i text))) where
  -- A byte is put there.
  pub laid_put : (c : ℕ) (after : List ℕ) → Put c ≡ step_of place b → after ≡ now ++ c ∷ [] → all ≡ put after (laid (behind place b) (drop (i + 1) text))
  laid_put c after s a =
      let rest = laid (behind place b) (drop (i + 1) text) in
      e ∙ ap (put now) (one_more place text i b h is ∙ ap (λ t. joined t rest) (sym s)) ∙ put_more now c rest ∙ ap (λ l. put l rest) (sym a)

  -- The byte is left out.
  pub laid_skip : Skip ≡ step_of place b → all ≡ put now (laid (behind place b) (drop (i + 1) text))
  laid_skip s = e ∙ ap (put now) (one_more place text i b h is ∙ ap (λ t. joined t (laid (behind place b) (drop (i + 1) text))) (sym s))

  -- There is no text on one line.
  pub laid_stop : Stop ≡ step_of place b → all ≡ None
  laid_stop s = e ∙ ap (put now) (one_more place text i b h is ∙ ap (λ t. joined t (laid (behind place b) (drop (i + 1) text))) (sym s))

-- After the last byte there is none.
pub laid_end : (all : Option (List ℕ)) (now : List ℕ) (place : Within) (text : List ℕ) (i : ℕ) → length text ≤ i → all ≡ put now (laid place (drop i text)) → all ≡ Some now
laid_end all now place text i h e = e ∙ ap (λ l. put now (laid place l)) (drop_all i text h) ∙ ap (λ l. Some l) (append-nil now)

-- A byte that is put there is no line feed.
pub put_plain : (place : Within) (b c : ℕ) → Put c ≡ step_of place b → c ≢ 10
put_plain place b c = by place (b == 10) refl
  where
    other : (b == 10) ≡ false → Put c ≡ Put b → c ≢ 10
    other e s h = let same : c ≡ b = cc s in let at : 10 ≡ b = sym h ∙ same in let yes : true ≡ false = ap (λ n. n == 10) at ∙ e in cc yes

    blank : Put c ≡ Put 32 → c ≢ 10
    blank s h = let same : c ≡ 32 = cc s in let no : 10 ≡ 32 = sym h ∙ same in cc no

    indented : (k : Bool) → (b == 10) ≡ false → Put c ≡ (if k then Skip else Put b) → c ≢ 10
    indented true e s = cc s
    indented false e s = other e s

    by : (place : Within) (k : Bool) → (b == 10) ≡ k → Put c ≡ step_of place b → c ≢ 10
    by Line true e s = blank (s ∙ ap (λ k. if k then Put 32 else Put b) e)
    by Line false e s = other e (s ∙ ap (λ k. if k then Put 32 else Put b) e)
    by Indentation true e s = blank (s ∙ ap (λ k. if k then Put 32 else (if b == 32 then Skip else Put b)) e)
    by Indentation false e s = indented (b == 32) e (s ∙ ap (λ k. if k then Put 32 else (if b == 32 then Skip else Put b)) e)
    by Text true e s = let no : Put c ≡ Stop = s ∙ ap (λ k. if k then Stop else Put b) e in cc no
    by Text false e s = other e (s ∙ ap (λ k. if k then Stop else Put b) e)
