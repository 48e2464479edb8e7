-- Texts in quotes.
use Rattle.std.specs.Prelude.{not, is_some}
use Rattle.std.proofs.Common.{Option, Some, None, MatchOption, All, ◌⊎◌, inl, inr, ◌≡◌, ◌≢◌, ℕ, List, [], ◌∷◌, ◌++◌, Bool, true, false, cond, ◌==◌, refl, sym, ap, subst, ◌∙◌, append_assoc}
use Rattle.std.proofs.lemmas.Bool.{eqb-true, eq-eqb, false_from_ne_true}
use Rattle.std.proofs.lemmas.List.{append-nil}
use Rattle.std.proofs.lemmas.List.Elements.{All-head, All-tail}
use Rattle.std.proofs.lemmas.Str.{encodes-append, encodes-chars}
use Rattle.std.specs.Char.{encode_utf8}
use Rattle.std.specs.Str.{IsUtf8, chars}
use Rattle.avn_grammar.specs.declared.chars.CharClass.TheVariants as is
use Rattle.avn_grammar.specs.Chars.{class_of_next, tail, starts_with, quote_is_doubled, utf8_of}
use Rattle.avn_grammar.specs.Grammar.{Token, text_token}
use Rattle.avn_grammar.specs.Tree.{char_string}
use Rattle.avn_cursor.proofs.Leads.{lead_quote}

pub open_quote : (u : List ℕ) → class_of_next u ≡ is.Quote → u ≡ 34 ∷ tail u
open_quote [] h = let n : ⊥ = cc in absurd n
open_quote (c ∷ u) h = ap (λ x. x ∷ u) (lead_quote c h)

pub no_quote : (u : List ℕ) → starts_with (λ c. c == 34) u ≡ false → class_of_next u ≢ is.Quote
no_quote [] h e = let n : ⊥ = cc in n
no_quote (c ∷ u) h e = let t = eq-eqb c 34 (lead_quote c e) in let n : ⊥ = cc in n

pub text_done : (u r n m : List ℕ) (cs : List ℕ) (c : ℕ) → u ≡ (34 ∷ quote_is_doubled cs) ++ r → c ≡ 34 → r ≡ c ∷ n → m ≡ n → starts_with (λ c. c == 34) n ≡ false → Token u (char_string (utf8_of cs)) m
text_done u r n m cs c e q f g h =
    subst (λ x. Token u (char_string (utf8_of cs)) x) (sym g) (text_token cs (e ∙ ap (λ x. (34 ∷ quote_is_doubled cs) ++ x) (f ∙ ap (λ x. x ∷ n) q)) (no_quote n h))

doubled_plain : (cs : List ℕ) (c : ℕ) → (c == 34) ≡ false → quote_is_doubled (cs ++ (c ∷ [])) ≡ quote_is_doubled cs ++ (c ∷ [])
doubled_plain [] c h = ap (λ b. cond b (34 ∷ 34 ∷ []) (c ∷ [])) h
doubled_plain (d ∷ cs) c h =
    elim (d == 34) as (λ b. cond b (34 ∷ 34 ∷ quote_is_doubled (cs ++ (c ∷ []))) (d ∷ quote_is_doubled (cs ++ (c ∷ []))) ≡ cond b (34 ∷ 34 ∷ quote_is_doubled cs) (d ∷ quote_is_doubled cs) ++ (c ∷ [])) [
      | true ↦ ap (λ x. 34 ∷ 34 ∷ x) (doubled_plain cs c h)
      | false ↦ ap (λ x. d ∷ x) (doubled_plain cs c h)
    ]

doubled_quote : (cs : List ℕ) → quote_is_doubled (cs ++ (34 ∷ [])) ≡ quote_is_doubled cs ++ (34 ∷ 34 ∷ [])
doubled_quote [] = refl
doubled_quote (d ∷ cs) =
    elim (d == 34) as (λ b. cond b (34 ∷ 34 ∷ quote_is_doubled (cs ++ (34 ∷ []))) (d ∷ quote_is_doubled (cs ++ (34 ∷ []))) ≡ cond b (34 ∷ 34 ∷ quote_is_doubled cs) (d ∷ quote_is_doubled cs) ++ (34 ∷ 34 ∷ [])) [
      | true ↦ ap (λ x. 34 ∷ 34 ∷ x) (doubled_quote cs)
      | false ↦ ap (λ x. d ∷ x) (doubled_quote cs)
    ]

pub plain_more : (u r n cs : List ℕ) (c : ℕ) → u ≡ (34 ∷ quote_is_doubled cs) ++ r → (c == 34) ≡ false → r ≡ c ∷ n → u ≡ (34 ∷ quote_is_doubled (cs ++ (c ∷ []))) ++ n
plain_more u r n cs c e h f =
    e ∙ ap (λ x. (34 ∷ quote_is_doubled cs) ++ x) f ∙ sym (append_assoc (34 ∷ quote_is_doubled cs) (c ∷ []) n) ∙ ap (λ x. (34 ∷ x) ++ n) (sym (doubled_plain cs c h))

pub quote_more : (u r n m cs : List ℕ) (c d : ℕ) → u ≡ (34 ∷ quote_is_doubled cs) ++ r → c ≡ 34 → d ≡ 34 → r ≡ c ∷ m → m ≡ d ∷ n → u ≡ (34 ∷ quote_is_doubled (cs ++ (c ∷ []))) ++ n
quote_more u r n m cs c d e f g h i =
    e ∙ ap (λ x. (34 ∷ quote_is_doubled cs) ++ x) (h ∙ ap (λ x. x ∷ m) f ∙ ap (λ x. 34 ∷ x) (i ∙ ap (λ x. x ∷ n) g)) ∙ sym (append_assoc (34 ∷ quote_is_doubled cs) (34 ∷ 34 ∷ []) n) ∙ ap (λ x. (34 ∷ x) ++ n) (sym (doubled_quote cs))
    ∙ ap (λ x. (34 ∷ quote_is_doubled (cs ++ (x ∷ []))) ++ n) (sym f)

pub spelled_more : (a b cs : List ℕ) (c : ℕ) → a ≡ utf8_of cs → b ≡ a ++ encode_utf8 c → b ≡ utf8_of (cs ++ (c ∷ []))
spelled_more a b cs c e f = f ∙ ap (λ x. x ++ encode_utf8 c) e ∙ ap (λ x. utf8_of cs ++ x) (sym (append-nil (encode_utf8 c))) ∙ sym (encodes-append cs (c ∷ []))

pub taken : (A : Type 0) (B : ℕ → Type 0) (r : Option ℕ) (b : Bool) → is_some r ≡ not b → b ≡ false → MatchOption r A B → (d : ℕ) × B d
taken A B None b h e m = let n : ⊥ = cc (ap not e) in absurd n
taken A B (Some d) b h e m = (d, m)

doubled-append : (cs ds : List ℕ) → quote_is_doubled (cs ++ ds) ≡ quote_is_doubled cs ++ quote_is_doubled ds
doubled-append [] ds = refl
doubled-append (c ∷ cs) ds =
    elim (c == 34) as (λ b. cond b (34 ∷ 34 ∷ quote_is_doubled (cs ++ ds)) (c ∷ quote_is_doubled (cs ++ ds)) ≡ cond b (34 ∷ 34 ∷ quote_is_doubled cs) (c ∷ quote_is_doubled cs) ++ quote_is_doubled ds) [
      | true ↦ ap (λ x. 34 ∷ 34 ∷ x) (doubled-append cs ds)
      | false ↦ ap (λ x. c ∷ x) (doubled-append cs ds)
    ]

-- Characters without a quote are written as they are.
doubled-none : (cs : List ℕ) → All (λ c. c ≢ 34) cs → quote_is_doubled cs ≡ cs
doubled-none [] h = refl
doubled-none (c ∷ cs) h =
    ap (λ b. cond b (34 ∷ 34 ∷ quote_is_doubled cs) (c ∷ quote_is_doubled cs)) (false_from_ne_true (c == 34) (λ e. All-head (λ c. c ≢ 34) c cs h (eqb-true c 34 e)))
    ∙ ap (λ x. c ∷ x) (doubled-none cs (All-tail (λ c. c ≢ 34) c cs h))

-- The characters of a run without a quote stand after those before it.
pub run_more : (u r n cs ds : List ℕ) → u ≡ (34 ∷ quote_is_doubled cs) ++ r → r ≡ ds ++ n → All (λ c. c ≢ 34) ds → u ≡ (34 ∷ quote_is_doubled (cs ++ ds)) ++ n
run_more u r n cs ds e f h =
    e ∙ ap (λ x. (34 ∷ quote_is_doubled cs) ++ x) (f ∙ ap (λ x. x ++ n) (sym (doubled-none ds h))) ∙ sym (append_assoc (34 ∷ quote_is_doubled cs) (quote_is_doubled ds) n)
    ∙ ap (λ x. (34 ∷ x) ++ n) (sym (doubled-append cs ds))

-- A text is the spelling of its characters, after others.
pub spelled_run : (text cs : List ℕ) → IsUtf8 text → utf8_of cs ++ text ≡ utf8_of (cs ++ chars text)
spelled_run text cs u = ap (λ x. utf8_of cs ++ x) (sym (encodes-chars text u)) ∙ sym (encodes-append cs (chars text))

-- What stands at the end of a run is a quote.
pub at_quote : (r n : List ℕ) (c : ℕ) → (r ≡ []) ⊎ (r ≡ 34 ∷ tail r) → r ≡ c ∷ n → c ≡ 34
at_quote r n c (inl e) f = let d : ◌≡◌ {A = List ℕ} [] (c ∷ n) = sym e ∙ f in cc d
at_quote r n c (inr e) f = let d : 34 ∷ tail r ≡ c ∷ n = sym e ∙ f in cc d

-- The quote at the end of a text stands after its characters.
pub closed : (u r n m cs : List ℕ) (c : ℕ) → u ≡ (34 ∷ quote_is_doubled cs) ++ r → r ≡ c ∷ m → c ≡ 34 → n ≡ m → u ≡ (34 ∷ quote_is_doubled cs) ++ (34 ∷ n)
closed u r n m cs c e f g h = e ∙ ap (λ x. (34 ∷ quote_is_doubled cs) ++ x) (f ∙ ap (λ d. d ∷ m) g ∙ ap (λ x. 34 ∷ x) (sym h))
