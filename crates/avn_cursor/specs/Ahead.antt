-- What contracts see of a cursor.
use Rattle.std.specs.Prelude.{ℕ, ◌+◌, ◌*◌, ◌≡◌, ◌≤◌, List, refl, length}
use Rattle.avn_grammar.specs.declared.chars.CharClass.TheVariants as is
use Rattle.avn_grammar.specs.Chars.{class_of_next, skip_while, skip, is_name}
use Rattle.std.specs.Coded.{Coded, code_by, coded×, coded_ℕ, coded_list}

-- The whole text, as bytes, the characters that are read next, those that were not looked past, which are these or what follows their blanks, and how many characters were looked at.
pub record Ahead : Type 0 where
  pub text : List ℕ
  pub rest : List ℕ
  pub ahead : List ℕ
  pub looks : ℕ

-- A cursor as nested pairs.
abbrev pub ahead_code : Coded Ahead
ahead_code =
    code_by (List ℕ × (List ℕ × (List ℕ × ℕ))) (coded× (coded_list coded_ℕ) (coded× (coded_list coded_ℕ) (coded× (coded_list coded_ℕ) coded_ℕ)))
    (λ e. (e.text, (e.rest, (e.ahead, e.looks)))) (λ p. record { text = p.0; rest = p.1.0; ahead = p.1.1.0; looks = p.1.1.1 }) (λ _. refl)

-- The same text, further on: at most so many looks were taken for each character that was looked
-- past.
pub record Advances (each : ℕ) (old new : Ahead) : Type 0 where
  pub same : new.text ≡ old.text
  pub rises : old.looks ≤ new.looks
  pub cost : new.looks + each * length new.ahead ≤ old.looks + each * length old.ahead
  pub nearer : length new.ahead ≤ length old.ahead
  pub shorter : length new.rest ≤ length old.rest

-- The same text, and at most so many looks more.
pub record LooksAtMost (most : ℕ) (old new : Ahead) : Type 0 where
  pub same : new.text ≡ old.text
  pub rises : old.looks ≤ new.looks
  pub few : new.looks ≤ old.looks + most

-- The text begins with an identifier, blanks and a colon.
pub record BeginsChoice (text : List ℕ) : Type 0 where
  pub letter : class_of_next text ≡ is.Letter
  pub colon : class_of_next (skip (skip_while is_name text)) ≡ is.Colon
