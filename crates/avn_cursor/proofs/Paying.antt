-- Looks at characters.
use Rattle.std.proofs.Common.{◌≡◌, ◌≤◌, ◌<◌, ◌+◌, ◌++◌, ℕ, List, [], ◌∷◌, length, arith, ap, ◌∙◌}
use Rattle.std.proofs.Math.Utf8.{encodes}
use Rattle.std.proofs.lemmas.List.{length-append}
use Rattle.std.proofs.lemmas.Str.{encodes-chars}
use Rattle.std.specs.Str.{IsUtf8, chars}
use Rattle.avn_grammar.specs.Chars.{class_of_next, skip_while, is_digit}
use Rattle.avn_cursor.proofs.Steps.{digits-shorter}
use Rattle.avn_cursor.specs.Ahead.{Ahead, Advances, LooksAtMost}
use Rattle.avn_grammar.specs.declared.chars.CharClass.TheVariants as is

-- One way after another.
pub advances_on : {each : ℕ} {old now new : Ahead} → Advances each old now → Advances each now new → Advances each old new
advances_on a b = record {
  same = b.same ∙ a.same;
  rises = omega (arith, a.rises, b.rises);
  cost = omega (arith, a.cost, b.cost);
  nearer = omega (arith, a.nearer, b.nearer);
  shorter = omega (arith, a.shorter, b.shorter);
}

-- A digit was passed, and has paid for one look more.
pub digit_paid : {old now then : Ahead} → old.ahead ≡ old.rest → class_of_next old.rest ≡ is.Digit → Advances 1 old now → now.ahead ≡ now.rest → now.rest ≡ skip_while is_digit old.rest → LooksAtMost 1 now then → then.ahead ≡ now.ahead → then.rest ≡ now.rest → Advances 2 old then
digit_paid {old = old} e l k f m s g r = record {
  same = s.same ∙ k.same;
  rises = omega (arith, k.rises, s.rises);
  cost = omega (arith, k.cost, s.few, digits-shorter old.rest l, ap length e, ap length f, ap length m, ap length g);
  nearer = omega (arith, k.nearer, ap length g);
  shorter = omega (arith, k.shorter, ap length r);
}

-- What spells a text that isn't empty has a character.
some-character : (cs run : List ℕ) → encodes cs ≡ run → 0 < length run → 0 < length cs
some-character [] run e some = omega (arith, some, ap (λ x. length x) e)
some-character (c ∷ cs) run e some = omega arith

-- A run of one or more characters was passed, and has paid for one look at what follows.
pub run_paid : {old new : Ahead} (run : List ℕ) → IsUtf8 run → 0 < length run → old.ahead ≡ old.rest → old.rest ≡ chars run ++ new.rest → new.ahead ≡ new.rest → new.text ≡ old.text → old.looks ≤ new.looks → new.looks ≤ old.looks + length (chars run) + 1 → Advances 2 old new
run_paid {old} {new} run u some e f g same rises few =
    let one = some-character (chars run) run (encodes-chars run u) some in
    let long : length old.rest ≡ length (chars run) + length new.rest = ap (λ x. length x) f ∙ length-append (chars run) new.rest in record {
      same = same;
      rises = rises;
      cost = omega (arith, few, one, long, ap (λ x. length x) e, ap (λ x. length x) g);
      nearer = omega (arith, long, ap (λ x. length x) e, ap (λ x. length x) g);
      shorter = omega (arith, long);
    }
