-- What a command asks for, by the arguments that were found for it.
use Rattle.std.specs.Prelude.{◌≡◌, ℕ, List, Bool, true, false, codes, map, is_some, option_map, [], Option, Some, None, MatchBool, MatchOption, IfSome, ⊤}
use Rattle.asn_command_line.specs.Notations.{IsTextNotation, notation_named, notation_of_file}
use Rattle.asn_command_line.specs.declared.asked.Asked.{Asked}
use Rattle.asn_command_line.specs.declared.asked.Asked.TheVariants.{Convert, Check, Types, Show, Grows, Keep, Completions}
use Rattle.asn_core.specs.declared.codec.Codec.{Codec}
use Rattle.clap.specs.Words.{first_value, matched_of, one_text, raw_values}
use Rattle.clap.specs.declared.parser.matches.Found.{Found}

-- The argument has this value.
abbrev pub HasValue : Found → List ℕ → List ℕ → Type 0
HasValue found id text = first_value found id ≡ Some text

-- The argument has these values.
abbrev pub HasValues : Found → List ℕ → List (List ℕ) → Type 0
HasValues found id texts = option_map raw_values (matched_of found id) ≡ Some texts

-- The argument has these values, none where it isn't given.
abbrev pub HasAnyValues : Found → List ℕ → List (List ℕ) → Type 0
HasAnyValues found id texts = MatchBool (is_some (matched_of found id)) (HasValues found id texts) (texts ≡ [])

-- The flag is given, or it isn't.
pub record HasFlag (found : Found) (id : List ℕ) (given : Bool) : Type 0 where
  pub yes : one_text found id ≡ Some (codes "true") → given ≡ true
  pub no : one_text found id ≡ Some (codes "false") → given ≡ false
  pub none : one_text found id ≡ None → given ≡ false

-- The argument names this notation.
pub record HasNotation (found : Found) (id : List ℕ) (codec : Codec) : Type 0 where
  pub name : List ℕ
  pub given : HasValue found id name
  pub named : notation_named name ≡ Some codec

-- The argument names this notation, or it isn't given and there is none.
abbrev pub MayHaveNotation : Found → List ℕ → Option Codec → Type 0
MayHaveNotation found id codec = MatchOption codec (matched_of found id ≡ None) (HasNotation found id)

-- The text of this file has this notation: that which is named, or where none is, that which the file's name tells.
abbrev pub TextHasNotation : Found → List ℕ → Codec → Type 0
TextHasNotation found file codec = MatchBool (is_some (matched_of found (codes "from"))) (HasNotation found (codes "from") codec) (notation_of_file file ≡ Some codec)

-- The command of this name asks for this, by the arguments that were found.
abbrev pub IsTaken : List ℕ → Found → Asked → Type 0
IsTaken command found (Convert modules name from to lines explain progress file) =
    (command ≡ codes "convert") × HasAnyValues found (codes "module") (map (λ s. s.now) modules.items) × HasValue found (codes "type") name.now × TextHasNotation found file.now from
    × HasNotation found (codes "to") to × HasFlag found (codes "lines") lines × HasFlag found (codes "explain") explain × HasFlag found (codes "progress") progress × HasValue found (codes "file") file.now
IsTaken command found (Check files) = (command ≡ codes "check") × HasValues found (codes "modules") (map (λ s. s.now) files.items)
IsTaken command found (Types files) = (command ≡ codes "types") × HasValues found (codes "modules") (map (λ s. s.now) files.items)
IsTaken command found (Show files name example full) =
    (command ≡ codes "show") × HasValues found (codes "modules") (map (λ s. s.now) files.items) × HasValue found (codes "type") name.now × MayHaveNotation found (codes "example") example × HasFlag found (codes "full") full
IsTaken command found (Grows old new name) = (command ≡ codes "grows") × HasValue found (codes "old") old.now × HasValue found (codes "new") new.now × HasValue found (codes "type") name.now
IsTaken command found (Keep old new name from progress file) =
    (command ≡ codes "keep") × HasValue found (codes "old") old.now × HasValue found (codes "new") new.now × HasValue found (codes "type") name.now × HasNotation found (codes "from") from
    × HasFlag found (codes "progress") progress × HasValue found (codes "file") file.now
IsTaken command found Completions = command ≡ codes "completions"

-- Each notation in it is one of texts.
abbrev pub HasTextNotations : Asked → Type 0
HasTextNotations (Convert modules name from to lines explain progress file) = IsTextNotation from × IsTextNotation to
HasTextNotations (Show files name example full) = IfSome example IsTextNotation
HasTextNotations (Keep old new name from progress file) = IsTextNotation from
HasTextNotations _ = ⊤
