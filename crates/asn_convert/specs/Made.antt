-- The document that a request `make` is for, and the report on its texts.
use Rattle.std.specs.Prelude.{◌≡◌, ◌≤◌, ℕ, zero, suc, pos, ◌+◌, ◌*◌, ◌%◌, ◌^◌, ◌-ℤ◌, ◌==◌, if◌then◌else◌, List, [], ◌∷◌, ◌++◌, length, codes}
use Rattle.std.specs.Fmt.{decimal}
use Rattle.serde_json.specs.Data.{Data, Num, Items, Members, depth, put}
use Rattle.serde_json.specs.Read.{max_depth}
use Rattle.avn_grammar.specs.Depth.{deepest}
use Rattle.avn_grammar.specs.declared.limits.TheConstants.{LEVEL_LIMIT}
use Rattle.serde_json.specs.Find.{of_integer}
use Rattle.asn_document.specs.Meaning.{document_value}
use Rattle.asn_traits.specs.Canonical.{avn_tree, canonical_text, jer_data}
use Rattle.asn_traits.specs.Notation.{Notation}
use Rattle.asn_traits.specs.Value.{Value}
use Rattle.asn_traits.specs.Writable.{Writable}

-- the key of the entry at this place
abbrev pub made_key : ℕ → List ℕ
made_key i = codes "k" ++ decimal i

-- the value of the entry at this place, of four kinds in turn: an integer, a string, an array, and a number past the integers of 64 bits
abbrev pub made_value : ℕ → Data
made_value i =
    if i % 4 == 0 then Data.number (of_integer (pos (i * i) -ℤ pos 1000))
    else (if i % 4 == 1 then Data.string (codes "v" ++ decimal i)
    else (if i % 4 == 2 then Data.array (Items.item (Data.boolean (i % 8 == 2)) (Items.item Data.null Items.no_items))
    else Data.number (Num.unsigned (2 ^ 63 + i))))

-- the entries at the first so many places, in byte order of their keys
abbrev pub made_members : ℕ → Members
made_members zero = Members.no_members
made_members (suc i) = put (made_key i) (made_value i) (made_members i)

-- the object with so many entries
abbrev pub made : ℕ → Data
made n = Data.object (made_members n)

-- the lengths of the texts of a value: in JER, in AVN, and in JER again
pub record TextLengths (v : Value) (jer avn back : ℕ) : Type 0 where
  pub of_jer : jer ≡ length (canonical_text Notation.jer v)
  pub of_avn : avn ≡ length (canonical_text Notation.avn v)
  pub of_back : back ≡ length (canonical_text Notation.jer v)

-- the four lines on a document of so many entries whose texts have these lengths
abbrev pub report_lines : ℕ → ℕ → ℕ → ℕ → List ℕ
report_lines n jer avn back =
    codes "entries " ++ (decimal n ++ (10 ∷ (codes "jer " ++ (decimal jer ++ (10 ∷ (codes "avn " ++ (decimal avn ++ (10 ∷ (codes "back " ++ (decimal back ++ (10 ∷ [])))))))))))

-- the report on the document with so many entries
abbrev pub report : ℕ → List ℕ
report n =
    let v = document_value (made n) in
    report_lines n (length (canonical_text Notation.jer v)) (length (canonical_text Notation.avn v)) (length (canonical_text Notation.jer v))

-- both notations can write the value, and their texts nest no deeper than they are read
pub record IsRelayed (v : Value) : Type 0 where
  pub jer : Writable Notation.jer v
  pub avn : Writable Notation.avn v
  pub nests : depth (jer_data v) ≤ max_depth
  pub levels : deepest 0 (avn_tree v) ≤ LEVEL_LIMIT
