-- Object identifiers as the notations write and read them (X.680, section 32).
use Rattle.std.specs.Prelude.{ℕ, List, [], ◌∷◌, ◌++◌, ◌==◌, if◌then◌else◌, Option, Some, None, Result, Ok, Err, codes}
use Rattle.std.specs.Fmt.{decimal}
use Rattle.std.specs.List.{slice_split, join_by}
use Rattle.std.specs.Str.Parse.{without_leading_plus}
use Rattle.serde_json.specs.Data.{Data}
use Rattle.serde_json.specs.Written.{compact_text}
use Rattle.avn_grammar.specs.Print.{print}
use Rattle.avn_grammar.specs.Tree.{Tree as AvnTree, Trees as AvnTrees}
use Rattle.avn_grammar.specs.WellFormed.{is_arc}
use Rattle.asn_core.specs.ObjectIdentifiers.{is_object_identifier}
use Rattle.asn_core.specs.declared.codec.Codec.TheVariants.{Avn}
use Rattle.asn_fault.specs.Failure.{Cause}
use Rattle.asn_model.specs.Digits.{digits}
use Rattle.asn_model.specs.Value.{Value}
use Rattle.asn_model.specs.declared.words.TheConstants.{AVN_ARC}

-- The number, if it is below 2^32.
abbrev pub if_arc : Option ℕ → Option ℕ
if_arc None = None
if_arc (Some n) = if is_arc n then Some n else None

-- The arc that a text is: an optional `+` and digits, whose number is below 2^32.
abbrev pub arc_number : List ℕ → Option ℕ
arc_number text = if_arc (digits (without_leading_plus text))

-- The arc with the arcs after it, if all are there.
abbrev pub in_front : Option ℕ → Option (List ℕ) → Option (List ℕ)
in_front (Some a) (Some arcs) = Some (a ∷ arcs)
in_front a arcs = None

-- The arcs that texts are, if each is one.
abbrev pub arc_numbers : List (List ℕ) → Option (List ℕ)
arc_numbers [] = Some []
arc_numbers (text ∷ texts) = in_front (arc_number text) (arc_numbers texts)

-- The object identifier of these arcs, or what is wrong.
abbrev pub identifier_or : Cause → Option (List ℕ) → Result Value Cause
identifier_or w (Some arcs) = if is_object_identifier arcs then Ok (Value.arcs arcs) else Err w
identifier_or w None = Err w

-- The object identifier of a text of arcs with `.` between each two, or what is wrong.
abbrev pub dotted_identifier : List ℕ → Result Value Cause
dotted_identifier text = identifier_or (Cause.invalid_oid_string (compact_text (Data.string text))) (arc_numbers (slice_split (λ c. c == 46) text))

-- The arcs in decimal with `.` between each two.
abbrev pub dotted_text : List ℕ → List ℕ
dotted_text arcs = join_by decimal (codes ".") arcs

-- The arcs as an error lists them, as `[0, 40]`.
abbrev pub listed_text : List ℕ → List ℕ
listed_text arcs = codes "[" ++ (join_by decimal (codes ", ") arcs ++ codes "]")

-- The arc, or what is wrong with a text that is none.
abbrev pub arc_or : List ℕ → Option ℕ → Result ℕ Cause
arc_or text (Some a) = Ok a
arc_or text None = Err (Cause.invalid_oid text)

-- The arc that a value in braces is, or what is wrong.
abbrev pub braced_arc : AvnTree → Result ℕ Cause
braced_arc (AvnTree.integer text) = arc_or text (arc_number text)
braced_arc t = Err (Cause.type_mismatch Avn AVN_ARC.now (print 0 t))

-- The arc with the arcs after it, or what is wrong with the first that is none.
abbrev pub arc_before : Result ℕ Cause → Result (List ℕ) Cause → Result (List ℕ) Cause
arc_before (Ok a) (Ok arcs) = Ok (a ∷ arcs)
arc_before (Ok a) (Err w) = Err w
arc_before (Err w) arcs = Err w

-- The arcs that the values in braces are, or what is wrong with the first that is none.
abbrev pub braced_arcs : AvnTrees → Result (List ℕ) Cause
braced_arcs AvnTrees.no_trees = Ok []
braced_arcs (AvnTrees.tree t ts) = arc_before (braced_arc t) (braced_arcs ts)

-- The object identifier of these arcs, or what is wrong.
abbrev pub checked_identifier : Result (List ℕ) Cause → Result Value Cause
checked_identifier (Ok arcs) = identifier_or (Cause.invalid_oid (listed_text arcs)) (Some arcs)
checked_identifier (Err w) = Err w
