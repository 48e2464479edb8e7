-- Texts that are written one behind the other.
use Rattle.std.proofs.Common.{◌≡◌, ◌<◌, refl, ap, sym, ◌∙◌, arith, ℕ, suc, ◌+◌, List, [], ◌∷◌, ◌++◌, drop, get_or, length, map, codes, ◌==◌, Bool, true, false, Option, Some, String, string_bytes, append_assoc, rules}
use Rattle.std.proofs.Math.Seq.{drop-cons}
use Rattle.std.specs.Borrow.{Bor}
use Rattle.std.specs.Global.{Global}
use Rattle.asn_model.specs.ShapeView.{alternative_views, field_views, presence_view, shape_view}
use Rattle.asn_model.specs.declared.shape_type.AlternativeShape.{AlternativeShape}
use Rattle.asn_model.specs.declared.shape_type.FieldShape.{FieldShape}
use Rattle.asn_model.specs.Shape.{Shape, SeqKind, Fields, FieldAdditions, Alternatives, AlternativeAdditions}
use Rattle.asn_type_printing.specs.words.Words.{kind_word}
use Rattle.asn_type_printing.specs.Levels.{level_of}
use Rattle.asn_type_printing.specs.declared.level.Level.{Level, Outermost, Within, the_lemmas}
use Rattle.asn_type_printing.specs.Names.{name_at}
use Rattle.asn_type_printing.specs.Printed.{added_alternative_lines, added_field_lines, alternative_lines, assignment_of, closing, comma_text, enumerated_text, field_lines, has_no_alternatives, has_no_fields, item_list, marker_line, name_line, presence_text, type_text}

-- A text is written, and another one behind it.
pub then : (old new text rest : List ℕ) → new ≡ old ++ text → new ++ rest ≡ old ++ (text ++ rest)
then old new text rest e = ap (λ t. t ++ rest) e ∙ append_assoc old text rest

pub drop-next : {A : Type 0} (xs : List A) (i : ℕ) (x : A) → i < length xs → x ≡ get_or xs i x → drop i xs ≡ x ∷ drop (i + 1) xs
drop-next xs i x h e = let next : suc i ≡ i + 1 = omega arith in drop-cons xs i x h ∙ (λ j. sym e j ∷ drop (next j) xs)

-- One more item.
pub items-next : (now comma blank new : List ℕ) (first : Bool) (items : List (String Global)) (i : ℕ) (item : String Global) (whole : List ℕ) → i < length items → item ≡ get_or items i item → comma ≡ now ++ comma_text first → blank ≡ comma ++ codes " " → new ≡ blank ++ string_bytes item
    → now ++ item_list first (map string_bytes (drop i items)) ≡ whole → new ++ item_list false (map string_bytes (drop (i + 1) items)) ≡ whole
items-next now comma blank new first items i item whole h e a b c was =
    let rest = item_list false (map string_bytes (drop (i + 1) items)) in
    then blank new (string_bytes item) rest c ∙ then comma blank (codes " ") (string_bytes item ++ rest) b ∙ then now comma (comma_text first) (codes " " ++ (string_bytes item ++ rest)) a
    ∙ sym (ap (λ l. now ++ item_list first (map string_bytes l)) (drop-next items i item h e)) ∙ was

-- One more field.
pub fields-next : (names : List (List ℕ)) (level : ℕ) (now name typed new : List ℕ) (first : Bool) (fs : List FieldShape) (i : ℕ) (f : FieldShape) (whole : List ℕ) → i < length fs → f ≡ get_or fs i f → name ≡ now ++ name_line level first (string_bytes f.name)
    → typed ≡ name ++ type_text names level (shape_view f.shape) → new ≡ typed ++ presence_text (presence_view f.presence) → now ++ field_lines names level first (field_views (drop i fs)) ≡ whole → new ++ field_lines names level false (field_views (drop (i + 1) fs)) ≡ whole
fields-next names level now name typed new first fs i f whole h e a b c was =
    let rest = field_lines names level false (field_views (drop (i + 1) fs)) in
    let presence = presence_text (presence_view f.presence) in
    let type = type_text names level (shape_view f.shape) in
    then typed new presence rest c ∙ then name typed type (presence ++ rest) b ∙ then now name (name_line level first (string_bytes f.name)) (type ++ (presence ++ rest)) a
    ∙ sym (ap (λ l. now ++ field_lines names level first (field_views l)) (drop-next fs i f h e)) ∙ was

-- One more alternative.
pub alternatives-next : (names : List (List ℕ)) (level : ℕ) (now name new : List ℕ) (first : Bool) (alts : List AlternativeShape) (i : ℕ) (a : AlternativeShape) (whole : List ℕ) → i < length alts → a ≡ get_or alts i a → name ≡ now ++ name_line level first (string_bytes a.identifier)
    → new ≡ name ++ type_text names level (shape_view a.shape) → now ++ alternative_lines names level first (alternative_views (drop i alts)) ≡ whole → new ++ alternative_lines names level false (alternative_views (drop (i + 1) alts)) ≡ whole
alternatives-next names level now name new first alts i a whole h e n t was =
    let rest = alternative_lines names level false (alternative_views (drop (i + 1) alts)) in
    let type = type_text names level (shape_view a.shape) in
    then name new type rest t ∙ then now name (name_line level first (string_bytes a.identifier)) (type ++ rest) n ∙ sym (ap (λ l. now ++ alternative_lines names level first (alternative_views l)) (drop-next alts i a h e)) ∙ was

-- A SEQUENCE or SET: its word, the brace, its fields, and what stands behind them.
pub seq-written : (names : List (List ℕ)) (level : ℕ) (old word brace lines new : List ℕ) (s : Shape) (kind : SeqKind) (fs : Fields) (added : FieldAdditions) (none : Bool) → s ≡ Shape.seq kind fs added → none ≡ has_no_fields fs → word ≡ old ++ kind_word s → brace ≡ word ++ codes " {"
    → lines ≡ brace ++ field_lines names (suc level) true fs → new ≡ lines ++ added_field_lines names level none added → new ≡ old ++ type_text names level s
seq-written names level old word brace lines new s kind fs added none e empty w b l n =
    let end = added_field_lines names level (has_no_fields fs) added in
    let fields = field_lines names (suc level) true fs in
    let viewed = Shape.seq kind fs added in
    n ∙ ap (λ x. lines ++ added_field_lines names level x added) empty ∙ then brace lines fields end l ∙ then word brace (codes " {") (fields ++ end) b ∙ then old word (kind_word viewed) (codes " {" ++ (fields ++ end)) (w ∙ ap (λ x. old ++ kind_word x) e)
    ∙ sym (ap (λ x. old ++ type_text names level x) e)

-- A CHOICE.
pub choice-written : (names : List (List ℕ)) (level : ℕ) (old brace lines new : List ℕ) (s : Shape) (alts : Alternatives) (added : AlternativeAdditions) (none : Bool) → s ≡ Shape.choice alts added → none ≡ has_no_alternatives alts → brace ≡ old ++ codes "CHOICE {"
    → lines ≡ brace ++ alternative_lines names (suc level) true alts → new ≡ lines ++ added_alternative_lines names level none added → new ≡ old ++ type_text names level s
choice-written names level old brace lines new s alts added none e empty b l n =
    let end = added_alternative_lines names level (has_no_alternatives alts) added in
    let lines' = alternative_lines names (suc level) true alts in
    n ∙ ap (λ x. lines ++ added_alternative_lines names level x added) empty ∙ then brace lines lines' end l ∙ then old brace (codes "CHOICE {") (lines' ++ end) b ∙ sym (ap (λ x. old ++ type_text names level x) e)

enumerated-marked : (is added : List (List ℕ)) → enumerated_text is (Some added) ≡ codes "ENUMERATED {" ++ (item_list true is ++ (comma_text (length is == 0) ++ (codes " ..." ++ (item_list false added ++ codes " }"))))
enumerated-marked [] added = refl
enumerated-marked (i ∷ is) added = refl

-- An ENUMERATED with an extension marker.
pub enumerated-written : (old brace items comma dots more new : List ℕ) (is added : List (List ℕ)) → brace ≡ old ++ codes "ENUMERATED {" → items ≡ brace ++ item_list true is → comma ≡ items ++ comma_text (length is == 0) → dots ≡ comma ++ codes " ..." → more ≡ dots ++ item_list false added
    → new ≡ more ++ codes " }" → new ≡ old ++ enumerated_text is (Some added)
enumerated-written old brace items comma dots more new is added b i k d m n =
    let end = item_list false added ++ codes " }" in
    let marked = codes " ..." ++ end in
    let behind = comma_text (length is == 0) ++ marked in
    n ∙ then dots more (item_list false added) (codes " }") m ∙ then comma dots (codes " ...") end d ∙ then items comma (comma_text (length is == 0)) marked k ∙ then brace items (item_list true is) behind i ∙ then old brace (codes "ENUMERATED {") (item_list true is ++ behind) b
    ∙ ap (λ x. old ++ x) (sym (enumerated-marked is added))

-- An assignment.
pub assignment-written : (names : List (List ℕ)) (number : ℕ) (old name sign typed new : List ℕ) (s : Shape) (found : Option Shape) → found ≡ Some s → name ≡ old ++ name_at names number → sign ≡ name ++ codes " ::= " → typed ≡ sign ++ type_text names 0 s → new ≡ typed ++ codes "\n"
    → new ≡ old ++ assignment_of names number found
assignment-written names number old name sign typed new s found e a b c d =
    let type = type_text names 0 s in
    d ∙ then sign typed type (codes "\n") c ∙ then name sign (codes " ::= ") (type ++ codes "\n") b ∙ then old name (name_at names number) (codes " ::= " ++ (type ++ codes "\n")) a ∙ sym (ap (λ x. old ++ assignment_of names number x) e)

-- No level.
pub level_outermost : level_of Outermost ≡ 0
level_outermost = search (rules, the_lemmas)

-- A level within another.
pub level_within : (l : Bor Level) → level_of (Within l) ≡ suc (level_of l.now)
level_within l = search (rules, the_lemmas)

-- The extension marker and the extension additions of a SEQUENCE or SET, and the closing brace.
pub added-fields-written : (names : List (List ℕ)) (level : ℕ) (lines marked more new : List ℕ) (first : Bool) (fs : Fields) → marked ≡ lines ++ marker_line (suc level) first → more ≡ marked ++ field_lines names (suc level) false fs → new ≡ more ++ closing level false
    → new ≡ lines ++ added_field_lines names level first (FieldAdditions.extended_fields fs)
added-fields-written names level lines marked more new first fs m f n =
    n ∙ then marked more (field_lines names (suc level) false fs) (closing level false) f ∙ then lines marked (marker_line (suc level) first) (field_lines names (suc level) false fs ++ closing level false) m

-- The same of a CHOICE.
pub added-alternatives-written : (names : List (List ℕ)) (level : ℕ) (lines marked more new : List ℕ) (first : Bool) (alts : Alternatives) → marked ≡ lines ++ marker_line (suc level) first → more ≡ marked ++ alternative_lines names (suc level) false alts → new ≡ more ++ closing level false
    → new ≡ lines ++ added_alternative_lines names level first (AlternativeAdditions.extended_alternatives alts)
added-alternatives-written names level lines marked more new first alts m f n =
    n ∙ then marked more (alternative_lines names (suc level) false alts) (closing level false) f ∙ then lines marked (marker_line (suc level) first) (alternative_lines names (suc level) false alts ++ closing level false) m
