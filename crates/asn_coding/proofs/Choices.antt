-- A choice is what its payload is.
use Rattle.std.proofs.Common.{◌≡◌, rules, refl, ap, sym, ◌∙◌, Option, Some, None, List, [], ◌∷◌, subst, ℕ, zero, suc, ◌<◌, Bool, true, false, Result, Ok, Err, arith, get_or, length, option_map, if◌then◌else◌, nat_eq, IfSome, IsSome, map, ◌++◌, unwrap_or, append-nil}
use Rattle.std.specs.Borrow.{Bor}
use Rattle.asn_core.specs.declared.tag_tree.TagTree.{TagTree}
use Rattle.asn_fault.specs.Failure.{Cause, failure_of}
use Rattle.asn_core.specs.Tags.{smallest}
use Rattle.asn_core.specs.declared.tag.Tag.{Tag}
use Rattle.asn_fault.specs.declared.decode.DecodeError.{DecodeError}
use Rattle.asn_model.specs.Notation.{Notation}
use Rattle.asn_model.specs.Shape.{Shape, Alternatives, AlternativeAdditions, all_alternatives, join_alternatives, alternative_at, alternative_named, alternative_tagged, name_tagged, place_named, identifiers, tags, tag_eq, has_tag, tags_distinct, class_number, end_tag}
use Rattle.asn_coding.specs.Tables.{smallest_tags, root_tags, added_tags, or_end}
use Rattle.asn_model.specs.Tree.{Tree, Slot, slot_nodes, head_nodes, head_slot, same_identifier}
use Rattle.asn_model.specs.Value.{Value}
use Rattle.asn_model.specs.DecodesTo.{DecodesTo}
use Rattle.asn_model.specs.FailsWith.{FailsWith}
use Rattle.asn_coding.specs.Answer.{Answer, Refuses}
use Rattle.asn_coding.specs.Opening.{IsChoice, Chosen, OpensAlternative}
use Rattle.asn_coding.specs.Scopes.{AlternativeAnswer, NoAlternative, TagAnswer}
use Rattle.asn_coding.proofs.Steps.{refuses_by, same_head, same_tail}

-- The alternative of that name is the one at the place.
pub record Found (alts : Alternatives) (named : Option (List ℕ × Shape)) (k : ℕ) : Type 0 where
  pub a : List ℕ × Shape
  pub by_name : named ≡ Some a
  pub by_place : alternative_at alts k ≡ Some a

found_at : (b : Bool) (i : List ℕ) (t : Tag) (s : Shape) (alts : Alternatives) (named : Option (List ℕ × Shape)) (k : ℕ) (place : Option ℕ)
    → ((j : ℕ) → place ≡ Some j → Found alts named j) → (if b then Some 0 else option_map suc place) ≡ Some k
    → Found (Alternatives.alternative i t s alts) (if b then Some (i, s) else named) k
found_at true i t s alts named zero place f e = record { a = (i, s); by_name = refl; by_place = refl }
found_at true i t s alts named (suc k) place f e = let d : ◌≡◌ {A = Option ℕ} (Some 0) (Some (suc k)) = e in cc d
found_at false i t s alts named zero (Some j) f e = let d : ◌≡◌ {A = Option ℕ} (Some (suc j)) (Some 0) = e in cc d
found_at false i t s alts named (suc k) (Some j) f e =
    let d : ◌≡◌ {A = Option ℕ} (Some (suc j)) (Some (suc k)) = e in
    let same : j ≡ k = cc d in
    let h = f j refl in
    record { a = h.a; by_name = h.by_name; by_place = subst (λ x. alternative_at alts x ≡ Some h.a) same h.by_place }
found_at false i t s alts named k None f e = let d : ◌≡◌ {A = Option ℕ} None (Some k) = e in cc d

pub found : (alts : Alternatives) (name : List ℕ) (k : ℕ) → place_named same_identifier (identifiers alts) name ≡ Some k → Found alts (alternative_named same_identifier alts name) k
found Alternatives.no_alternatives name k e = let d : ◌≡◌ {A = Option ℕ} None (Some k) = e in cc d
found (Alternatives.alternative i t s alts) name k e = found_at (same_identifier name i) i t s alts _ k _ (found alts name) e

lost_at : (b : Bool) (i : List ℕ) (s : Shape) (named : Option (List ℕ × Shape)) (place : Option ℕ) → (place ≡ None → named ≡ None)
    → (if b then Some 0 else option_map suc place) ≡ None → (if b then Some (i, s) else named) ≡ None
lost_at true i s named place f e = let d : ◌≡◌ {A = Option ℕ} (Some 0) None = e in cc d
lost_at false i s named (Some j) f e = let d : ◌≡◌ {A = Option ℕ} (Some (suc j)) None = e in cc d
lost_at false i s named None f e = f refl

pub lost : (alts : Alternatives) (name : List ℕ) → place_named same_identifier (identifiers alts) name ≡ None → alternative_named same_identifier alts name ≡ None
lost Alternatives.no_alternatives name e = refl
lost (Alternatives.alternative i t s alts) name e = lost_at (same_identifier name i) i s _ _ (lost alts name) e

eq_refl : (n : ℕ) → nat_eq n n ≡ true
eq_refl n = search rules

tag_eq_refl : (t : Tag) → tag_eq t t ≡ true
tag_eq_refl t = rw (eq_refl (class_number t.class), eq_refl t.value) refl

not_first : (b rest : Bool) → (if b then true else rest) ≡ false → b ≡ false
not_first true rest e = let d : true ≡ false = e in cc d
not_first false rest e = refl

not_rest : (b rest : Bool) → (if b then true else rest) ≡ false → rest ≡ false
not_rest true rest e = let d : true ≡ false = e in cc d
not_rest false rest e = e

other_tag : (ts : List Tag) (k : ℕ) (t : Tag) → has_tag ts t ≡ false → k < length ts → tag_eq (get_or ts k end_tag) t ≡ false
other_tag [] k t e h = absurd (omega (arith, h))
other_tag (u ∷ us) zero t e h = not_first (tag_eq u t) (has_tag us t) e
other_tag (u ∷ us) (suc k) t e h = other_tag us k t (not_rest (tag_eq u t) (has_tag us t) e) (omega (arith, h))

first_distinct : (b rest : Bool) → (if b then false else rest) ≡ true → b ≡ false
first_distinct true rest e = let d : false ≡ true = e in cc d
first_distinct false rest e = refl

rest_distinct : (b rest : Bool) → (if b then false else rest) ≡ true → rest ≡ true
rest_distinct true rest e = let d : false ≡ true = e in cc d
rest_distinct false rest e = e

place_below : (alts : Alternatives) (k : ℕ) (a : List ℕ × Shape) → alternative_at alts k ≡ Some a → k < length (tags alts)
place_below Alternatives.no_alternatives k a e = let d : ◌≡◌ {A = Option (List ℕ × Shape)} None (Some a) = e in cc d
place_below (Alternatives.alternative i t s alts) zero a e = omega arith
place_below (Alternatives.alternative i t s alts) (suc k) a e = omega (arith, place_below alts k a e)

-- Where tags are distinct, the tag at a place tells the alternative at that place.
tagged_at : (alts : Alternatives) (k : ℕ) (a : List ℕ × Shape) → tags_distinct (tags alts) ≡ true → alternative_at alts k ≡ Some a → alternative_tagged alts (get_or (tags alts) k end_tag) ≡ Some a
tagged_at Alternatives.no_alternatives k a d e = let x : ◌≡◌ {A = Option (List ℕ × Shape)} None (Some a) = e in cc x
tagged_at (Alternatives.alternative i t s alts) zero a d e = rw (tag_eq_refl t) e
tagged_at (Alternatives.alternative i t s alts) (suc k) a d e =
    rw (other_tag (tags alts) k t (first_distinct (has_tag (tags alts) t) _ d) (place_below alts k a e)) (tagged_at alts k a (rest_distinct (has_tag (tags alts) t) _ d) e)

-- The tag that `from_tag` is handed.
abbrev pub place_tag : Alternatives → Option ℕ → Tag
place_tag alts (Some k) = get_or (tags alts) k end_tag
place_tag alts None = end_tag

pub chosen_by_place : {n : Notation} {names : List (List ℕ)} {slot put : Slot} {place : Option ℕ} (alts : Alternatives) → names ≡ identifiers alts → tags_distinct (tags alts) ≡ true → alternative_tagged alts end_tag ≡ None
    → IsChoice n names slot place put → Chosen n alts slot put (alternative_tagged alts (place_tag alts place))
chosen_by_place {n} alts e d z (IsChoice.is_choice names t u name k is at) =
    let f = found alts name k (subst (λ l. place_named same_identifier l name ≡ Some k) e at) in
    subst (Chosen n alts (Some t) (Some u)) (sym (tagged_at alts k f.a d f.by_place)) (Chosen.is_chosen t u name f.a is f.by_name)
chosen_by_place {n} alts e d z (IsChoice.is_unnamed names t u name is at) =
    subst (Chosen n alts (Some t) None) (sym z) (Chosen.is_unknown t u name is (lost alts name (subst (λ l. place_named same_identifier l name ≡ None) e at)))
chosen_by_place {n} alts e d z (IsChoice.is_empty names t is) = subst (Chosen n alts (Some t) None) (sym z) (Chosen.is_bare t is)
chosen_by_place alts e d z (IsChoice.choice_free names slot place put is) = Chosen.is_free slot put _ is

module _ {A : Type 0} (n : Notation) (alts : Alternatives) (added : AlternativeAdditions) (value : A → Value) (before mid rest after : List Slot) where
  shown_head : (slot put : Slot) → mid ≡ put ∷ rest → mid ≡ slot ∷ after → slot ≡ put
  shown_head slot put is shown = same_head _ _ _ _ (sym shown ∙ is)

  shown_tail : (slot put : Slot) → mid ≡ put ∷ rest → mid ≡ slot ∷ after → rest ≡ after
  shown_tail slot put is shown = same_tail _ _ _ _ (sym is ∙ shown)

  unknown : (t : Tree) → before ≡ Some t ∷ rest → ((type_name : List ℕ) → FailsWith n (Shape.choice alts added) (Some t) [] (Cause.no_valid_choice type_name)) → (r : Result A DecodeError) → AlternativeAnswer n None value mid r after → Answer n (Shape.choice alts added) value before r after
  unknown t was stops (Ok x) h = absurd h
  unknown t was stops (Err e) h =
      refuses_by {P = NoAlternative} {Q = FailsWith n (Shape.choice alts added) (head_slot before)} (λ p w k. rw (was, k.1, k.2) (stops k.0)) (failure_of e) h.1

  pub choice_answer : {slot put : Slot} {o : Option (List ℕ × Shape)} → Chosen n (all_alternatives alts added) slot put o → before ≡ slot ∷ rest → mid ≡ put ∷ rest → (r : Result A DecodeError) → AlternativeAnswer n o value mid r after → Answer n (Shape.choice alts added) value before r after
  choice_answer (Chosen.is_chosen t u name a is at) was put (Ok x) (slot, v, shown, says, e) = (
    Some t,
    was ∙ ap (λ l. Some t ∷ l) (shown_tail slot (Some u) put shown),
    subst (DecodesTo n (Shape.choice alts added) (Some t)) (sym e) (DecodesTo.decodes_choice alts added t name u a.0 a.1 v is at (subst (λ c. DecodesTo n a.1 c v) (shown_head slot (Some u) put shown) says)),
  )
  choice_answer (Chosen.is_chosen t u name a is at) was put (Err e) h =
      refuses_by {P = FailsWith n a.1 (head_slot mid)} {Q = FailsWith n (Shape.choice alts added) (head_slot before)} (λ p w k. rw was (FailsWith.fails_payload alts added t name u a.0 a.1 p w is at (rw put at k))) (failure_of e) h
  choice_answer (Chosen.is_unknown t u name is at) was put r h = unknown t was (λ r. FailsWith.fails_unnamed alts added t name u r is at) r h
  choice_answer (Chosen.is_bare t is) was put r h = unknown t was (λ r. FailsWith.fails_no_member alts added t r is) r h
  choice_answer (Chosen.is_free slot put (Some a) is) was at (Ok x) (s, v, shown, says, e) = (slot, was ∙ ap (λ l. slot ∷ l) (shown_tail s put at shown), DecodesTo.decodes_free _ slot _ is)
  choice_answer (Chosen.is_free slot put None is) was at (Ok x) h = absurd h
  choice_answer (Chosen.is_free slot put o is) was at (Err e) h = Refuses.refuses_free is

-- An opened choice has put the slot of the alternative whose tag is returned.
pub opened_by_place : (n : Notation) (alts : Alternatives) (added : AlternativeAdditions) (before mid : List Slot) (names : List (List ℕ)) (place : Option ℕ) (tag : Tag)
    → tag ≡ place_tag (all_alternatives alts added) place → names ≡ identifiers (all_alternatives alts added) → tags_distinct (tags (all_alternatives alts added)) ≡ true
    → alternative_tagged (all_alternatives alts added) end_tag ≡ None
    → ((slot : Slot) × (put : Slot) × (rest : List Slot) × (before ≡ slot ∷ rest) × (mid ≡ put ∷ rest) × (slot_nodes put < slot_nodes slot) × IsChoice n names slot place put)
    → OpensAlternative n alts added before (Ok tag) mid
opened_by_place n alts added before mid names place tag t e d z (slot, put, rest, was, at, fewer, is) =
    let all = all_alternatives alts added in
    (slot, put, rest, was, at, fewer, subst (λ u. Chosen n all slot put (alternative_tagged all u)) (sym t) (chosen_by_place all e d z is))

-- What `from_tag` answers of the payload is what the choice answers.
pub choice_by_tag : {A : Type 0} (n : Notation) (alts : Alternatives) (added : AlternativeAdditions) (value : A → Value) (before mid after : List Slot) (tag : Tag) (r : Result A DecodeError)
    → OpensAlternative n alts added before (Ok tag) mid → TagAnswer n (all_alternatives alts added) value tag mid r after → Answer n (Shape.choice alts added) value before r after
choice_by_tag n alts added value before mid after tag r (slot, put, rest, was, at, fewer, is) h = choice_answer n alts added value before mid rest after is was at r h

pub opened_below : (n : Notation) (alts : Alternatives) (added : AlternativeAdditions) (before mid : List Slot) (tag : Tag) → OpensAlternative n alts added before (Ok tag) mid → head_nodes mid < head_nodes before
opened_below n alts added before mid tag (slot, put, rest, was, at, fewer, is) = rw (was, at) fewer

named_step : (b : Bool) (i : List ℕ) (s : Shape) (names : Option (List ℕ)) (o : Option (List ℕ × Shape)) → names ≡ option_map (λ a. a.0) o
    → (if b then Some i else names) ≡ option_map (λ (a : List ℕ × Shape). a.0) (if b then Some (i, s) else o)
named_step true i s names o e = refl
named_step false i s names o e = e

-- The identifier beside a tag is that of the tag's alternative.
pub name_by_tag : (alts : Alternatives) (tag : Tag) → name_tagged (root_tags alts) (identifiers alts) tag ≡ option_map (λ a. a.0) (alternative_tagged alts tag)
name_by_tag Alternatives.no_alternatives tag = refl
name_by_tag (Alternatives.alternative i t s alts) tag = named_step (tag_eq tag t) i s _ _ (name_by_tag alts tag)

pub name_found : (alts : Alternatives) (tag : Tag) (ts : List (Option Tag)) (names : List (List ℕ)) (named : Option (List ℕ)) → ts ≡ root_tags alts → names ≡ identifiers alts → named ≡ name_tagged ts names tag
    → named ≡ option_map (λ a. a.0) (alternative_tagged alts tag)
name_found alts tag ts names named e d f = rw (e, d) at f ∙ name_by_tag alts tag

pub known : (name : List ℕ) (o : Option (List ℕ × Shape)) {P : List ℕ × Shape → Type 0} → Some name ≡ option_map (λ a. a.0) o → ((a : List ℕ × Shape) → name ≡ a.0 → P a) → IfSome o P
known name (Some a) e f = f a (cc e)
known name None e f = tt

pub known_some : (name : List ℕ) (o : Option (List ℕ × Shape)) → Some name ≡ option_map (λ a. a.0) o → IsSome o
known_some name (Some a) e = refl
known_some name None e = let d : ◌≡◌ {A = Option (List ℕ)} (Some name) None = e in cc d

-- What has a name is there.
pub known_apart : {P : Type 0} (name : List ℕ) (o : Option (List ℕ × Shape)) → Some name ≡ option_map (λ a. a.0) o → o ≡ None → P
known_apart name o e none = let d : ◌≡◌ {A = Option (List ℕ)} (Some name) None = e ∙ ap (option_map (λ a. a.0)) none in cc d

pub unknown_none : (o : Option (List ℕ × Shape)) → None ≡ option_map (λ a. a.0) o → o ≡ None
unknown_none (Some a) e = let d : ◌≡◌ {A = Option (List ℕ)} None (Some a.0) = e in cc d
unknown_none None e = refl

tags-join : (alts more : Alternatives) → root_tags (join_alternatives alts more) ≡ root_tags alts ++ root_tags more
tags-join Alternatives.no_alternatives more = refl
tags-join (Alternatives.alternative i t s alts) more = ap (λ l. Some t ∷ l) (tags-join alts more)

no_table : {A : Type 0} {P : Type 0} {x : A} → ◌≡◌ {A = Option A} None (Some x) → P
no_table e = cc e

some_table : {A : Type 0} {x y : A} → ◌≡◌ {A = Option A} (Some x) (Some y) → x ≡ y
some_table e = cc e

-- The smallest tags of both tables of alternatives are those of all alternatives.
pub all_tags : (variants more : List TagTree) (table : Option (Bor (List TagTree))) (alts : Alternatives) (added : AlternativeAdditions)
    → smallest_tags variants ≡ root_tags alts → option_map (λ t. smallest_tags t.now) table ≡ added_tags added → more ≡ unwrap_or (option_map (λ t. t.now) table) []
    → smallest_tags variants ++ smallest_tags more ≡ root_tags (all_alternatives alts added)
all_tags variants more None alts AlternativeAdditions.closed_alternatives e f g = rw (e, g) (append-nil (root_tags alts))
all_tags variants more None alts (AlternativeAdditions.extended_alternatives others) e f g = no_table f
all_tags variants more (Some t) alts AlternativeAdditions.closed_alternatives e f g = no_table (sym f)
all_tags variants more (Some t) alts (AlternativeAdditions.extended_alternatives others) e f g = rw (e, g, some_table f) (sym (tags-join alts others))

tags-end : (alts : Alternatives) → map or_end (root_tags alts) ≡ tags alts
tags-end Alternatives.no_alternatives = refl
tags-end (Alternatives.alternative i t s alts) = ap (λ l. t ∷ l) (tags-end alts)

-- The tag at a place of both tables is the one at that place of all alternatives.
pub tag_there : (alts : Alternatives) (place : ℕ) (all : List (Option Tag)) (tag : Tag) → all ≡ root_tags alts → tag ≡ get_or (map or_end all) place end_tag → tag ≡ get_or (tags alts) place end_tag
tag_there alts place all tag e f = rw (e, tags-end alts) at f

-- The smallest tag of the tree at a place of a table.
pub tag_of_tree : (trees : List TagTree) (place : ℕ) (tree : TagTree) (least : Option Tag) → place < length trees → tree ≡ get_or trees place tree → least ≡ smallest tree
    → or_end least ≡ get_or (map or_end (smallest_tags trees)) place end_tag
tag_of_tree [] place tree least below at is = absurd (omega (arith, below))
tag_of_tree (t ∷ ts) zero tree least below at is = ap or_end (is ∙ ap smallest at)
tag_of_tree (t ∷ ts) (suc place) tree least below at is = tag_of_tree ts place tree least (omega (arith, below)) at is
