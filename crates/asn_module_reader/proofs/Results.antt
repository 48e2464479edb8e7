-- What readers return, of what they called returned.
use Rattle.std.proofs.Common.{◌≡◌, ◌≤◌, ℕ, suc, List, [], ◌∷◌, ◌++◌, Bool, true, false, Option, Some, None, Ok, Err, sym, ap, subst, ◌∙◌}
use Rattle.std.specs.Prelude.{IfOk, Result}
use Rattle.asn_model.specs.Shape.{SeqKind}
use Rattle.asn_notation.specs.Grammar.{separator_of, NotationParses, ElementParses, ItemParses, ListParses}
use Rattle.asn_notation.specs.Notation as spec
use Rattle.asn_notation.specs.Notation.{Element, members, list_of, marker, any, is_marker, is_item_marker, elements_of}
use Rattle.asn_notation.specs.Starts as starts
use Rattle.asn_notation.specs.Starts.{start_at}
use Rattle.asn_notation.specs.Tokens.{Token, IsToken, first_token, past_token, keyword_at}
use Rattle.asn_notation.specs.View.{notation_view}
use Rattle.asn_notation.specs.declared.keyword.Keyword.TheVariants as keyword
use Rattle.asn_notation.specs.declared.notation.Notation.{Notation}
use Rattle.asn_module_reader.specs.EntryLists.{Allows}
use Rattle.asn_module_reader.specs.Productions.{MembersParse}
use Rattle.asn_module_reader.specs.StartView.{start_view}
use Rattle.asn_module_reader.specs.TokenView.{token_view}
use Rattle.asn_module_reader.specs.declared.fault.ReadFault.{ReadFault}
use Rattle.asn_module_reader.specs.declared.start.Start.{Start}
use Rattle.asn_module_reader.specs.declared.token.Token as code
use Rattle.asn_module_reader.proofs.ItemsRead.{item_named, item_marked}
use Rattle.asn_module_reader.proofs.ElementsRead.{element_marked}
use Rattle.asn_module_reader.proofs.NotationsRead.{notation_members, braced, listed}

-- What holds of a token that is there.
pub taken : {P : Type 0} (f t : code.Token) → f ≡ t → IsToken (token_view t) → (IsToken (token_view f) → P) → P
taken f t e i h = h (subst (λ x. IsToken (token_view x)) (sym e) i)

-- What holds of the first word of a notation.
pub started : {P : Type 0} (f s : Start) → f ≡ s → (start_view s ≡ starts.Start.nothing → ⊥) → ((start_view f ≡ starts.Start.nothing → ⊥) → P) → P
started f s e n h = h (λ z. n (ap start_view (sym e) ∙ z))

pub named_result : (u v rest name : List ℕ) (old new : List (Option (List ℕ))) (r : Result Bool ReadFault) → Token.word name ≡ first_token u → v ≡ past_token u → new ≡ old ++ Some name ∷ []
    → IfOk r (λ more. separator_of (first_token v) ≡ Some more) → IfOk r (λ more. rest ≡ past_token v)
    → IfOk r (λ more. (i : Option (List ℕ)) × ItemParses u i more rest × Allows is_item_marker old i × (new ≡ old ++ i ∷ []))
named_result u v rest name old new (Ok more) e m n s k = (Some name, item_named u v rest name more e m s k, (λ h. let x : ⊥ = cc in absurd x), n)
named_result u v rest name old new (Err f) e m n s k = tt

pub marked_result : (u v rest : List ℕ) (old new : List (Option (List ℕ))) (r : Result Bool ReadFault) → Token.ellipsis ≡ first_token u → v ≡ past_token u → any is_item_marker old ≡ false → new ≡ old ++ None ∷ []
    → IfOk r (λ more. separator_of (first_token v) ≡ Some more) → IfOk r (λ more. rest ≡ past_token v)
    → IfOk r (λ more. (i : Option (List ℕ)) × ItemParses u i more rest × Allows is_item_marker old i × (new ≡ old ++ i ∷ []))
marked_result u v rest old new (Ok more) e m a n s k = (None, item_marked u v rest more e m s k, (λ h. a), n)
marked_result u v rest old new (Err f) e m a n s k = tt

pub marker_result : (limit level : ℕ) (allowed : Bool) (u v rest : List ℕ) (old new : List Element) (r : Result Bool ReadFault) → Token.ellipsis ≡ first_token u → v ≡ past_token u → any is_marker old ≡ false → new ≡ old ++ marker ∷ []
    → IfOk r (λ more. separator_of (first_token v) ≡ Some more) → IfOk r (λ more. rest ≡ past_token v)
    → IfOk r (λ more. (x : Element) × ElementParses limit level allowed u x more rest × Allows is_marker old x × (new ≡ old ++ x ∷ []))
marker_result limit level allowed u v rest old new (Ok more) e m a n s k = (marker, element_marked limit level allowed u v rest more e m s k, (λ h. a), n)
marker_result limit level allowed u v rest old new (Err f) e m a n s k = tt

pub members_result : (limit level next : ℕ) (u v rest : List ℕ) (kind : SeqKind) (r : Result Notation ReadFault) → level ≤ limit → next ≡ suc level → starts.Start.members kind ≡ start_at u → v ≡ past_token u
    → IfOk r (λ n. MembersParse limit next kind v (notation_view n) rest) → IfOk r (λ n. NotationParses limit level u (notation_view n) rest)
members_result limit level next u v rest kind (Ok n) l up e m p = notation_members limit level next u v rest kind (notation_view n) l up e m p
members_result limit level next u v rest kind (Err f) l up e m p = tt

pub braced_as : (limit level : ℕ) (kind k : SeqKind) (v w rest : List ℕ) (es : List Element) (n : spec.Notation) → kind ≡ k → n ≡ members k (elements_of es) → Token.open_brace ≡ first_token v → w ≡ past_token v
    → ListParses limit level true w es rest → MembersParse limit level kind v n rest
braced_as limit level kind k v w rest es n e f o m d =
    subst (λ x. MembersParse limit level kind v x rest) (sym (f ∙ ap (λ x. members x (elements_of es)) (sym e))) (braced limit level kind v w rest es o m d)

pub listed_as : (limit level : ℕ) (kind k : SeqKind) (v w rest : List ℕ) (part n : spec.Notation) → kind ≡ k → n ≡ list_of k part → keyword_at v ≡ Some keyword.Of → w ≡ past_token v
    → NotationParses limit level w part rest → MembersParse limit level kind v n rest
listed_as limit level kind k v w rest part n e f o m d =
    subst (λ x. MembersParse limit level kind v x rest) (sym (f ∙ ap (λ x. list_of x part) (sym e))) (listed limit level kind v w rest part o m d)
