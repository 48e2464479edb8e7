-- Members that are inserted into a map in their order.
use Rattle.std.proofs.Common.{◌≡◌, ◌∙◌, ◌∷◌, Global, List, String, ap, ap₂, string_bytes, string_cmp, subst, sym}
use Rattle.std.specs.BTreeMap.{insert_entry}
use Rattle.serde_json.proofs.Views.{members_view-insert_entry}
use Rattle.serde_json.specs.Data.{Members, put}
use Rattle.serde_json.specs.View.{view}
use Rattle.serde_json.specs.View.{members_view as members_seen}
use Rattle.serde_json.specs.declared.value.Value.{Value}
use Rattle.jer_values.specs.Names.{name_bytes}
use Rattle.jer_values.specs.Order.{HasOrdered, IsOrdered}
use Rattle.jer_values.specs.Views.{data_of, members_view}
use Rattle.jer_values.proofs.Joined.{joined, joined_one, ordered_after, put_last}
use Rattle.jer_values.proofs.Placing.{Member}

-- The next member goes after those that were inserted.
pub inserted : (old new : List (String Global × Value)) (key : String Global) (value : Value)
    (m : Member) (left rest all : List Member)
    → new ≡ insert_entry string_cmp old key value → string_bytes key ≡ name_bytes m.0
    → (IsOrdered (data_of m.1) → view value ≡ data_of m.1) → left ≡ m ∷ rest
    → HasOrdered (members_view all)
    → joined (members_seen old) (members_view left) ≡ members_view all
    → joined (members_seen new) (members_view rest) ≡ members_view all
inserted old new key value m left rest all is named seen next ordered before =
    let found = members_seen old in
    let k = name_bytes m.0 in
    let d = data_of m.1 in
    let whole : joined found (Members.member k d (members_view rest)) ≡ members_view all =
    ap (λ ms. joined found (members_view ms)) (sym next) ∙ before in
    let in_order = subst HasOrdered (sym whole) ordered in
    let here = (ordered_after found (Members.member k d (members_view rest)) in_order).1 in
    let put_now : members_seen new ≡ joined found (Members.member k d Members.no_members) =
    ap members_seen is ∙ members_view-insert_entry old key value
    ∙ ap₂ (λ n e. put n e found) named (seen here)
    ∙ put_last found k d (members_view rest) in_order in
    ap (λ ms. joined ms (members_view rest)) put_now ∙ joined_one found k d (members_view rest)
    ∙ whole
