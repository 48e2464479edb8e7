-- What members hold, by what their entries hold.
use Rattle.std.proofs.Common.{◌≡◌, ap, sym, ◌∙◌, List, [], ◌∷◌, ◌++◌, map, Option, Some, None, append_assoc}
use Rattle.std.specs.Global.{Vec}
use Rattle.asn_modules_rules.specs.lists.Extensions.{in_extension, in_tail}
use Rattle.asn_modules_grammar.specs.notation.Notation.{Member, Members, no_members, marker, member, members_of}
use Rattle.asn_modules_grammar.specs.notation.View.{members_view}
use Rattle.asn_modules_grammar.specs.declared.notation.notation.Extension.{Extension, out-Extension}
use Rattle.asn_modules_grammar.specs.declared.notation.notation.Member as code
use Rattle.asn_modules_grammar.specs.declared.notation.notation.Members as code_members
use Rattle.asn_modules_grammar.specs.declared.notation.notation.Members.{out-Members}
use Rattle.asn_modules_reader.specs.Views.{member_view}
use Rattle.asn_modules_names.proofs.references.Outs.{extension_seen, members_out, tail_seen}

-- One entry holds these, and all those that each of them holds; extension markers hold nothing.
module _ {X : Type 0} (one : Member → List X) (all : Members → List X) (none : all no_members ≡ []) (more : (m : Member) (ms : Members) → all (member m ms) ≡ one m ++ all ms) (silent : one marker ≡ []) where
  abbrev pub of_entries : List code.Member → List X
  of_entries ms = all (members_of (map member_view ms))

  join : (xs ys : List Member) → all (members_of (xs ++ ys)) ≡ all (members_of xs) ++ all (members_of ys)
  join [] ys = ap (λ l. l ++ all (members_of ys)) (sym none)
  join (x ∷ xs) ys =
      more x (members_of (xs ++ ys)) ∙ ap (λ l. one x ++ l) (join xs ys) ∙ sym (append_assoc (one x) (all (members_of xs)) (all (members_of ys)))
      ∙ ap (λ l. l ++ all (members_of ys)) (sym (more x (members_of xs)))

  past_marker : (ms : List Member) → all (member marker (members_of ms)) ≡ all (members_of ms)
  past_marker ms = more marker (members_of ms) ∙ ap (λ l. l ++ all (members_of ms)) silent

  tail_is : (tail : Option (Vec code.Member)) → all (members_of (tail_seen tail)) ≡ in_tail of_entries tail
  tail_is None = none
  tail_is (Some ms) = past_marker (map member_view ms.items)

  extension_is : (extension : Option Extension) → all (members_of (extension_seen extension)) ≡ in_extension of_entries extension
  extension_is None = none
  extension_is (Some e) =
      past_marker (map member_view (out-Extension e).additions.items ++ tail_seen (out-Extension e).tail) ∙ join (map member_view (out-Extension e).additions.items) (tail_seen (out-Extension e).tail)
      ∙ ap (λ l. of_entries (out-Extension e).additions.items ++ l) (tail_is (out-Extension e).tail)

  members_are : (m : code_members.Members) → all (members_of (members_view m)) ≡ of_entries (out-Members m).root.items ++ in_extension of_entries (out-Members m).extension
  members_are m =
      ap (λ l. all (members_of l)) (members_out m) ∙ join (map member_view (out-Members m).root.items) (extension_seen (out-Members m).extension)
      ∙ ap (λ l. of_entries (out-Members m).root.items ++ l) (extension_is (out-Members m).extension)

  -- What the root holds, and then what stands after the extension marker.
  pub both_added : (m : code_members.Members) (old between new : List X) (e : Extension) → between ≡ old ++ of_entries (out-Members m).root.items → (out-Members m).extension ≡ Some e → new ≡ between ++ in_extension of_entries (Some e)
      → new ≡ old ++ all (members_of (members_view m))
  both_added m old between new e b s n =
      n ∙ ap (λ l. l ++ in_extension of_entries (Some e)) b ∙ append_assoc old (of_entries (out-Members m).root.items) (in_extension of_entries (Some e))
      ∙ ap (λ o. old ++ (of_entries (out-Members m).root.items ++ in_extension of_entries o)) (sym s) ∙ ap (λ l. old ++ l) (sym (members_are m))
