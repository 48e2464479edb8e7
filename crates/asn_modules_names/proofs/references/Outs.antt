-- What members are, by what they hold.
use Rattle.std.proofs.Common.{◌≡◌, refl, ap, sym, ◌∙◌, List, [], ◌∷◌, ◌++◌, map, Option, Some, None}
use Rattle.std.specs.Global.{Vec}
use Rattle.asn_modules_grammar.specs.notation.Notation as spec
use Rattle.asn_modules_grammar.specs.notation.View.{base_step, component_step, member_step, extension_step, members_step, notation_step, members_view}
use Rattle.asn_modules_grammar.specs.declared.notation.notation.Base.TheFolds.{fold-Extension, fold_out-Extension, fold_out-Members, fold-roll-Extension, fold-roll-Members}
use Rattle.asn_modules_grammar.specs.declared.notation.notation.Extension.{Extension, roll-Extension, out-Extension}
use Rattle.asn_modules_grammar.specs.declared.notation.notation.Member.{Member}
use Rattle.asn_modules_grammar.specs.declared.notation.notation.Members.{Members, roll-Members, out-Members}
use Rattle.asn_modules_reader.specs.Views.{member_view}

-- Entries after the second extension marker, with it.
abbrev pub tail_seen : Option (Vec Member) → List spec.Member
tail_seen None = []
tail_seen (Some ms) = spec.marker ∷ map member_view ms.items

-- Entries after the first extension marker, with it.
abbrev pub extension_seen : Option Extension → List spec.Member
extension_seen None = []
extension_seen (Some e) = spec.marker ∷ (map member_view (out-Extension e).additions.items ++ tail_seen (out-Extension e).tail)

abbrev extension_view : Extension → List spec.Member
extension_view = fold-Extension spec.Base spec.Member spec.Member (List spec.Member) (List spec.Member) spec.Notation base_step component_step member_step extension_step members_step notation_step

extension_viewed : (additions : Vec Member) (tail : Option (Vec Member)) → extension_view (roll-Extension (record { additions = additions; tail = tail })) ≡ map member_view additions.items ++ tail_seen tail
extension_viewed additions None = fold-roll-Extension spec.Base spec.Member spec.Member (List spec.Member) (List spec.Member) spec.Notation base_step component_step member_step extension_step members_step notation_step (record { additions = additions; tail = None })
extension_viewed additions (Some ms) = fold-roll-Extension spec.Base spec.Member spec.Member (List spec.Member) (List spec.Member) spec.Notation base_step component_step member_step extension_step members_step notation_step (record { additions = additions; tail = Some ms })

extension_out : (e : Extension) → extension_view e ≡ map member_view (out-Extension e).additions.items ++ tail_seen (out-Extension e).tail
extension_out e = fold_out-Extension spec.Base spec.Member spec.Member (List spec.Member) (List spec.Member) spec.Notation base_step component_step member_step extension_step members_step notation_step e
    ∙ sym (fold-roll-Extension spec.Base spec.Member spec.Member (List spec.Member) (List spec.Member) spec.Notation base_step component_step member_step extension_step members_step notation_step (out-Extension e))
    ∙ extension_viewed (out-Extension e).additions (out-Extension e).tail

members_viewed : (root : Vec Member) (extension : Option Extension) → members_view (roll-Members (record { root = root; extension = extension })) ≡ map member_view root.items ++ extension_seen extension
members_viewed root None = fold-roll-Members spec.Base spec.Member spec.Member (List spec.Member) (List spec.Member) spec.Notation base_step component_step member_step extension_step members_step notation_step (record { root = root; extension = None })
members_viewed root (Some e) = fold-roll-Members spec.Base spec.Member spec.Member (List spec.Member) (List spec.Member) spec.Notation base_step component_step member_step extension_step members_step notation_step (record { root = root; extension = Some e })
    ∙ ap (λ l. map member_view root.items ++ spec.marker ∷ l) (extension_out e)

-- The entries, with the extension markers among them.
pub members_out : (m : Members) → members_view m ≡ map member_view (out-Members m).root.items ++ extension_seen (out-Members m).extension
members_out m = fold_out-Members spec.Base spec.Member spec.Member (List spec.Member) (List spec.Member) spec.Notation base_step component_step member_step extension_step members_step notation_step m
    ∙ sym (fold-roll-Members spec.Base spec.Member spec.Member (List spec.Member) (List spec.Member) spec.Notation base_step component_step member_step extension_step members_step notation_step (out-Members m))
    ∙ members_viewed (out-Members m).root (out-Members m).extension
