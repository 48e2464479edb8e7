-- What parts of members hold.
use Rattle.std.specs.Prelude.{List, [], ◌++◌, map, Option, Some, None}
use Rattle.std.specs.Global.{Vec}
use Rattle.asn_lexer.specs.declared.token.Token.{Token}
use Rattle.asn_modules_rules.specs.lists.Listed.{members_names}
use Rattle.asn_modules_rules.specs.lists.Written.{Written, members_bases, written_in}
use Rattle.asn_modules_names.specs.Mentions.{Source}
use Rattle.asn_modules_grammar.specs.notation.Notation.{members_of}
use Rattle.asn_modules_grammar.specs.declared.notation.notation.Extension.{Extension, out-Extension}
use Rattle.asn_modules_grammar.specs.declared.notation.notation.Member as code
use Rattle.asn_modules_reader.specs.Views.{member_view}

-- Of what entries hold, that of the entries after a second extension marker, if there is one.
abbrev pub in_tail : {X : Type 0} → (List code.Member → List X) → Option (Vec code.Member) → List X
in_tail of_entries None = []
in_tail of_entries (Some ms) = of_entries ms.items

-- That of the entries after an extension marker, if there is one.
abbrev pub in_extension : {X : Type 0} → (List code.Member → List X) → Option Extension → List X
in_extension of_entries None = []
in_extension of_entries (Some e) =
    of_entries (out-Extension e).additions.items ++ in_tail of_entries (out-Extension e).tail

-- The types that stand in these entries of the text.
abbrev pub entries_written : Source → List code.Member → List Written
entries_written s ms = map (written_in s) (members_bases (members_of (map member_view ms)))

-- The names of these entries.
abbrev pub entries_names : List code.Member → List Token
entries_names ms = members_names (members_of (map member_view ms))
