-- The names that parts of members refer to.
use Rattle.std.specs.Prelude.{List, [], ◌++◌, map, Option, Some, None}
use Rattle.std.specs.Global.{Vec}
use Rattle.asn_lexer.specs.declared.token.Token.{Token}
use Rattle.asn_modules_grammar.specs.notation.Notation.{members_of}
use Rattle.asn_modules_grammar.specs.declared.notation.notation.Extension.{Extension, out-Extension}
use Rattle.asn_modules_grammar.specs.declared.notation.notation.Member as code
use Rattle.asn_modules_reader.specs.Views.{member_view}
use Rattle.asn_modules_names.specs.references.References.{members_references}

-- Of these entries.
abbrev pub entries_references : List code.Member → List Token
entries_references ms = members_references (members_of (map member_view ms))

abbrev pub tail_references : Option (Vec code.Member) → List Token
tail_references None = []
tail_references (Some ms) = entries_references ms.items

abbrev pub extension_references : Option Extension → List Token
extension_references None = []
extension_references (Some e) =
    entries_references (out-Extension e).additions.items ++ tail_references (out-Extension e).tail
