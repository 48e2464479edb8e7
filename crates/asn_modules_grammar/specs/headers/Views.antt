-- What headers hold.
use Rattle.std.specs.Prelude.{List, map}
use Rattle.std.specs.Option.{option_map}
use Rattle.asn_lexer.specs.declared.token.Token.{Token}
use Rattle.asn_modules_grammar.specs.declared.headers.header.Header.{Header}
use Rattle.asn_modules_grammar.specs.declared.headers.import.Import.{Import}
use Rattle.asn_modules_grammar.specs.headers.Headers as spec

-- Names, and the module that they are imported from.
abbrev pub import_view : Import → List Token × Token
import_view i = (i.names.items, i.module)

-- What stands in a module before its assignments.
abbrev pub header_view : Header → spec.Header
header_view h =
    record { opening = h.opening; exports = option_map (λ names. names.items) h.exports; imports = map import_view h.imports.items }
