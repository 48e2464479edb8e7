-- A text of ASCII has its octets as its characters.
use Rattle.std.proofs.Common.{chars, sym}
use Rattle.std.proofs.lemmas.Result.{err_from_is_err_and}
use Rattle.asn_strings.specs.Alphabets.{is_bmp}
use Rattle.asn_strings.proofs.Places.{ascii_in_plane, none_is_within}
use Rattle.asn_strings.proofs.bmp.BmpString.try_from_text.Goals as goal

pub returns-in_err-units_of_ascii-clause-outside : goal.returns-in_err-units_of_ascii-clause-outside
returns-in_err-units_of_ascii-clause-outside c =
    let within = ascii_in_plane c.args.text.now c.if-is_ascii.ensures.cases in
    let p = err_from_is_err_and c.from_residual.result c.from_residual.ensures.1 in
    rw (p.1, p.2) (sym ((none_is_within is_bmp (chars c.args.text.now)).1 within))

pub returns-then-is_ascii-clause-within : goal.returns-then-is_ascii-clause-within
returns-then-is_ascii-clause-within c =
    ascii_in_plane c.args.text.now c.if-is_ascii.ensures.cases

pub returns-then-is_ascii-clause-outside : goal.returns-then-is_ascii-clause-outside
returns-then-is_ascii-clause-outside c =
    let within = ascii_in_plane c.args.text.now c.if-is_ascii.ensures.cases in
    sym ((none_is_within is_bmp (chars c.args.text.now)).1 within)
