use Rattle.asn_lexer.proofs.Reading.{stops_without}
use Rattle.asn_lexer.proofs.laws.no_tokens_where_it_stops.Goals as goal

pub returns : goal.returns
returns c = stops_without
