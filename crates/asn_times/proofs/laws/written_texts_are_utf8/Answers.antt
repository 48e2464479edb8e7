use Rattle.asn_times.specs.Written.{day_text, generalized_text, utc_text}
use Rattle.asn_times.proofs.AsciiTexts.{day_utf8, generalized_utf8, utc_utf8}
use Rattle.asn_times.proofs.Walks.{day_text-reads, generalized_text-written, utc_text-written}
use Rattle.asn_times.proofs.laws.written_texts_are_utf8.Goals as goal

pub returns : goal.returns
returns c = record {
  day = λ n years. day_utf8 n (day_text n) (day_text-reads n years);
  utc = λ n years. utc_utf8 n (utc_text n) (utc_text-written n years);
  generalized = λ n years. generalized_utf8 n (generalized_text n) (generalized_text-written n years);
}
