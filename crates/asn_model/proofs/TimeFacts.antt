-- A time in the years of its text is written as a text that is read as that time.
use Rattle.std.proofs.Common.{◌≡◌, ap, ℤ, true, Ok}
use Rattle.std.specs.Str.{is_utf8}
use Rattle.std.proofs.lemmas.Str.{is_utf8-from_IsUtf8}
use Rattle.asn_core.specs.declared.codec.Codec.{Codec}
use Rattle.asn_times.specs.Days.{IsInDayYears}
use Rattle.asn_times.specs.Generalized.{IsInGeneralizedYears}
use Rattle.asn_times.specs.Utc.{IsInUtcYears}
use Rattle.asn_times.specs.Written.{day_text, generalized_text, utc_text}
use Rattle.asn_times.proofs.AsciiTexts.{day_utf8, generalized_utf8, utc_utf8}
use Rattle.asn_times.proofs.Meant.{day_meant, generalized_meant, utc_meant}
use Rattle.asn_times.proofs.Walks.{day_text-reads, generalized_text-reads, generalized_text-written, utc_text-reads, utc_text-written}
use Rattle.asn_model.specs.Leaf.{refine, time_or}
use Rattle.asn_model.specs.Shape.{Shape}
use Rattle.asn_model.specs.Value.{Value}

pub utc_kept : (c : Codec) (n : ℤ) → IsInUtcYears n → refine c Shape.utc (Value.text (utc_text n)) ≡ Ok (Value.utc n)
utc_kept c n years = ap (time_or (utc_text n) Value.utc) (utc_meant (utc_text n) n (utc_text-reads n years))

pub generalized_kept : (c : Codec) (n : ℤ) → IsInGeneralizedYears n → refine c Shape.gen (Value.text (generalized_text n)) ≡ Ok (Value.gen n)
generalized_kept c n years = ap (time_or (generalized_text n) Value.gen) (generalized_meant (generalized_text n) n (generalized_text-reads n years))

pub day_kept : (c : Codec) (n : ℤ) → IsInDayYears n → refine c Shape.day (Value.text (day_text n)) ≡ Ok (Value.day n)
day_kept c n years = ap (time_or (day_text n) Value.day) (day_meant (day_text n) n (day_text-reads n years))

-- The texts are UTF-8.
pub utc_text_utf8 : (n : ℤ) → IsInUtcYears n → is_utf8 (utc_text n) ≡ true
utc_text_utf8 n years = is_utf8-from_IsUtf8 (utc_text n) (utc_utf8 n (utc_text n) (utc_text-written n years))

pub generalized_text_utf8 : (n : ℤ) → IsInGeneralizedYears n → is_utf8 (generalized_text n) ≡ true
generalized_text_utf8 n years = is_utf8-from_IsUtf8 (generalized_text n) (generalized_utf8 n (generalized_text n) (generalized_text-written n years))

pub day_text_utf8 : (n : ℤ) → IsInDayYears n → is_utf8 (day_text n) ≡ true
day_text_utf8 n years = is_utf8-from_IsUtf8 (day_text n) (day_utf8 n (day_text n) (day_text-reads n years))
