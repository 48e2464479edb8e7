-- How the readers go through a text from the left, which proofs show to agree with the grammar.
use Rattle.std.specs.Prelude.{ℕ, zero, suc, ◌+◌, ◌-◌, ◌*◌, ◌/◌, Bool, true, false, ◌&&◌, ◌||◌, ◌==◌, nat_lt, List, [], ◌∷◌, Option, None, Some, if◌then◌else◌, ℤ, pos, neg_ℤ}
use Rattle.std.specs.Option.{option_map}
use Rattle.asn_times.specs.declared.dates.DayFields.{DayFields}
use Rattle.asn_times.specs.declared.moments.MomentFields.{MomentFields}
use Rattle.asn_times.specs.Utc.{full_year}

-- What f makes of the value, if there is one.
abbrev pub bind : {A B : Type 0} → Option A → (A → Option B) → Option B
bind None f = None
bind (Some a) f = f a

-- The character is a decimal digit.
abbrev pub is_digit : ℕ → Bool
is_digit b = nat_lt 47 b && nat_lt b 58

-- The number that two or four digits state, and what follows them.
abbrev pub two : List ℕ → Option (ℕ × List ℕ)
two [] = None
two (a ∷ []) = None
two (a ∷ b ∷ rest) =
    if is_digit a && is_digit b then Some ((a - 48) * 10 + (b - 48), rest) else None

abbrev pub four : List ℕ → Option (ℕ × List ℕ)
four text =
    bind (two text) (λ hundreds. bind (two hundreds.1) (λ ones.
    Some (hundreds.0 * 100 + ones.0, ones.1)))

-- The fields of `YYYY-MM-DD`, what follows a dash, and the fields where no character is left.
abbrev pub dash : List ℕ → Option (List ℕ)
dash [] = None
dash (b ∷ rest) = if b == 45 then Some rest else None

abbrev pub at_end : DayFields → List ℕ → Option DayFields
at_end fields [] = Some fields
at_end fields (b ∷ rest) = None

abbrev pub day_fields : List ℕ → Option DayFields
day_fields text =
    bind (four text) (λ y. bind (dash y.1) (λ s. bind (two s) (λ m. bind (dash m.1) (λ t.
    bind (two t) (λ d. at_end (record { year = y.0; month = m.0; day = d.0 }) d.1)))))

-- The seconds of `Z`, `+hhmm` or `-hhmm` at the end of a text, and of the parts of these.
abbrev pub offset_end : ℕ → ℕ → List ℕ → Option ℕ
offset_end h m [] = if nat_lt h 24 && nat_lt m 60 then Some (h * 3600 + m * 60) else None
offset_end h m (b ∷ rest) = None

abbrev pub length_of_offset : List ℕ → Option ℕ
length_of_offset text = bind (two text) (λ h. bind (two h.1) (λ m. offset_end h.0 m.0 m.1))

abbrev pub zulu_end : List ℕ → Option ℤ
zulu_end [] = Some (pos 0)
zulu_end (b ∷ rest) = None

abbrev pub zone : List ℕ → Option ℤ
zone [] = None
zone (b ∷ rest) =
    if b == 43 then option_map pos (length_of_offset rest)
    else (if b == 45 then option_map (λ n. neg_ℤ (pos n)) (length_of_offset rest)
    else (if b == 90 then zulu_end rest else None))

-- The fields of a year and `MMDDhhmm`, at the start of the minute in UTC, and what follows that.
abbrev pub minute_of : ℕ → ℕ → ℕ → ℕ → ℕ → MomentFields
minute_of year month day hour minute = record {
  day = record { year = year; month = month; day = day };
  clock = record { hour = hour; minute = minute; second = 0; nanosecond = 0 };
  offset = pos 0;
}

abbrev pub minute_fields : ℕ → List ℕ → Option (MomentFields × List ℕ)
minute_fields year text =
    bind (two text) (λ o. bind (two o.1) (λ d. bind (two d.1) (λ h. bind (two h.1) (λ m.
    Some (minute_of year o.0 d.0 h.0 m.0, m.1)))))

-- The fields of a text of UTCTime, whose `ss` is read with what follows it if it is there.
abbrev pub seconds_and_rest : List ℕ → ℕ × List ℕ
seconds_and_rest text = elim (two text) [ None ↦ (0, text) | Some p ↦ p ]

abbrev pub with_end : MomentFields → ℕ → ℕ → ℤ → MomentFields
with_end f second nanosecond offset = record {
  day = f.day;
  clock = record {
    hour = f.clock.hour;
    minute = f.clock.minute;
    second = second;
    nanosecond = nanosecond;
  };
  offset = offset;
}

abbrev pub utc_fields : List ℕ → Option MomentFields
utc_fields text =
    bind (two text) (λ y. bind (minute_fields (full_year y.0) y.1) (λ m.
    let s = seconds_and_rest m.1 in option_map (with_end m.0 s.0 0) (zone s.1)))

-- The nanoseconds of a fraction with its mark, if it is there, of one to nine digits, or of so many
-- digits at most, and what follows.
abbrev pub digits : ℕ → List ℕ → ℕ × List ℕ
digits zero text = (0, text)
digits (suc places) [] = (0, [])
digits (suc places) (b ∷ rest) = elim (is_digit b) [
  | true ↦ ((b - 48) * 100_000_000 + (digits places rest).0 / 10, (digits places rest).1)
  | false ↦ (0, b ∷ rest)
]

abbrev pub some_digits : List ℕ → Option (ℕ × List ℕ)
some_digits [] = None
some_digits (b ∷ rest) = if is_digit b then Some (digits 9 (b ∷ rest)) else None

abbrev pub fraction : List ℕ → Option (ℕ × List ℕ)
fraction [] = Some (0, [])
fraction (b ∷ rest) = if (b == 46) || (b == 44) then some_digits rest else Some (0, b ∷ rest)

-- The fields of a text of GeneralizedTime, whose zone is UTC where no character is left.
abbrev pub zone_or_utc : List ℕ → Option ℤ
zone_or_utc [] = Some (pos 0)
zone_or_utc (b ∷ rest) = zone (b ∷ rest)

abbrev pub generalized_fields : List ℕ → Option MomentFields
generalized_fields text =
    bind (four text) (λ y. bind (minute_fields y.0 y.1) (λ m.
    bind (two m.1) (λ s. bind (fraction s.1) (λ f.
    option_map (with_end m.0 s.0 f.0) (zone_or_utc f.1)))))
