use Rattle.std.proofs.Common.{◌≡◌, ◌<◌, ◌^◌, ℕ, true, get_or, arith}
use Rattle.std.proofs.lemmas.Bool.Decides.{nat_tests}
use Rattle.std.proofs.lemmas.List.Elements.{All-from_get_or}
use Rattle.std.proofs.lemmas.List.Sums.{list_all-from_AllPass}
use Rattle.asn_strings.specs.Alphabets.{is_bmp}
use Rattle.asn_strings.proofs.laws.units_are_within.Goals as goal

below : (unit : ℕ) → unit < 2 ^ 16 → is_bmp unit ≡ true
below unit h = grind (arith, nat_tests)

pub returns : goal.returns
returns c =
    let units = c.args.units.now in
    list_all-from_AllPass is_bmp units
    (All-from_get_or (λ n. is_bmp n ≡ true) units 0 (λ i l. below (get_or units i 0) (omega (arith, c.type_inv.units i))))
