use Rattle.std.proofs.Common.{nat_eq}
use Rattle.std.proofs.lemmas.Bool.Decides.{Decides-eqb}
use Rattle.std.proofs.lemmas.Map.Lookups.{hash_map_eq-Decides}
use Rattle.asn_sets.proofs.indexed.IndexedCounts.agrees.Goals as goal

pub returns : goal.returns
returns g c = hash_map_eq-Decides {R = g.D.PartialEq.eq} {F = nat_eq} g.met.D.Eq.laws (λ v w. Decides-eqb v w) c.args.self.now.map c.args.other.now.map c.eq.result c.eq.ensures
