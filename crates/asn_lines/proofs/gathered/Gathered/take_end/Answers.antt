use Rattle.std.proofs.Common.{sym, ◌∙◌, subst, ap, arith}
use Rattle.std.proofs.lemmas.Bool.{eqb-true}
use Rattle.std.proofs.lemmas.List.{nil_from_length}
use Rattle.asn_lines.specs.Gathering.{Gathers}
use Rattle.asn_lines.specs.Lines.{last_part}
use Rattle.asn_lines.proofs.OneLine.{nothing_gathers}
use Rattle.asn_lines.proofs.gathered.Gathered.take_end.Goals as goal

pub returns-then-is_empty-clause-taken : goal.returns-then-is_empty-clause-taken
returns-then-is_empty-clause-taken g c =
    let answers = g.W.LineWork.answers c.args.work.now in
    let self = c.args.self.now in
    let none = nil_from_length self.line.items (let e = eqb-true _ _ (sym c.is_empty.ensures ∙ c.if-is_empty.true) in omega (arith, e, self.line.ok.0)) in
    record {
      gathers = subst (Gathers answers self self) (ap last_part (sym none)) (nothing_gathers answers self);
      empty = none;
    }
