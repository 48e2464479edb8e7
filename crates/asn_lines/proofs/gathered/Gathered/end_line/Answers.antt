use Rattle.std.proofs.Common.{◌+◌, ◌++◌, arith, refl, ap, ◌∙◌, subst}
use Rattle.asn_lines.specs.Lines.{IsShort}
use Rattle.asn_lines.proofs.OneLine.{answered_gathers, refused_gathers}
use Rattle.asn_lines.proofs.gathered.Gathered.end_line.Goals as goal
use Rattle.asn_lines.proofs.gathered.Gathered.end_line.Goals.{in-Answer+in_ok-extend_from_slice-in-Answer, in-Refusal+in_ok-extend_from_slice-in-Refusal}

pub returns-clause-gathers : goal.returns-clause-gathers
returns-clause-gathers g c =
    let old = c.args.self.now in
    let answers = g.W.LineWork.answers c.args.work.now in
    let short : IsShort old.line.items = subst IsShort c.deref.ensures.value (omega (arith, c.deref.ensures.len)) in
    let is = subst (λ l. answers (old.lines + 1) l c.in_ok-text.field-0) c.deref.ensures.value c.in_ok-text.ensures in
    elim c.match-branch-2.branch [
      | in-Answer+in_ok-extend_from_slice-in-Answer w ↦
          let wrote = w.in_ok-extend_from_slice-in-Answer.ensures.items ∙ ap (λ t. old.output.items ++ t) w.as_bytes.ensures.value in
          answered_gathers answers old _ old.line.items w.in-Answer.text short refl (subst (answers (old.lines + 1) old.line.items) w.in-Answer.is is)
          (rw w.self-is wrote) (rw w.self-is refl) (rw w.self-is refl)
      | in-Refusal+in_ok-extend_from_slice-in-Refusal w ↦
          let wrote = w.in_ok-extend_from_slice-in-Refusal.ensures.items ∙ ap (λ t. old.errors.items ++ t) w.as_bytes-in-Refusal.ensures.value in
          refused_gathers answers old _ old.line.items w.in-Refusal.text short refl (subst (answers (old.lines + 1) old.line.items) w.in-Refusal.is is)
          (rw w.self-is refl) (rw w.self-is wrote) (rw w.self-is refl)
    ]
