use Rattle.std.proofs.Common.{◌∙◌, ◌++◌, [], ap, refl}
use Rattle.std.proofs.lemmas.Result.{err_from_is_err_and}
use Rattle.asn_model.specs.Shape.{FieldAdditions}
use Rattle.asn_coding.specs.Passing.{RefusesFields, TakesFields}
use Rattle.asn_coding.proofs.ScopeReading.{scope_read, scope_refused}
use Rattle.asn_coding.proofs.Scopes.{table_names}
use Rattle.asn_sample_fields.specs.WithNullOpt.{with_null_opt_fields}
use Rattle.asn_by_hand.proofs.with_null_opt.fn.read_with_null_opt.decode_sequence.Goals as goal

pub returns-in_err-read_field : goal.returns-in_err-read_field
returns-in_err-read_field g c slots rest is count =
    let names = c.new-names.ensures ∙ ap (λ l. l ++ []) (table_names 0 _ with_null_opt_fields c.field_table.ensures) in
    let p = err_from_is_err_and c.from_residual.result c.from_residual.ensures.1 in
    rw (p.1, p.2) (scope_refused with_null_opt_fields FieldAdditions.closed_fields names (RefusesFields.refuses_field c.in_err-read_field.ensures.refused) slots rest is count)

pub returns-in_err-read_optional_field : goal.returns-in_err-read_optional_field
returns-in_err-read_optional_field g c slots rest is count =
    let names = c.new-names.ensures ∙ ap (λ l. l ++ []) (table_names 0 _ with_null_opt_fields c.field_table.ensures) in
    let p = err_from_is_err_and c.from_residual-in_err-read_optional_field.result c.from_residual-in_err-read_optional_field.ensures.1 in
    rw (p.1, p.2)
    (scope_refused with_null_opt_fields FieldAdditions.closed_fields names (RefusesFields.refuses_later_field c.in_ok-read_field.ensures.read (RefusesFields.refuses_field c.in_err-read_optional_field.ensures.refused) refl) slots rest is count)

pub returns : goal.returns
returns g c = scope_read with_null_opt_fields FieldAdditions.closed_fields _ (TakesFields.takes_next c.in_ok-read_field.ensures.read (TakesFields.takes_next c.in_ok-read_optional_field.ensures.read TakesFields.takes_none refl) refl)
