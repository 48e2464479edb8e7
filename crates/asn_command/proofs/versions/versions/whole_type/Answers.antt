use Rattle.std.proofs.Common.{Err, [], ap, refl, sym, length, map, inr}
use Rattle.asn_linked_types.specs.Expansion.{expansion}
use Rattle.asn_model.specs.ShapeView.{shape_view}
use Rattle.asn_modules.specs.Modules.{modules_view}
use Rattle.asn_command.proofs.versions.Named.{expanded-type}
use Rattle.asn_modules.proofs.Named.{expanded-named}
use Rattle.asn_command.proofs.versions.versions.whole_type.Goals as goal

pub returns-in-Ok : goal.returns-in-Ok
returns-in-Ok c =
    expanded-type (modules_view c.args.modules.now) c.args.name.now c.in-Some.number c.types.result.now (shape_view c.in-Ok.shape) (sym c.in-Some.ensures.number) c.types.ensures.types c.in-Ok.ensures.ok c.types.ensures.linked c.in-Ok.ensures.nodes

pub returns-in_ok-large_reply-in-Err-TooLarge : goal.returns-in_ok-large_reply-in-Err-TooLarge
returns-in_ok-large_reply-in-Err-TooLarge c =
    let types = c.types.result.now in
    let shape = expansion (map shape_view types) (length types) [] c.in-Some.number in
    inr record {
      shape = shape;
      named = expanded-named (modules_view c.args.modules.now) c.args.name.now c.in-Some.number types shape (sym c.in-Some.ensures.number) c.types.ensures.types refl;
      large = c.in-Err-TooLarge.ensures.large (ap Err c.in-Err-TooLarge.field-0-is);
      told = c.in_ok-large_reply-in-Err-TooLarge.ensures;
    }
