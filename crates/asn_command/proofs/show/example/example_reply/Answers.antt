use Rattle.std.proofs.Common.{Err, [], ap, refl, sym, length, map, inr}
use Rattle.asn_linked_types.specs.Expansion.{expansion}
use Rattle.asn_model.specs.ShapeView.{shape_view}
use Rattle.asn_modules.specs.Modules.{modules_view}
use Rattle.asn_modules.proofs.Named.{expanded-named, expanded-readable}
use Rattle.asn_command.proofs.show.example.example_reply.Goals as goal

pub reply_on-requires : goal.reply_on-requires
reply_on-requires c = expanded-readable c.types.result.now c.in-Some.number (shape_view c.in-Ok.shape) c.types.ensures.linked c.in-Ok.ensures.ok

pub returns-in_ok-large_reply-in-Err-TooLarge : goal.returns-in_ok-large_reply-in-Err-TooLarge
returns-in_ok-large_reply-in-Err-TooLarge c =
    let types = c.types.result.now in
    let shape = expansion (map shape_view types) (length types) [] c.in-Some.number in (
      shape,
      expanded-named (modules_view c.args.modules.now) c.args.name.now c.in-Some.number types shape (sym c.in-Some.ensures.number) c.types.ensures.types refl,
      inr (c.in-Err-TooLarge.ensures.large (ap Err c.in-Err-TooLarge.field-0-is), c.in_ok-large_reply-in-Err-TooLarge.ensures),
    )
