-- The new list of bytes is a front of what the word leads to, as long as was asked, and its bytes are zeros.
use Rattle.std.proofs.Common.{arith, refl}
use Rattle.capnp_arena.proofs.Fronts.{front_list}
use Rattle.capnp_arena.proofs.NewBytes.{new_bytes}
use Rattle.capnp_arena.proofs.pointer_builder.PointerBuilder.init_data.Goals as goal

pub returns : goal.returns
returns c =
    let e = c.in_ok-start.ensures in (
      (refl, (λ w. refl), tt {0}),
      record {
        rests = tt {0};
        same = refl;
        at = refl;
        there = record { forest = e.forest; front = front_list _ _ _ _ c.args.count e.place (omega arith) };
        count = refl;
        bytes = new_bytes _ _ e.forest _ c.args.count e.place e.tree;
        tree = e.tree;
        changes = e.changes;
        within = e.within;
        cause = tt {0};
      },
    )
