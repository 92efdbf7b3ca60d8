use Rattle.std.proofs.Common.{◌++◌, ◌∙◌, ap, refl}
use Rattle.capnp_arena.proofs.compact.append_encoding.Goals as goal

pub returns-then-is_in_order : goal.returns-then-is_in_order
returns-then-is_in_order c = c.in_ok-extend_from_slice.ensures.items ∙ ap (λ z. c.args.out.now.items ++ z) (c.if-is_in_order.ensures refl)
