-- The lent handle stands at the field's word inside the planted struct; a new tree there changes that pointer of the struct only.
use Rattle.std.proofs.Common.{arith, refl, subst}
use Rattle.capnp_arena.specs.Forest.{Changes, Forest}
use Rattle.capnp_arena.specs.Facts.Laws.{in_pointer}
use Rattle.capnp_arena.specs.Segment.{segment}
use Rattle.capnp_arena.proofs.struct_builder.StructBuilder.pointer_field_mut.Goals as goal

pub returns : goal.returns
returns c = (
  (refl, λ w. refl),
  record {
    lends = tt {0};
    now = refl;
    at = c.get_pointer_field-at.ensures.word;
    inside = omega (arith, c.requires.planted.ends, c.requires.inside, c.get_pointer_field-at.ensures.word);
    forest = c.get_pointer_field-at.ensures.forest;
    tree = c.get_pointer_field-at.ensures.tree;
    leaves = λ new g h. in_pointer _ _ _ _ _ _ c.requires.planted c.requires.inside (subst (Forest new) c.get_pointer_field-at.ensures.word g)
        (subst (λ k. Changes k (segment c.args.self.now.arena.now) new) c.get_pointer_field-at.ensures.word h);
  },
)
