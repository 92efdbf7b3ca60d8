-- The field's word lies inside the planted struct; what a new tree at that word changes is that pointer of the struct only.
use Rattle.std.proofs.Common.{arith, subst}
use Rattle.capnp_arena.specs.Forest.{Changes, Forest}
use Rattle.capnp_arena.specs.Facts.Laws.{in_pointer}
use Rattle.capnp_arena.specs.Segment.{segment}
use Rattle.capnp_arena.proofs.struct_builder.StructBuilder.get_pointer_field.Goals as goal

pub returns-clause-inside : goal.returns-clause-inside
returns-clause-inside c = omega (arith, c.requires.planted.ends, c.requires.inside, c.get_pointer_field-at.ensures.word)

pub returns-clause-leaves : goal.returns-clause-leaves
returns-clause-leaves c = λ new g h. in_pointer _ _ _ _ _ _ c.requires.planted c.requires.inside (subst (Forest new) c.get_pointer_field-at.ensures.word g) (subst (λ k. Changes k (segment c.args.self.arena.now) new) c.get_pointer_field-at.ensures.word h)
