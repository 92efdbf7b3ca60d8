-- What is no null stays.
use Rattle.std.proofs.Common.{◌≡◌, refl, false}
use Rattle.capnp_arena.specs.Built.{built_at}
use Rattle.capnp_wire.specs.Reading.{is_null_tree}
use Rattle.capnp_wire.specs.Tree.{nth_tree}
use Rattle.capnp_slots.proofs.Filled.{not_null, same_there}
use Rattle.capnp_slots.proofs.part.put.Goals as goal

pub returns-then-not-is_null-clause-ok : goal.returns-then-not-is_null-clause-ok
returns-then-not-is_null-clause-ok g c =
    let there : is_null_tree (nth_tree (built_at c.args.arena.now c.args.place).pointers c.args.index) ≡ false = cc in
    same_there (built_at c.args.arena.now c.args.place) _ c.args.index _ refl (not_null _ (g.S.SetterInput.set_tree c.args.input) there)
