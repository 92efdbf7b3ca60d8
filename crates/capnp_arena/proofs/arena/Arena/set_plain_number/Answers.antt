-- A number that the list has lies inside the bytes of the list, so the write stays inside and changes that element alone.
use Rattle.std.proofs.Common.{◌*◌, ap, arith}
use Rattle.capnp_arena.proofs.WrittenElements.{number_inside, number_leaves}
use Rattle.capnp_arena.proofs.arena.Arena.set_plain_number.Goals as goal

pub write_number-requires-clause-inside : goal.write_number-requires-clause-inside
write_number-requires-clause-inside g c =
    let l = number_inside _ _ _ _ _ _ c.requires.forest c.args.list.size c.requires.there c.requires.number in
    omega (arith, l, ap (λ k. k * c.args.list.count) c.get_width.ensures)

pub returns-clause-leaves : goal.returns-clause-leaves
returns-clause-leaves g c =
    number_leaves _ _ _ _ _ _ _ _ c.args.self.now.whole c.requires.forest c.write_number.ensures.long c.args.list.size _ c.requires.there (ap (λ k. k * c.args.list.count) c.get_width.ensures) c.requires.number c.write_number.ensures.put
