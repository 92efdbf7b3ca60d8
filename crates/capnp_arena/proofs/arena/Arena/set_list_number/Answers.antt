-- A number of the list's own width, at an index below its count, lies inside the list, so that element alone changes.
use Rattle.std.proofs.Common.{◌*◌, ap}
use Rattle.capnp_arena.proofs.WrittenLists.{list_number_written}
use Rattle.capnp_arena.proofs.arena.Arena.set_list_number.Goals as goal

pub returns-clause-forest : goal.returns-clause-forest
returns-clause-forest g c =
    (list_number_written _ _ _ _ _ _ _ c.args.self.now.whole c.requires.forest c.requires.inside c.write_number.ensures.long c.args.list.size _ _ c.requires.there c.requires.width.0 c.requires.width.1 (ap (λ k. k * c.args.list.count) c.get_width.ensures) c.write_number.ensures.put).forest

pub returns-clause-there : goal.returns-clause-there
returns-clause-there g c =
    (list_number_written _ _ _ _ _ _ _ c.args.self.now.whole c.requires.forest c.requires.inside c.write_number.ensures.long c.args.list.size _ _ c.requires.there c.requires.width.0 c.requires.width.1 (ap (λ k. k * c.args.list.count) c.get_width.ensures) c.write_number.ensures.put).place

pub returns-clause-tree : goal.returns-clause-tree
returns-clause-tree g c =
    (list_number_written _ _ _ _ _ _ _ c.args.self.now.whole c.requires.forest c.requires.inside c.write_number.ensures.long c.args.list.size _ _ c.requires.there c.requires.width.0 c.requires.width.1 (ap (λ k. k * c.args.list.count) c.get_width.ensures) c.write_number.ensures.put).tree

pub returns-clause-changes : goal.returns-clause-changes
returns-clause-changes g c =
    (list_number_written _ _ _ _ _ _ _ c.args.self.now.whole c.requires.forest c.requires.inside c.write_number.ensures.long c.args.list.size _ _ c.requires.there c.requires.width.0 c.requires.width.1 (ap (λ k. k * c.args.list.count) c.get_width.ensures) c.write_number.ensures.put).changes
