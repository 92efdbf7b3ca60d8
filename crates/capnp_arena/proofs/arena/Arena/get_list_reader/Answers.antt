-- A list asked for with its own element size is always read, so no refusal comes; within the depth the whole tree is read.
use Rattle.std.proofs.Common.{◌∙◌, ap}
use Rattle.capnp_arena.specs.Listed.{listed_tree}
use Rattle.capnp_arena.specs.Segment.{segment}
use Rattle.capnp_arena.proofs.ListReaders.{list_is, never, reader_read}
use Rattle.capnp_arena.proofs.Shallow.{deep}
use Rattle.capnp_arena.proofs.arena.Arena.get_list_reader.Goals as goal

pub unreachable-requires : goal.unreachable-requires
unreachable-requires c = never c.get_list.result _
    (reader_read (segment c.args.self.now) _ c.args.at c.requires.forest c.args.list c.requires.there _ c.get_element_size-size.ensures c.as_slice.ensures.value _ c.of_word-reader.ensures.tree _ c.of_word-reader.ensures.levels _ c.get_list.ensures.read)
    c.in_default.not-Ok

pub returns-clause-read : goal.returns-clause-read
returns-clause-read c = list_is c.get_list.result c.in-Ok.list _ c.in-Ok.is
    (reader_read (segment c.args.self.now) _ c.args.at c.requires.forest c.args.list c.requires.there _ c.get_element_size-size.ensures c.as_slice.ensures.value _ c.of_word-reader.ensures.tree _ c.of_word-reader.ensures.levels _ c.get_list.ensures.read)

pub returns-clause-list : goal.returns-clause-list
returns-clause-list c = λ below. returns-clause-read c ∙ ap (λ t. listed_tree t c.args.list) (deep (segment c.args.self.now) c.args.at c.requires.forest 130 below)
