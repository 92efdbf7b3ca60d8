-- The part has the width times the count of bytes from the list's start, and a number in it is the element's of that list.
use Rattle.std.proofs.Common.{◌∙◌, ◌*◌, ap}
use Rattle.capnp_wire.specs.Place.{bytes_at}
use Rattle.capnp_wire.specs.Slot.{number_at}
use Rattle.capnp_arena.proofs.ElementsRead.{plain_number_is}
use Rattle.capnp_arena.proofs.ListsRead.{size_is_simple}
use Rattle.capnp_arena.proofs.arena.Arena.get_number_bytes.Goals as goal

pub returns : goal.returns
returns c = λ width index.
    ap (number_at width index) (c.get_part.ensures.part ∙ ap (λ b. bytes_at b c.args.list.start (c.get_width.result * c.args.list.count)) c.as_slice.ensures.value ∙ ap (λ k. bytes_at c.args.self.now.bytes.items c.args.list.start (k * c.args.list.count)) c.get_width.ensures)
    ∙ plain_number_is _ _ c.requires.forest c.args.list.start c.args.list.count c.args.list.size (size_is_simple _ _ c.requires.forest _ _ _ c.requires.there) c.requires.there width index
