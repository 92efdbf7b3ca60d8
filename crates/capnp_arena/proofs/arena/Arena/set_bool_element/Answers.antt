-- Only a list of bits has a bit at an index; it lies within the list's words, and writing it changes that element alone.
use Rattle.std.proofs.Common.{arith, sym}
use Rattle.capnp_arena.specs.Segment.{segment}
use Rattle.capnp_arena.proofs.WrittenElements.{bit_ends, bit_inside, bit_leaves, no_bit_there}
use Rattle.capnp_arena.proofs.arena.Arena.set_bool_element.Goals as goal

pub unreachable-requires : goal.unreachable-requires
unreachable-requires c = no_bit_there _ _ c.args.index c.requires.forest c.requires.bit c.look.result c.look.ensures.shape c.in_default.not-List

pub write_bit-requires-clause-part : goal.write_bit-requires-clause-part
write_bit-requires-clause-part c = bit_ends _ (segment c.args.self.now) _ _ c.args.value c.args.self.now.whole c.requires.forest c.requires.bit _ _ _ _ (sym c.in-List.ensures.shape) (omega arith)

pub write_bit-requires-clause-inside : goal.write_bit-requires-clause-inside
write_bit-requires-clause-inside c = bit_inside _ (segment c.args.self.now) _ _ c.args.value c.args.self.now.whole c.requires.forest c.requires.bit _ _ _ _ (sym c.in-List.ensures.shape) (omega arith)

pub returns-clause-leaves : goal.returns-clause-leaves
returns-clause-leaves c = bit_leaves _ _ _ _ c.args.value c.args.self.now.whole c.requires.forest c.requires.bit _ _ _ _ (sym c.in-List.ensures.shape) (omega arith) c.write_bit.ensures.long c.write_bit.ensures.put
