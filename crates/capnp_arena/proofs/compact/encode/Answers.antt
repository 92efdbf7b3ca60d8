-- What was appended to no bytes is the encoding. The count found tells the words, and that no tree is too deep.
use Rattle.std.proofs.Common.{arith, ◌++◌, ◌∙◌, ap}
use Rattle.capnp_wire.specs.Encoding.{encoding_of}
use Rattle.capnp_wire.specs.Facts.Bytes.{AreBytes_fits}
use Rattle.capnp_arena.specs.Forest.{tree}
use Rattle.capnp_arena.proofs.Encodings.{tree_held}
use Rattle.capnp_arena.proofs.compact.encode.Goals as goal

pub returns-clause-bytes : goal.returns-clause-bytes
returns-clause-bytes c = c.in_ok-append_encoding.ensures ∙ ap (λ z. z ++ encoding_of (tree c.args.bytes.now 0)) c.in_ok-out.ensures.items

pub returns-clause-held : goal.returns-clause-held
returns-clause-held c = (tree_held c.args.bytes.now 0 (AreBytes_fits c.args.bytes.now c.type_inv.bytes), omega (arith, c.in-Some.ensures.0, c.if-words-limit.false))

pub returns-clause-depth : goal.returns-clause-depth
returns-clause-depth c = c.in-Some.ensures.2
