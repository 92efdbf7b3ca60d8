-- The words of the message fit the segment, so it is within the format; what was written reads back as the forest's tree.
use Rattle.std.proofs.Common.{arith, suc, ◌++◌, ◌∙◌, ◌^◌, ◌<◌, ◌≤◌, ap}
use Rattle.capnp_wire.specs.Stream.{message_tree_of}
use Rattle.capnp_wire.specs.Words.{words_of}
use Rattle.capnp_wire.specs.Facts.ReadMessage.{message_reads}
use Rattle.capnp_arena.specs.Forest.{tree}
use Rattle.capnp_arena.specs.Shape.{word_count}
use Rattle.capnp_arena.proofs.Bounded.{words_fit}
use Rattle.capnp_arena.proofs.Whole.{forest_whole}
use Rattle.capnp_arena.proofs.arena.Arena.write_message.Goals as goal

pub returns-clause-held : goal.returns-clause-held
returns-clause-held c =
    let h = rw c.as_slice-bytes.ensures.value at c.in_ok-append_message.ensures.held in
    let few : word_count c.args.self.now.bytes.items < 2 ^ 29 = c.args.self.now.few in
    let l : suc (words_of (tree c.args.self.now.bytes.items 0)) ≤ word_count c.args.self.now.bytes.items = words_fit c.args.self.now.bytes.items 0 c.requires.forest in
    (h, omega (arith, few, l))

pub returns-clause-read : goal.returns-clause-read
returns-clause-read c = λ shallow rest.
    let h = rw c.as_slice-bytes.ensures.value at c.in_ok-append_message.ensures.held in
    let few : word_count c.args.self.now.bytes.items < 2 ^ 29 = c.args.self.now.few in
    let l : suc (words_of (tree c.args.self.now.bytes.items 0)) ≤ word_count c.args.self.now.bytes.items = words_fit c.args.self.now.bytes.items 0 c.requires.forest in
    let e = rw c.as_slice-bytes.ensures.value at c.in_ok-append_message.ensures.bytes in
    ap (λ x. message_tree_of (x ++ rest)) e ∙ message_reads (tree c.args.self.now.bytes.items 0) rest h (forest_whole c.args.self.now.bytes.items 0 c.requires.forest) shallow (omega (arith, few, l))

pub returns-in_err-out-clause-fits : goal.returns-in_err-out-clause-fits
returns-in_err-out-clause-fits c =
    let few : word_count c.args.self.now.bytes.items < 2 ^ 29 = c.args.self.now.few in
    let l : suc (words_of (tree c.args.self.now.bytes.items 0)) ≤ word_count c.args.self.now.bytes.items = words_fit c.args.self.now.bytes.items 0 c.requires.forest in
    omega (arith, few, l)

pub returns-in_err-append_message-clause-fits : goal.returns-in_err-append_message-clause-fits
returns-in_err-append_message-clause-fits c =
    let few : word_count c.args.self.now.bytes.items < 2 ^ 29 = c.args.self.now.few in
    let l : suc (words_of (tree c.args.self.now.bytes.items 0)) ≤ word_count c.args.self.now.bytes.items = words_fit c.args.self.now.bytes.items 0 c.requires.forest in
    omega (arith, few, l)

pub returns-clause-fits : goal.returns-clause-fits
returns-clause-fits c =
    let few : word_count c.args.self.now.bytes.items < 2 ^ 29 = c.args.self.now.few in
    let l : suc (words_of (tree c.args.self.now.bytes.items 0)) ≤ word_count c.args.self.now.bytes.items = words_fit c.args.self.now.bytes.items 0 c.requires.forest in
    omega (arith, few, l)
