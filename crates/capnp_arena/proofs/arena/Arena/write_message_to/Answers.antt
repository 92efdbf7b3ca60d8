-- What the tree is, whichever way its bytes go.
use Rattle.std.proofs.Common.{arith, suc, ◌^◌, ◌<◌, ◌≤◌, List, ℕ}
use Rattle.capnp_wire.specs.Encoding.{message_of}
use Rattle.capnp_wire.specs.Facts.ReadMessage.{message_reads}
use Rattle.capnp_wire.specs.Message.{IsReadAs}
use Rattle.capnp_wire.specs.WellFormed.{IsWellFormed}
use Rattle.capnp_wire.specs.Words.{words_of}
use Rattle.capnp_arena.specs.Forest.{Forest, tree}
use Rattle.capnp_arena.specs.Shape.{word_count}
use Rattle.capnp_arena.proofs.Bounded.{words_fit}
use Rattle.capnp_arena.proofs.Sent.{if_err_always, on_ok_always}
use Rattle.capnp_arena.proofs.Whole.{forest_whole}
use Rattle.capnp_arena.proofs.arena.Arena.write_message_to.Goals as goal

fits : (bytes : List ℕ) → Forest bytes 0 → word_count bytes < 2 ^ 29 → suc (words_of (tree bytes 0)) < 2 ^ 29
fits bytes f few =
    let l : suc (words_of (tree bytes 0)) ≤ word_count bytes = words_fit bytes 0 f in
    omega (arith, few, l)

reads : (bytes : List ℕ) → IsWellFormed (tree bytes 0) → Forest bytes 0 → word_count bytes < 2 ^ 29 → IsReadAs (tree bytes 0) (message_of (tree bytes 0))
reads bytes h f few = λ shallow rest. message_reads (tree bytes 0) rest h (forest_whole bytes 0 f) shallow (fits bytes f few)

pub returns-then-not-is_in_order-clause-held : goal.returns-then-not-is_in_order-clause-held
returns-then-not-is_in_order-clause-held g c = on_ok_always c.put_made.result (c.tree_is_sound.ensures.formed, fits c.args.self.now.bytes.items c.requires.message c.args.self.now.few)

pub returns-then-not-is_in_order-clause-read : goal.returns-then-not-is_in_order-clause-read
returns-then-not-is_in_order-clause-read g c = on_ok_always c.put_made.result (reads c.args.self.now.bytes.items c.tree_is_sound.ensures.formed c.requires.message c.args.self.now.few)

pub returns-then-not-is_in_order-clause-fits : goal.returns-then-not-is_in_order-clause-fits
returns-then-not-is_in_order-clause-fits g c = if_err_always c.put_made.result (c.tree_is_sound.ensures.formed, fits c.args.self.now.bytes.items c.requires.message c.args.self.now.few)

pub returns-clause-held : goal.returns-clause-held
returns-clause-held g c = on_ok_always c.put_whole.result (c.tree_is_sound.ensures.formed, fits c.args.self.now.bytes.items c.requires.message c.args.self.now.few)

pub returns-clause-read : goal.returns-clause-read
returns-clause-read g c = on_ok_always c.put_whole.result (reads c.args.self.now.bytes.items c.tree_is_sound.ensures.formed c.requires.message c.args.self.now.few)

pub returns-clause-fits : goal.returns-clause-fits
returns-clause-fits g c = if_err_always c.put_whole.result (c.tree_is_sound.ensures.formed, fits c.args.self.now.bytes.items c.requires.message c.args.self.now.few)
