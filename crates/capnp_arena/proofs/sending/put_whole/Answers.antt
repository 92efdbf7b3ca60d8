-- The front and the rest are the message.
use Rattle.std.proofs.Common.{◌≡◌, ◌++◌, drop, refl}
use Rattle.std.proofs.lemmas.List.{take_rest}
use Rattle.capnp_wire.specs.Encoding.{message_of}
use Rattle.capnp_wire.specs.Facts.Bytes.{AreBytes_fits}
use Rattle.capnp_arena.specs.Forest.{tree}
use Rattle.capnp_arena.proofs.Encodings.{tree_held}
use Rattle.capnp_arena.proofs.Sent.{front_cut, on_err_always, on_err_so, on_ok_so, parts_of, rest_cut, whole_sent}
use Rattle.capnp_arena.proofs.sending.put_whole.Goals as goal

pub returns-in_err-write_all-clause-beginning : goal.returns-in_err-write_all-clause-beginning
returns-in_err-write_all-clause-beginning g c =
    let bytes = c.args.bytes.now in
    let e : c.fill_front.new.front ++ drop c.min-count.result bytes ≡ message_of (tree bytes 0) = parts_of (tree bytes 0) bytes c.fill_front.new.front c.min-count.result _ (tree_held bytes 0 (AreBytes_fits bytes c.type_inv.bytes)) c.requires.order refl c.fill_front.ensures in
    on_err_always c.from_residual.result (front_cut (tree bytes 0) c.fill_front.new.front (drop c.min-count.result bytes) e _ _ c.in_err-write_all.ensures.beginning)

pub returns-clause-written : goal.returns-clause-written
returns-clause-written g c =
    let bytes = c.args.bytes.now in
    let e : c.fill_front.new.front ++ drop c.min-count.result bytes ≡ message_of (tree bytes 0) = parts_of (tree bytes 0) bytes c.fill_front.new.front c.min-count.result _ (tree_held bytes 0 (AreBytes_fits bytes c.type_inv.bytes)) c.requires.order refl c.fill_front.ensures in
    on_ok_so c.write_all-2.result (whole_sent (tree bytes 0) c.fill_front.new.front (drop c.min-count.result bytes) e _ _ _ c.in_ok-write_all.ensures.whole) (rw take_rest at c.write_all-2.ensures.whole)

pub returns-clause-beginning : goal.returns-clause-beginning
returns-clause-beginning g c =
    let bytes = c.args.bytes.now in
    let e : c.fill_front.new.front ++ drop c.min-count.result bytes ≡ message_of (tree bytes 0) = parts_of (tree bytes 0) bytes c.fill_front.new.front c.min-count.result _ (tree_held bytes 0 (AreBytes_fits bytes c.type_inv.bytes)) c.requires.order refl c.fill_front.ensures in
    on_err_so c.write_all-2.result (rest_cut (tree bytes 0) c.fill_front.new.front (drop c.min-count.result bytes) e _ _ _ c.in_ok-write_all.ensures.whole) (rw take_rest at c.write_all-2.ensures.beginning)
