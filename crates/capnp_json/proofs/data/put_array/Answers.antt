-- The opening bracket leads on to the items, one bracket further in.
-- More brackets than can be counted are a want of memory, which says nothing of the JSON.
use Rattle.std.proofs.Common.{Option, codes, subst, true, ℕ}
use Rattle.capnp_records.specs.Text.{deeper}
use Rattle.capnp_json.specs.Leaves.{byte_items}
use Rattle.capnp_json.specs.Pieces.{array, items_left, said}
use Rattle.capnp_json.specs.Steps.Puts.{IsPut, IsStopped}
use Rattle.capnp_json.proofs.ByteSteps.{no_memory}
use Rattle.capnp_json.proofs.Puts.{err_map, last_put, last_stopped, ok_map, stop_first, then}
use Rattle.capnp_json.proofs.data.put_array.Goals as goal

pub returns-in-Err-clause-stopped : goal.returns-in-Err-clause-stopped
returns-in-Err-clause-stopped c = stop_first c.args.out.now (said (codes "[")) (items_left (codes "]") (deeper c.args.at) true (byte_items c.args.bytes.now)) c.in-Err.why c.in-Err.ensures.stopped

pub returns-in-Err-one_deeper-clause-stopped : goal.returns-in-Err-one_deeper-clause-stopped
returns-in-Err-one_deeper-clause-stopped c = no_memory c.args.out.now (array c.args.at (byte_items c.args.bytes.now)) c.in-Err-one_deeper.why c.in-Err-one_deeper.ensures.memory

pub returns-in-Ok-clause-put : goal.returns-in-Ok-clause-put
returns-in-Ok-clause-put c =
    last_put c.args.out.now c.put.new.self c.put_items.new.out (array c.args.at (byte_items c.args.bytes.now)) (items_left (codes "]") (deeper c.args.at) true (byte_items c.args.bytes.now))
    (then c.args.out.now c.put.new.self (said (codes "[")) (items_left (codes "]") (deeper c.args.at) true (byte_items c.args.bytes.now)) c.in_default.ensures.put) c.put_items.result
    (ok_map c.put_items.result (subst (λ (z : Option ℕ). IsPut c.put.new.self (items_left (codes "]") z true (byte_items c.args.bytes.now)) c.put_items.new.out) c.in-Ok.ensures.deeper) c.put_items.ensures.put)

pub returns-in-Ok-clause-stopped : goal.returns-in-Ok-clause-stopped
returns-in-Ok-clause-stopped c =
    last_stopped c.args.out.now c.put.new.self c.put_items.new.out (array c.args.at (byte_items c.args.bytes.now)) (items_left (codes "]") (deeper c.args.at) true (byte_items c.args.bytes.now))
    (then c.args.out.now c.put.new.self (said (codes "[")) (items_left (codes "]") (deeper c.args.at) true (byte_items c.args.bytes.now)) c.in_default.ensures.put) c.put_items.result
    (err_map c.put_items.result (λ why. subst (λ (z : Option ℕ). IsStopped c.put.new.self (items_left (codes "]") z true (byte_items c.args.bytes.now)) why) c.in-Ok.ensures.deeper) c.put_items.ensures.stopped)
