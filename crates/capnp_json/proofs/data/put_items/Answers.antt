-- Each number leads on to the items from the next index on.
-- Past the last byte the closing bracket is left, on a line of its own where there were items.
use Rattle.std.proofs.Common.{Err, arith, codes, true, ◌++◌}
use Rattle.capnp_json.specs.Leaves.{byte_items}
use Rattle.capnp_json.specs.Pieces.{ending, items_left, said}
use Rattle.capnp_json.proofs.ByteSteps.{item_stopped, item_then, items_end}
use Rattle.capnp_json.proofs.Puts.{last_put, last_stopped}
use Rattle.capnp_json.proofs.data.put_items.Goals as goal

pub loop-index-init : goal.loop-index-init
loop-index-init c = λ r h. h

pub loop-index-preserved : goal.loop-index-preserved
loop-index-preserved c = λ r h. c.loop-index.invariant r (item_then c.loop-index.out c.put_item.new.out c.args.at c.args.bytes.now c.loop-index.index (omega arith) c.in_default.ensures.put r h)

pub returns-in-Err-clause-stopped : goal.returns-in-Err-clause-stopped
returns-in-Err-clause-stopped c = c.loop-index.invariant (Err c.in-Err.why) (item_stopped c.loop-index.out c.args.at c.args.bytes.now c.loop-index.index (omega arith) c.in-Err.why c.in-Err.ensures.stopped)

pub returns-clause-put : goal.returns-clause-put
returns-clause-put c =
    last_put c.args.out.now c.loop-index.out c.put_closing.new.out (items_left (codes "]") c.args.at true (byte_items c.args.bytes.now)) (said (ending c.args.at c.is_empty.result ++ codes "]"))
    (λ r h. c.loop-index.invariant r (items_end c.loop-index.out c.args.at c.args.bytes.now c.loop-index.index c.is_empty.result (omega arith) c.is_empty.ensures r h)) c.put_closing.result c.put_closing.ensures.put

pub returns-clause-stopped : goal.returns-clause-stopped
returns-clause-stopped c =
    last_stopped c.args.out.now c.loop-index.out c.put_closing.new.out (items_left (codes "]") c.args.at true (byte_items c.args.bytes.now)) (said (ending c.args.at c.is_empty.result ++ codes "]"))
    (λ r h. c.loop-index.invariant r (items_end c.loop-index.out c.args.at c.args.bytes.now c.loop-index.index c.is_empty.result (omega arith) c.is_empty.ensures r h)) c.put_closing.result c.put_closing.ensures.stopped
