-- The quote and the hexadecimal digits lead on to the last quote, so its outcome is that of the whole.
-- A piece that stops before it stops the whole.
use Rattle.std.proofs.Common.{[], ◌++◌, ◌∷◌}
use Rattle.capnp_json.specs.Leaves.{hex_text, quoted}
use Rattle.capnp_json.specs.Pieces.{said}
use Rattle.capnp_json.proofs.Puts.{last_put, last_stopped, then_two, two_first, two_later}
use Rattle.capnp_json.proofs.data.put_hex_string.Goals as goal

pub returns-in-Err-clause-stopped : goal.returns-in-Err-clause-stopped
returns-in-Err-clause-stopped c = two_first c.args.out.now (34 ∷ []) (hex_text c.args.bytes.now ++ 34 ∷ []) c.in-Err.why c.in-Err.ensures.stopped

pub returns-in-Err-put_hex-clause-stopped : goal.returns-in-Err-put_hex-clause-stopped
returns-in-Err-put_hex-clause-stopped c =
    two_later c.args.out.now c.put.new.self (34 ∷ []) (hex_text c.args.bytes.now ++ 34 ∷ []) c.in-Err-put_hex.why c.in_default.ensures.put
    (two_first c.put.new.self (hex_text c.args.bytes.now) (34 ∷ []) c.in-Err-put_hex.why c.in-Err-put_hex.ensures.stopped)

pub returns-clause-put : goal.returns-clause-put
returns-clause-put c =
    last_put c.args.out.now c.put_hex.new.out c.put-2.new.self (said (quoted (hex_text c.args.bytes.now))) (said (34 ∷ []))
    (then_two c.args.out.now c.put.new.self c.put_hex.new.out (34 ∷ []) (hex_text c.args.bytes.now) (34 ∷ []) c.in_default.ensures.put c.in_default-put_hex.ensures.put) c.put-2.result c.put-2.ensures.put

pub returns-clause-stopped : goal.returns-clause-stopped
returns-clause-stopped c =
    last_stopped c.args.out.now c.put_hex.new.out c.put-2.new.self (said (quoted (hex_text c.args.bytes.now))) (said (34 ∷ []))
    (then_two c.args.out.now c.put.new.self c.put_hex.new.out (34 ∷ []) (hex_text c.args.bytes.now) (34 ∷ []) c.in_default.ensures.put c.in_default-put_hex.ensures.put) c.put-2.result c.put-2.ensures.stopped
