-- The quote and the base64 lead on to the last quote, so its outcome is that of the whole.
-- A piece that stops before it stops the whole.
use Rattle.std.proofs.Common.{[], ◌++◌, ◌∷◌}
use Rattle.capnp_json.specs.Leaves.{base64_text, quoted}
use Rattle.capnp_json.specs.Pieces.{said}
use Rattle.capnp_json.proofs.Puts.{last_put, last_stopped, then_two, two_first, two_later}
use Rattle.capnp_json.proofs.data.put_base64_string.Goals as goal

pub returns-in-Err-clause-stopped : goal.returns-in-Err-clause-stopped
returns-in-Err-clause-stopped c = two_first c.args.out.now (34 ∷ []) (base64_text c.args.bytes.now ++ 34 ∷ []) c.in-Err.why c.in-Err.ensures.stopped

pub returns-in-Err-put_base64-clause-stopped : goal.returns-in-Err-put_base64-clause-stopped
returns-in-Err-put_base64-clause-stopped c =
    two_later c.args.out.now c.put.new.self (34 ∷ []) (base64_text c.args.bytes.now ++ 34 ∷ []) c.in-Err-put_base64.why c.in_default.ensures.put
    (two_first c.put.new.self (base64_text c.args.bytes.now) (34 ∷ []) c.in-Err-put_base64.why c.in-Err-put_base64.ensures.stopped)

pub returns-clause-put : goal.returns-clause-put
returns-clause-put c =
    last_put c.args.out.now c.put_base64.new.out c.put-2.new.self (said (quoted (base64_text c.args.bytes.now))) (said (34 ∷ []))
    (then_two c.args.out.now c.put.new.self c.put_base64.new.out (34 ∷ []) (base64_text c.args.bytes.now) (34 ∷ []) c.in_default.ensures.put c.in_default-put_base64.ensures.put) c.put-2.result c.put-2.ensures.put

pub returns-clause-stopped : goal.returns-clause-stopped
returns-clause-stopped c =
    last_stopped c.args.out.now c.put_base64.new.out c.put-2.new.self (said (quoted (base64_text c.args.bytes.now))) (said (34 ∷ []))
    (then_two c.args.out.now c.put.new.self c.put_base64.new.out (34 ∷ []) (base64_text c.args.bytes.now) (34 ∷ []) c.in_default.ensures.put c.in_default-put_base64.ensures.put) c.put-2.result c.put-2.ensures.stopped
