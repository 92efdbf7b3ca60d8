-- The quote and the contents lead on to the last quote, so its outcome is that of the whole.
-- A piece that stops before it stops the whole.
use Rattle.std.proofs.Common.{[], ◌++◌, ◌∷◌, flat_map}
use Rattle.capnp_json_text.specs.Writing.{byte_written, string_written}
use Rattle.capnp_json.specs.Pieces.{said}
use Rattle.capnp_json.proofs.Puts.{last_put, last_stopped, then_two, two_first, two_later}
use Rattle.capnp_json.proofs.strings.put_string.Goals as goal

pub returns-in-Err-clause-stopped : goal.returns-in-Err-clause-stopped
returns-in-Err-clause-stopped c = two_first c.args.out.now (34 ∷ []) (flat_map byte_written c.args.text.now ++ 34 ∷ []) c.in-Err.why c.in-Err.ensures.stopped

pub returns-in-Err-put_contents-clause-stopped : goal.returns-in-Err-put_contents-clause-stopped
returns-in-Err-put_contents-clause-stopped c =
    two_later c.args.out.now c.put.new.self (34 ∷ []) (flat_map byte_written c.args.text.now ++ 34 ∷ []) c.in-Err-put_contents.why c.in_default.ensures.put
    (two_first c.put.new.self (flat_map byte_written c.args.text.now) (34 ∷ []) c.in-Err-put_contents.why c.in-Err-put_contents.ensures.stopped)

pub returns-clause-put : goal.returns-clause-put
returns-clause-put c =
    last_put c.args.out.now c.put_contents.new.out c.put-2.new.self (said (string_written c.args.text.now)) (said (34 ∷ []))
    (then_two c.args.out.now c.put.new.self c.put_contents.new.out (34 ∷ []) (flat_map byte_written c.args.text.now) (34 ∷ []) c.in_default.ensures.put c.in_default-put_contents.ensures.put) c.put-2.result c.put-2.ensures.put

pub returns-clause-stopped : goal.returns-clause-stopped
returns-clause-stopped c =
    last_stopped c.args.out.now c.put_contents.new.out c.put-2.new.self (said (string_written c.args.text.now)) (said (34 ∷ []))
    (then_two c.args.out.now c.put.new.self c.put_contents.new.out (34 ∷ []) (flat_map byte_written c.args.text.now) (34 ∷ []) c.in_default.ensures.put c.in_default-put_contents.ensures.put) c.put-2.result c.put-2.ensures.stopped
