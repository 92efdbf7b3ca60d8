-- Whether the bytes are UTF-8 decides: a text is its string, and other bytes are stopped as no text.
use Rattle.capnp_json_text.specs.Writing.{string_written}
use Rattle.capnp_json.specs.Leaves.{text_json}
use Rattle.capnp_json.specs.Pieces.{said}
use Rattle.capnp_json.proofs.Puts.{last_put, last_stopped}
use Rattle.capnp_json.proofs.Written.{no_text, text_leads}
use Rattle.capnp_json.proofs.strings.put_text.Goals as goal

pub returns-in-Ok-clause-put : goal.returns-in-Ok-clause-put
returns-in-Ok-clause-put c =
    last_put c.args.out.now c.args.out.now c.put_string.new.out (text_json c.args.text.now) (said (string_written c.args.text.now)) (text_leads c.args.out.now c.args.text.now c.in-Ok.ensures.cases.1) c.put_string.result c.put_string.ensures.put

pub returns-in-Ok-clause-stopped : goal.returns-in-Ok-clause-stopped
returns-in-Ok-clause-stopped c =
    last_stopped c.args.out.now c.args.out.now c.put_string.new.out (text_json c.args.text.now) (said (string_written c.args.text.now)) (text_leads c.args.out.now c.args.text.now c.in-Ok.ensures.cases.1) c.put_string.result c.put_string.ensures.stopped

pub returns-in-Err-clause-stopped : goal.returns-in-Err-clause-stopped
returns-in-Err-clause-stopped c = no_text c.args.text.now c.in-Err.ensures.cases.0
