use Rattle.std.proofs.Common.{◌∙◌}
use Rattle.capnp_json_text.proofs.Utf8.{cut_utf8, whole_utf8}
use Rattle.capnp_json_text.proofs.faults.utf8_fault.Goals as goal

pub returns-in-Ok : goal.returns-in-Ok
returns-in-Ok c = whole_utf8 c.args.bytes.now c.in-Ok.ensures.cases.1

pub returns-in-Err : goal.returns-in-Err
returns-in-Err c = cut_utf8 c.args.bytes.now c.valid_up_to.result c.in-Err.ensures.cases.0 (c.valid_up_to.ensures ∙ c.in-Err.ensures.valid_len)
