-- How the printer stopped tells the error: a refusal is the text's own, and too long means a text past the limit or refused.
use Rattle.std.proofs.Common.{[], None, Some, cond}
use Rattle.capnp_dynamic_readers.specs.Pieces.{Within}
use Rattle.capnp_dynamic_readers.proofs.Roots.{stopped_longer, stopped_refused}
use Rattle.capnp_dynamic_readers.proofs.walk.append_within.Goals as goal

pub returns-in-Err-clause-refused : goal.returns-in-Err-clause-refused
returns-in-Err-clause-refused g c =
    stopped_refused (Within c.args.limit []) ((g.S.Style.texts c.args.style).root (cond c.args.indented (Some 0) None) c.args.value) c.in-Err.stop c.from.result.kind c.from.ensures c.in-Err.ensures.stopped

pub returns-in-Err-clause-too_long : goal.returns-in-Err-clause-too_long
returns-in-Err-clause-too_long g c =
    stopped_longer c.args.limit ((g.S.Style.texts c.args.style).root (cond c.args.indented (Some 0) None) c.args.value) c.in-Err.stop c.from.result.kind c.from.ensures c.in-Err.ensures.stopped
