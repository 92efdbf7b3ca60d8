use Rattle.std.proofs.Common.{arith}
use Rattle.capnp_check.proofs.PartsVisited.{element_next, elements_done}
use Rattle.capnp_check.proofs.visits.find_element_at.Goals as goal

pub returns-then-index-from : goal.returns-then-index-from
returns-then-index-from c = elements_done c.args.left c.args.list c.args.index (omega (arith, c.if-index-from.true, c.from.ensures, c.len.ensures))

pub returns : goal.returns
returns c = element_next c.args.left c.args.list c.args.index (omega (arith, c.if-index-from.false, c.from.ensures, c.len.ensures)) c.open_element.result c.open_element.ensures
