-- The loop keeps that no element before the index is refused: one that is ends the search, and at the end none is.
use Rattle.std.proofs.Common.{arith}
use Rattle.capnp_check.proofs.PlacesFound.{element_found, elements_all, elements_none, elements_past}
use Rattle.capnp_check.proofs.parts_below.find_element.Goals as goal

pub loop-index-init : goal.loop-index-init
loop-index-init c = elements_none c.args.left c.args.list

pub loop-index-preserved : goal.loop-index-preserved
loop-index-preserved c = elements_past c.args.left c.args.list c.loop-index.index (omega (arith, c.loop-index-test.true, c.len-index-end.ensures)) c.loop-index.invariant c.in_default.ensures

pub returns : goal.returns
returns c = elements_all c.args.left c.args.list c.loop-index.index (omega (arith, c.loop-index-test.false, c.len-index-end.ensures)) c.loop-index.invariant

pub returns-in-Some : goal.returns-in-Some
returns-in-Some c = element_found c.args.left c.args.list c.loop-index.index (omega (arith, c.loop-index-test.true, c.len-index-end.ensures)) c.loop-index.invariant c.in-Some.value c.in-Some.ensures
