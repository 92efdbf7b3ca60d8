use Rattle.capnp_check.proofs.PlacesFound.{ElementsSaid}
use Rattle.capnp_check.proofs.parts_below.find_element.Given as goal

abbrev pub invariant-loop-index : goal.invariant-loop-index
invariant-loop-index l = ElementsSaid l.fn.left l.fn.list l.index
