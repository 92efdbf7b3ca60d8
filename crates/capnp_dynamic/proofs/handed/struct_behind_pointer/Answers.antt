-- The struct that the pointer leads to stands at its place.
use Rattle.capnp_dynamic.proofs.Standing.{here_stands}
use Rattle.capnp_dynamic.proofs.handed.struct_behind_pointer.Goals as goal

pub returns-clause-ready : goal.returns-clause-ready
returns-clause-ready c = here_stands c.args.schema c.args.pointer.arena.now c.args.pointer.at c.struct_here-place.result c.requires.forest c.struct_here-place.ensures.place c.requires.fits
