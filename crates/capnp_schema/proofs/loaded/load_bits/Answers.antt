-- The bits are a number below 2 to their count.
use Rattle.std.proofs.Common.{◌<◌, ◌^◌, subst, sym}
use Rattle.capnp_wire.specs.Standing.{struct_of}
use Rattle.capnp_schema.proofs.LoadedBits.{load_bounded}
use Rattle.capnp_schema.proofs.loaded.load_bits.Goals as goal

pub returns-in-32-clause-fits : goal.returns-in-32-clause-fits
returns-in-32-clause-fits c = subst (λ w. c.load_half.result < 2 ^ w) (sym c.in-32.is) (load_bounded (struct_of c.args.reader.now).bytes c.args.start 32 c.load_half.result c.load_half.ensures)
