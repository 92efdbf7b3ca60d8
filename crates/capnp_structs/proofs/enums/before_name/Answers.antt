use Rattle.capnp_structs.proofs.EnumsPut.{later_name}
use Rattle.capnp_structs.proofs.enums.before_name.Goals as goal

pub returns : goal.returns
returns c = later_name c.args.number c.if-number-eq0.false
