use Rattle.std.proofs.lemmas.Str.{IsAscii-take}
use Rattle.capnp_floats.proofs.text.put_scientific.Goals as goal

pub put_bytes-requires : goal.put_bytes-requires
put_bytes-requires c = IsAscii-take c.args.digits.now 1 c.requires.ascii
