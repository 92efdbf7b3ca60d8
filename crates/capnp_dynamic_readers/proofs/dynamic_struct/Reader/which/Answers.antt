use Rattle.capnp_wire.specs.Standing.{struct_levels}
use Rattle.capnp_records.specs.Record.{Left}
use Rattle.capnp_dynamic_readers.specs.Handles.{reader_of}
use Rattle.capnp_dynamic_readers.proofs.dynamic_struct.Reader.which.Goals as goal

pub returns : goal.returns
returns c = c.active_member.ensures (Left (struct_levels (reader_of c.args.self.now)))
