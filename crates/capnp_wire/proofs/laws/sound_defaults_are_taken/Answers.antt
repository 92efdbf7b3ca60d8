use Rattle.capnp_wire.specs.Facts.FilledDefaults.{list_taken, struct_taken, structs_taken}
use Rattle.capnp_wire.proofs.laws.sound_defaults_are_taken.Goals as goal

pub returns : goal.returns
returns c = record {
  structs = struct_taken;
  lists = list_taken;
  struct_lists = structs_taken;
}
