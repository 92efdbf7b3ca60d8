use Rattle.capnp_wire.proofs.StandFirst.{numbers_stand_first, pointers_stand_first}
use Rattle.capnp_wire.proofs.laws.elements_stand_first.Goals as goal

pub returns : goal.returns
returns c = record {
  numbers = numbers_stand_first;
  pointers = pointers_stand_first;
}
