-- The builder's struct stands at its place.
use Rattle.capnp_run.proofs.run.run.Goals as goal

pub run_on-requires : goal.run_on-requires
run_on-requires c = record {
  ready = record {
    stands = c.requires.stands;
    standing = record { planted = c.requires.ready.planted; room = c.requires.ready.room };
  };
}
