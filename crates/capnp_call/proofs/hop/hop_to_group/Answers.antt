-- The place stays.
use Rattle.capnp_arena.specs.Segment.{segment}
use Rattle.capnp_call.proofs.Hopping.{group_leads}
use Rattle.capnp_call.proofs.hop.hop_to_group.Goals as goal

pub returns : goal.returns
returns c = group_leads c.args.place c.args.field c.args.group (segment c.args.arena.now) c.requires.planted c.requires.leads c.requires.room c.enter_group.ensures
