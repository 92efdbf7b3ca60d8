use Rattle.capnp_schema.proofs.Defaults.{handle_fits}
use Rattle.capnp_schema.proofs.schema.fields.Field.get_default.Goals as goal

pub returns-in-Slot-clause-fits : goal.returns-in-Slot-clause-fits
returns-in-Slot-clause-fits c = handle_fits c.args.self.now c.accepted_lists-lists.result.now c.accepted_lists-lists.ensures.is c.accepted_lists-lists.ensures.accepted

pub returns-in-Group-clause-fits : goal.returns-in-Group-clause-fits
returns-in-Group-clause-fits c = handle_fits c.args.self.now c.accepted_lists-lists.result.now c.accepted_lists-lists.ensures.is c.accepted_lists-lists.ensures.accepted
