-- The laws of projection and upgrade say this of any compatible pair of an accepted set with ranges.
-- A checked pair is known to be one.
use Rattle.capnp_schema.specs.StructHandles.{number_of, set_of}
use Rattle.capnp_compatible.specs.Checked.{newer_of, older_of}
use Rattle.capnp_compatible.proofs.check.Compatible.projects.Goals as goal

pub returns : goal.returns
returns c = record {
  as_it_was = λ h l s. c.projection_law.ensures (set_of (older_of c.args.self.now)) c.follows.ensures.older.accepted (number_of (older_of c.args.self.now)) (number_of (newer_of c.args.self.now)) h l s;
  where_read = λ l s formed read. c.upgrade_law.ensures (set_of (older_of c.args.self.now)) c.follows.ensures.older.accepted
      c.has_ranges.ensures
      (number_of (older_of c.args.self.now)) (number_of (newer_of c.args.self.now)) c.follows.ensures.follows l s formed read;
}
