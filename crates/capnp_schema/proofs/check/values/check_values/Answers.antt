use Rattle.capnp_schema.specs.Entries.{lists_seen}
use Rattle.capnp_schema.proofs.Checking.ReadDefaults.{rule6_stands}
use Rattle.capnp_schema.proofs.check.values.check_values.Goals as goal

pub returns : goal.returns
returns c = rule6_stands (lists_seen c.args.lists.now) c.in_ok-check_words.ensures c.in_ok-check_list_defaults.ensures
