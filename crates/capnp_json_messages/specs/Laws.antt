-- What holds of the rules with which texts are read.
use Rattle.std.specs.Prelude.{Bool}
use Rattle.capnp_schema.specs.Schema.{Schemas}
use Rattle.capnp_from_json.specs.Records.{Rules}
use Rattle.capnp_json_messages.specs.Walks.{AreRules}

-- For each set, strict or not, there are rules. So what is read by all of them is read by some.
abbrev pub RulesAreThere : Type 0
RulesAreThere = (set : Schemas) (strict : Bool) → (rules : Rules) × AreRules set strict rules
