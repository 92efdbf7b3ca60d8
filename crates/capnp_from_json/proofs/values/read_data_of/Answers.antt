use Rattle.std.proofs.Common.{sym, subst}
use Rattle.capnp_schema.specs.Types.{DataType}
use Rattle.capnp_from_json.specs.LeafReads.{IsLeafOf, under}
use Rattle.capnp_from_json.specs.Looks.{look_seen}
use Rattle.capnp_from_json.specs.Records.{value_of_json}
use Rattle.capnp_from_json.proofs.values.read_data_of.Goals as goal

-- An array of numbers is data, byte for byte.
pub returns-in-Array-clause-read : goal.returns-in-Array-clause-read
returns-in-Array-clause-read c = λ rules levels part is_float.
    subst (λ l. IsLeafOf (value_of_json rules (look_seen c.args.whole c.args.place l) levels (under DataType part is_float c.args.form)) c.read_array.result) (sym c.in-Array.is)
    (c.read_array.ensures.read rules levels)
