-- Under data the look is read as an array, whose leaf is right for any levels and part; text
-- and other types are answered by their own readers.
use Rattle.std.proofs.Common.{sym, subst}
use Rattle.capnp_schema.specs.Types.{seen_variant}
use Rattle.capnp_from_json.specs.LeafReads.{IsLeafOf, under}
use Rattle.capnp_from_json.specs.Looks.{look_seen}
use Rattle.capnp_from_json.specs.Records.{value_of_json}
use Rattle.capnp_from_json.proofs.values.read_looked.Goals as goal

pub returns-in-Data-clause-read : goal.returns-in-Data-clause-read
returns-in-Data-clause-read c = λ rules e floats levels part.
    subst (λ v. IsLeafOf (value_of_json rules (look_seen c.args.whole c.args.place c.args.look) levels (under (seen_variant v) part c.args.is_float c.args.form)) c.read_data_of.result) (sym c.in-Data.is)
    (c.read_data_of.ensures.read rules levels part c.args.is_float)

pub returns-in_default : goal.returns-in_default
returns-in_default c = record {
  read = λ rules e floats levels part. c.read_other.ensures.read rules e floats c.args.whole levels part c.args.form;
  typed = c.read_other.ensures.typed;
}
