use Rattle.std.proofs.Common.{subst}
use Rattle.capnp_schema.specs.Types.{seen_variant}
use Rattle.capnp_from_json.specs.LeafReads.{IsLeafOf}
use Rattle.capnp_from_json.proofs.values.read_other.Goals as goal

pub returns : goal.returns
returns c = record {
  read = λ rules e floats whole levels part form. subst (λ r. IsLeafOf r c.answer.result) (c.read_plain.ensures.read rules e floats whole levels part form) c.answer.ensures.read;
  typed = c.answer.ensures.same (seen_variant c.args.of) c.read_plain.ensures.typed;
}
