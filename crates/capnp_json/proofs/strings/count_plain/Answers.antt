use Rattle.std.proofs.Common.{arith, sym, ◌∙◌}
use Rattle.capnp_json.proofs.Written.{plain_next}
use Rattle.capnp_json.proofs.strings.count_plain.Goals as goal

pub loop-index-preserved : goal.loop-index-preserved
loop-index-preserved c = record {
  plain = plain_next c.args.bytes.now c.loop-index.index (omega arith) (sym c.if-not-is_plain.false ∙ c.is_plain.ensures) c.loop-index.invariant.plain;
  within = omega arith;
}
