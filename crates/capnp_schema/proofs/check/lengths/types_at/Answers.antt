use Rattle.std.proofs.Common.{◌≡◌, ap, sym, ◌∙◌, length, arith}
use Rattle.capnp_schema.specs.Steps.Checking.Lengths.{types_count}
use Rattle.capnp_schema.proofs.Checking.Lengths.{types_at}
use Rattle.capnp_schema.proofs.check.lengths.types_at.Goals as goal

pub returns-in-Some : goal.returns-in-Some
returns-in-Some c = let counted : c.len.result ≡ length c.in-Some.child.now.items = omega arith in counted ∙ ap types_count c.in-Some.ensures ∙ sym (types_at c.args.types.now c.args.i)
