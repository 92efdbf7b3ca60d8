-- One more difference, and none is left.
use Rattle.std.proofs.Common.{[], ap, arith, refl, string_bytes}
use Rattle.capnp_schema.specs.Entries.{lists_seen}
use Rattle.capnp_structs.proofs.Appended.{left_all}
use Rattle.capnp_structs.proofs.Lines.{none_left}
use Rattle.capnp_versions.specs.Lines.{differences_text}
use Rattle.capnp_versions.proofs.LinesPut.{next_line}
use Rattle.capnp_versions.proofs.lines.get_lines.Goals as goal

pub loop-difference-preserved : goal.loop-difference-preserved
loop-difference-preserved c =
    next_line (lists_seen c.args.schemas.now) c.args.differences.now c.loop-difference.difference-index _ _ [] (differences_text (lists_seen c.args.schemas.now) c.args.differences.now) (string_bytes c.loop-difference.text)
    (string_bytes c.put_difference.new.text) c.loop-difference-test.true refl c.loop-difference.invariant c.in_ok-put_difference.ensures.put

pub returns-clause-lines : goal.returns-clause-lines
returns-clause-lines c =
    left_all [] (differences_text (lists_seen c.args.schemas.now) c.args.differences.now) _ (string_bytes c.loop-difference.text)
    (ap (differences_text (lists_seen c.args.schemas.now)) (none_left c.args.differences.now c.loop-difference.difference-index (omega (arith, c.loop-difference-test.false)))) c.loop-difference.invariant
