-- An enumerant that is known is put by its name and another by its number; either is the text that the schema tells.
use Rattle.std.proofs.Common.{List, ℕ, subst, ◌∙◌, IfErr}
use Rattle.capnp_records.specs.Text.{said_text}
use Rattle.capnp_dynamic_readers.specs.Steps.Pieces.{IsStopped}
use Rattle.capnp_dynamic_readers.proofs.Pieces.{enumerant_named, enumerant_numbered}
use Rattle.capnp_dynamic_readers.proofs.walk.leaves.put_enum.Goals as goal

pub returns-in-Ok-Some-clause-stopped : goal.returns-in-Ok-Some-clause-stopped
returns-in-Ok-Some-clause-stopped g c =
    let named = c.as_str.ensures.value ∙ enumerant_named c.args.value c.in-Ok-Some.enumerant _ (rw c.in-Ok-Some.field-0-is at c.in-Ok-Some.ensures) c.get_proto.ensures in
    subst (λ (z : List ℕ). IfErr c.put.result (IsStopped (g.O.Out.text c.args.out.now) (said_text z))) named c.put.ensures.stopped

pub returns-in-Ok-None-clause-stopped : goal.returns-in-Ok-None-clause-stopped
returns-in-Ok-None-clause-stopped g c =
    let numbered = enumerant_numbered c.args.value c.from.result (rw c.in-Ok-None.field-0-is at c.in-Ok-None.ensures) (c.from.ensures ∙ c.get_value.ensures) in
    subst (λ (z : List ℕ). IfErr c.put_unsigned.result (IsStopped (g.O.Out.text c.args.out.now) (said_text z))) numbered c.put_unsigned.ensures.stopped
