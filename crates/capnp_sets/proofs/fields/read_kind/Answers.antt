-- The active member decides: 3 is a slot, whose record is the same struct, 4 a group's node, and none or another an unknown kind.
use Rattle.std.proofs.Common.{ap, refl, subst, sym, ◌∙◌, ◌≡◌, ◌≢◌, IfErr, IfOk, Ok, Some}
use Rattle.capnp_device.specs.declared.error.ErrorKind.TheVariants.{OutOfMemory}
use Rattle.capnp_schema.specs.Schema.{FieldKind, seen_kind}
use Rattle.capnp_sets.specs.Causes.{HasCause, SetRead}
use Rattle.capnp_sets.specs.Fields.{slot_of}
use Rattle.capnp_sets.specs.Steps.Handles.{meta_record_in}
use Rattle.capnp_sets.specs.Parts.{struct}
use Rattle.capnp_sets.proofs.AppliedReads.{made}
use Rattle.capnp_sets.proofs.Bases.{group_kind, no_kind, other_kind, slot_kind}
use Rattle.capnp_sets.proofs.PartsRead.{number_there, slot_seen}
use Rattle.capnp_sets.proofs.fields.read_kind.Goals as goal

pub returns-in_default-clause-refused : goal.returns-in_default-clause-refused
returns-in_default-clause-refused c = λ _. no_kind (meta_record_in 2 c.args.reader.now) (sym c.in_default.ensures)

pub returns-then-member-eq3-clause-read : goal.returns-then-member-eq3-clause-read
returns-then-member-eq3-clause-read c =
    subst (λ (y : SetRead FieldKind). IfOk c.read_slot.result (λ k. y ≡ Ok (seen_kind k))) (sym (slot_kind _ (sym c.in-Some.ensures ∙ ap Some c.if-member-eq3.true) ∙ ap (struct slot_of) (slot_seen c.args.reader.now (sym c.in-Some.ensures ∙ ap Some c.if-member-eq3.true)))) c.read_slot.ensures.read

pub returns-then-member-eq3-clause-refused : goal.returns-then-member-eq3-clause-refused
returns-then-member-eq3-clause-refused c =
    subst (λ (y : SetRead FieldKind). IfErr c.read_slot.result (λ e. e.kind ≢ OutOfMemory → HasCause y e.kind)) (sym (slot_kind _ (sym c.in-Some.ensures ∙ ap Some c.if-member-eq3.true) ∙ ap (struct slot_of) (slot_seen c.args.reader.now (sym c.in-Some.ensures ∙ ap Some c.if-member-eq3.true)))) c.read_slot.ensures.refused

pub returns-then-member-eq4-clause-read : goal.returns-then-member-eq4-clause-read
returns-then-member-eq4-clause-read c = group_kind _ (sym c.in-Some.ensures ∙ ap Some c.if-member-eq4.true) ∙ made refl (number_there _ _ _ c.u32_at-node.ensures)

pub returns-clause-refused : goal.returns-clause-refused
returns-clause-refused c = λ _. other_kind (meta_record_in 2 c.args.reader.now) c.in-Some.member (sym c.in-Some.ensures) c.if-member-eq3.false c.if-member-eq4.false
