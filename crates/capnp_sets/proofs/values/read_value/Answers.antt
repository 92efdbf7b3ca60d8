-- The active member decides: none is an unknown kind, one below 11 a number, any other a pointer's value.
-- The record's value is then the one by that member.
use Rattle.std.proofs.Common.{subst, sym, ◌≡◌, ◌≢◌, IfErr, IfOk, Ok}
use Rattle.capnp_device.specs.declared.error.ErrorKind.TheVariants.{OutOfMemory}
use Rattle.capnp_schema.specs.Schema.{Value as SchemaValue, seen_value}
use Rattle.capnp_sets.specs.Causes.{HasCause, SetRead}
use Rattle.capnp_sets.specs.Steps.Handles.{meta_record_in}
use Rattle.capnp_sets.specs.Values.{value_meant}
use Rattle.capnp_sets.proofs.Bases.{by_member, no_member, whatever_memory}
use Rattle.capnp_sets.proofs.values.read_value.Goals as goal

pub returns-in_default-clause-refused : goal.returns-in_default-clause-refused
returns-in_default-clause-refused c = λ _. no_member (meta_record_in 5 c.args.reader.now) (sym c.in_default.ensures)

pub returns-then-member-lt11-clause-read : goal.returns-then-member-lt11-clause-read
returns-then-member-lt11-clause-read c = subst (λ (y : SetRead SchemaValue). IfOk c.number_value.result (λ v. y ≡ Ok (seen_value v))) (sym (by_member (meta_record_in 5 c.args.reader.now) c.in-Some.member (sym c.in-Some.ensures))) c.number_value.ensures.read

pub returns-then-member-lt11-clause-refused : goal.returns-then-member-lt11-clause-refused
returns-then-member-lt11-clause-refused c =
    whatever_memory c.number_value.result (λ kind. HasCause (value_meant (meta_record_in 5 c.args.reader.now)) kind)
    (subst (λ (y : SetRead SchemaValue). IfErr c.number_value.result (λ e. HasCause y e.kind)) (sym (by_member (meta_record_in 5 c.args.reader.now) c.in-Some.member (sym c.in-Some.ensures))) c.number_value.ensures.refused)

pub returns-clause-read : goal.returns-clause-read
returns-clause-read c = subst (λ (y : SetRead SchemaValue). IfOk c.pointer_value.result (λ v. y ≡ Ok (seen_value v))) (sym (by_member (meta_record_in 5 c.args.reader.now) c.in-Some.member (sym c.in-Some.ensures))) c.pointer_value.ensures.read

pub returns-clause-refused : goal.returns-clause-refused
returns-clause-refused c = subst (λ (y : SetRead SchemaValue). IfErr c.pointer_value.result (λ e. e.kind ≢ OutOfMemory → HasCause y e.kind)) (sym (by_member (meta_record_in 5 c.args.reader.now) c.in-Some.member (sym c.in-Some.ensures))) c.pointer_value.ensures.refused
