-- A field that is named is read, or the test of its type refuses it.
use Rattle.std.proofs.Common.{rules}
use Rattle.std.proofs.lemmas.Result.{err_from_is_err_and}
use Rattle.capnp_schema.specs.Types.{seen_type}
use Rattle.capnp_records.specs.Record as value
use Rattle.capnp_dynamic_readers.specs.Seen.{record_seen}
use Rattle.capnp_call.specs.Seen.{step_seen}
use Rattle.capnp_patch.proofs.Steps.{field_read_there, field_refused}
use Rattle.capnp_patch.proofs.reach.read_field.Goals as goal

pub returns-in_err-test_type-clause-read : goal.returns-in_err-test_type-clause-read
returns-in_err-test_type-clause-read c =
    let p = err_from_is_err_and c.from_residual-in_err-test_type.result c.from_residual-in_err-test_type.ensures.1 in rw (p.1, p.2)
    (field_refused c.args.reader (step_seen c.args.step) c.args.is_last c.get_schema.result c.in_ok-field.field c.is_active.result
    (record { same = c.get_schema.ensures; named_by = c.in_ok-field.ensures.found value.Struct (record_seen c.args.reader); field = c.in_ok-field.ensures.named.field; tested = c.is_active.ensures; active = search rules })
    (seen_type c.get_type.result) c.get_type.ensures.is _ (c.in_err-test_type.ensures _))

pub returns-clause-read : goal.returns-clause-read
returns-clause-read c =
    field_read_there c.args.reader (step_seen c.args.step) c.args.is_last c.get_schema.result c.in_ok-field.field c.is_active.result
    (record { same = c.get_schema.ensures; named_by = c.in_ok-field.ensures.found value.Struct (record_seen c.args.reader); field = c.in_ok-field.ensures.named.field; tested = c.is_active.ensures; active = search rules })
    (seen_type c.get_type.result) c.get_type.ensures.is (c.in_ok-test_type.ensures _)
    c.get.result c.get.ensures.typed c.get.ensures.value
