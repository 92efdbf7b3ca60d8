-- The list of pointers is what the field holds, so what its lists of types give or refuse is the field's.
-- A fault there is the cause.
use Rattle.std.proofs.Common.{subst, ◌≡◌, ◌≢◌, IfErr, IfOk, Ok, map}
use Rattle.std.proofs.lemmas.Result.{err_from_is_err_and}
use Rattle.capnp_device.specs.declared.error.ErrorKind.TheVariants.{OutOfMemory}
use Rattle.capnp_schema.specs.Meta.{meta_structs}
use Rattle.capnp_schema.specs.Types.{seen_type}
use Rattle.capnp_records.specs.Record.{Value}
use Rattle.capnp_sets.specs.Causes.{HasCause}
use Rattle.capnp_sets.specs.Steps.Handles.{meta_record_in, values_in}
use Rattle.capnp_sets.specs.Parts.{meta_read_at}
use Rattle.capnp_sets.specs.Types.{type_lists, types}
use Rattle.capnp_sets.proofs.Faults.{fault_list}
use Rattle.capnp_sets.proofs.PartsRead.{list_under, there}
use Rattle.capnp_sets.proofs.types.type_lists_at.Goals as goal

pub returns-in_err-elements-clause-refused : goal.returns-in_err-elements-clause-refused
returns-in_err-elements-clause-refused c =
    let p = err_from_is_err_and c.from_residual.result c.from_residual.ensures.1 in rw (p.1, p.2)
    (λ _. fault_list (meta_structs 7) (types (values_in c.args.context.now.brands)) (meta_read_at c.args.brand c.args.index (meta_record_in c.args.brand c.args.reader.now)) _ (there _ _ _ c.in_err-elements.ensures))

pub returns-clause-read : goal.returns-clause-read
returns-clause-read c =
    subst (λ (v : Value). IfOk c.type_lists.result (λ x. type_lists (values_in c.args.context.now.brands) v ≡ Ok (map (λ ts. map seen_type ts.items) x.items)))
    (list_under _ (meta_structs 7) c.in_ok-elements.elements _ c.requires.field.0.1 (there _ _ _ c.in_ok-elements.ensures)) c.type_lists.ensures.read

pub returns-clause-refused : goal.returns-clause-refused
returns-clause-refused c =
    subst (λ (v : Value). IfErr c.type_lists.result (λ e. e.kind ≢ OutOfMemory → HasCause (type_lists (values_in c.args.context.now.brands) v) e.kind))
    (list_under _ (meta_structs 7) c.in_ok-elements.elements _ c.requires.field.0.1 (there _ _ _ c.in_ok-elements.ensures)) c.type_lists.ensures.refused
