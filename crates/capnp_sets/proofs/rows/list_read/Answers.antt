-- A null pointer with a level left is the empty list.
-- Any other gives the list that the field holds, and what its structs give is the field's.
use Rattle.std.proofs.Common.{ap, subst, sym, ◌∙◌, ◌≡◌, ◌≢◌, IfErr, IfOk, Ok, map}
use Rattle.std.proofs.lemmas.Result.{err_from_is_err_and}
use Rattle.capnp_device.specs.declared.error.ErrorKind.TheVariants.{OutOfMemory}
use Rattle.capnp_schema.specs.Meta.{meta_struct}
use Rattle.capnp_records.specs.Record.{Value}
use Rattle.capnp_sets.specs.Causes.{HasCause}
use Rattle.capnp_sets.specs.Steps.Handles.{meta_record_in, values_in}
use Rattle.capnp_sets.specs.Parts.{meta_read_at, struct, structs}
use Rattle.capnp_sets.proofs.Faults.{fault_list}
use Rattle.capnp_sets.proofs.PartsRead.{list_under, there}
use Rattle.capnp_sets.proofs.RowsRead.{none_left}
use Rattle.capnp_sets.proofs.rows.list_read.Goals as goal

pub returns-in_err-elements-clause-refused : goal.returns-in_err-elements-clause-refused
returns-in_err-elements-clause-refused g c =
    let p = err_from_is_err_and c.from_residual.result c.from_residual.ensures.1 in rw (p.1, p.2)
    (λ _. fault_list (meta_struct g.T.FromRecord.brand) (struct (g.T.FromRecord.of_record (values_in c.args.context.now.brands))) (meta_read_at c.args.brand c.args.index (meta_record_in c.args.brand c.args.reader.now)) _ (there _ _ _ c.in_err-elements.ensures))

pub returns-clause-read : goal.returns-clause-read
returns-clause-read g c =
    subst (λ (v : Value). IfOk c.all_read.result (λ x. structs g.T.FromRecord.brand (g.T.FromRecord.of_record (values_in c.args.context.now.brands)) v ≡ Ok (map g.T.FromRecord.seen x.items)))
    (list_under _ (meta_struct g.T.FromRecord.brand) c.in_ok-elements.elements _ c.requires.field.0.1 (there _ _ _ c.in_ok-elements.ensures)) c.all_read.ensures.read

pub returns-clause-refused : goal.returns-clause-refused
returns-clause-refused g c =
    subst (λ (v : Value). IfErr c.all_read.result (λ e. e.kind ≢ OutOfMemory → HasCause (structs g.T.FromRecord.brand (g.T.FromRecord.of_record (values_in c.args.context.now.brands)) v) e.kind))
    (list_under _ (meta_struct g.T.FromRecord.brand) c.in_ok-elements.elements _ c.requires.field.0.1 (there _ _ _ c.in_ok-elements.ensures)) c.all_read.ensures.refused

pub returns-then-is_null_list_at-clause-read : goal.returns-then-is_null_list_at-clause-read
returns-then-is_null_list_at-clause-read g c =
    ap (structs g.T.FromRecord.brand (g.T.FromRecord.of_record (values_in c.args.context.now.brands))) (sym (there _ _ _ (c.is_null_list_at.ensures c.if-is_null_list_at.true)))
    ∙ (none_left _ ∙ ap (λ xs. Ok (map g.T.FromRecord.seen xs)) (sym c.new.ensures.items))
