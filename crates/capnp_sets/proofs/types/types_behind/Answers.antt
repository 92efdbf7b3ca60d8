-- A null pointer with a level left is the empty list of types.
-- Otherwise the list that is met, or its fault, is what is read at the pointer.
use Rattle.std.proofs.Common.{ap, refl, subst, sym, ◌∙◌, ◌≡◌, ◌≢◌, IfErr, IfOk, Ok, map}
use Rattle.std.proofs.lemmas.Result.{err_from_is_err_and}
use Rattle.capnp_device.specs.declared.error.ErrorKind.TheVariants.{OutOfMemory}
use Rattle.capnp_wire.specs.Standing.{levels_of, tree_of}
use Rattle.capnp_wire.specs.declared.size.ElementSize.TheVariants as size
use Rattle.capnp_schema.specs.Meta.{meta, meta_struct}
use Rattle.capnp_schema.specs.Schema.{VoidValue}
use Rattle.capnp_schema.specs.Types.{seen_type}
use Rattle.capnp_records.specs.Record.{Value}
use Rattle.capnp_sets.specs.Causes.{HasCause}
use Rattle.capnp_sets.specs.Steps.Handles.{values_in}
use Rattle.capnp_sets.specs.Types.{types, type_meant}
use Rattle.capnp_sets.proofs.Faults.{fault_list}
use Rattle.capnp_sets.specs.Parts.{struct}
use Rattle.capnp_known.specs.Facts.PointersMet.{list_met, list_unmet, no_default, null_list_read}
use Rattle.capnp_sets.proofs.RowsRead.{none_left}
use Rattle.capnp_sets.proofs.types.types_behind.Goals as goal

pub returns-then-is_no_list-clause-read : goal.returns-then-is_no_list-clause-read
returns-then-is_no_list-clause-read c =
    ap (types (values_in c.args.context.now.brands)) (null_list_read meta VoidValue (meta_struct 7) (no_default meta (meta_struct 7)) c.args.pointer.now (c.is_no_list.ensures.null c.if-is_no_list.true) (c.is_no_list.ensures.level c.if-is_no_list.true))
    ∙ (none_left _ ∙ ap (λ xs. Ok (map seen_type xs)) (sym c.new.ensures.items))

pub returns-in_err-elements-clause-refused : goal.returns-in_err-elements-clause-refused
returns-in_err-elements-clause-refused c =
    let p = err_from_is_err_and c.from_residual.result c.from_residual.ensures.1 in rw (p.1, p.2)
    (λ _. fault_list (meta_struct 7) (struct (type_meant (values_in c.args.context.now.brands))) _ _ (list_unmet meta (meta_struct 7) size.InlineComposite refl VoidValue (no_default meta (meta_struct 7)) (tree_of c.args.pointer.now) (levels_of c.args.pointer.now) _ c.in_err-elements.ensures.read))

pub returns-clause-read : goal.returns-clause-read
returns-clause-read c =
    subst (λ (v : Value). IfOk c.all_read.result (λ x. types (values_in c.args.context.now.brands) v ≡ Ok (map seen_type x.items)))
    (list_met meta (meta_struct 7) size.InlineComposite refl VoidValue (no_default meta (meta_struct 7)) (tree_of c.args.pointer.now) (levels_of c.args.pointer.now) (Ok c.in_ok-elements.elements) c.in_ok-elements.ensures.read c.in_ok-elements.ensures.levels) c.all_read.ensures.read

pub returns-clause-refused : goal.returns-clause-refused
returns-clause-refused c =
    subst (λ (v : Value). IfErr c.all_read.result (λ e. e.kind ≢ OutOfMemory → HasCause (types (values_in c.args.context.now.brands) v) e.kind))
    (list_met meta (meta_struct 7) size.InlineComposite refl VoidValue (no_default meta (meta_struct 7)) (tree_of c.args.pointer.now) (levels_of c.args.pointer.now) (Ok c.in_ok-elements.elements) c.in_ok-elements.ensures.read c.in_ok-elements.ensures.levels) c.all_read.ensures.refused
