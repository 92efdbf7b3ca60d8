-- The lists made so far stand for the elements before the index: the list behind the next pointer extends them,
-- or its refusal is a cause in the whole.
use Rattle.std.proofs.Common.{arith, ap, map}
use Rattle.std.proofs.lemmas.Result.{err_from_is_err_and}
use Rattle.capnp_schema.specs.Meta.{meta_structs, meta, meta_struct}
use Rattle.capnp_schema.specs.Schema.{VoidValue}
use Rattle.capnp_schema.specs.Types.{seen_type}
use Rattle.capnp_dynamic_readers.specs.Reads.{pointer_read}
use Rattle.capnp_sets.specs.Steps.Handles.{values_in}
use Rattle.capnp_sets.specs.Parts.{struct}
use Rattle.capnp_sets.specs.Types.{type_meant, types}
use Rattle.capnp_sets.proofs.Elements.{map_more, pointer_seen}
use Rattle.capnp_sets.proofs.Faults.{unless_listed}
use Rattle.capnp_sets.proofs.ListsRead.{list_all, list_made_refused, list_more, list_none}
use Rattle.capnp_sets.proofs.types.type_lists.Goals as goal

pub loop-index-init : goal.loop-index-init
loop-index-init c = list_none (meta_structs 7) (types (values_in c.args.context.now.brands)) c.args.elements.now _ (ap (map (λ ts. map seen_type ts.items)) c.in_ok-out.ensures.items)

pub returns-in_err-made-clause-refused : goal.returns-in_err-made-clause-refused
returns-in_err-made-clause-refused c =
    let p = err_from_is_err_and c.from_residual-in_err-made.result c.from_residual-in_err-made.ensures.1 in rw (p.1, p.2)
    (λ m. list_made_refused (meta_structs 7) (types (values_in c.args.context.now.brands)) c.args.elements.now _ _ _ (pointer_read meta VoidValue (meta_structs 7) c.get_pointer_element-pointer.result) (omega arith) c.loop-index.invariant
    (pointer_seen 7 c.args.elements.now _ c.get_pointer_element-pointer.result c.get_pointer_element-pointer.ensures.tree c.get_pointer_element-pointer.ensures.levels) (unless_listed (meta_struct 7) (struct (type_meant (values_in c.args.context.now.brands))) (pointer_read meta VoidValue (meta_structs 7) c.get_pointer_element-pointer.result)) (c.in_err-made.ensures.refused m))

pub loop-index-preserved : goal.loop-index-preserved
loop-index-preserved c =
    list_more (meta_structs 7) (types (values_in c.args.context.now.brands)) c.args.elements.now _ _ _ _ (pointer_read meta VoidValue (meta_structs 7) c.get_pointer_element-pointer.result) (omega arith) c.loop-index.invariant
    (pointer_seen 7 c.args.elements.now _ c.get_pointer_element-pointer.result c.get_pointer_element-pointer.ensures.tree c.get_pointer_element-pointer.ensures.levels) (unless_listed (meta_struct 7) (struct (type_meant (values_in c.args.context.now.brands))) (pointer_read meta VoidValue (meta_structs 7) c.get_pointer_element-pointer.result)) c.in_ok-made.ensures.read (map_more (λ ts. map seen_type ts.items) _ _ _ c.in_ok-push.ensures.items)

pub returns-clause-read : goal.returns-clause-read
returns-clause-read c = list_all (meta_structs 7) (types (values_in c.args.context.now.brands)) c.args.elements.now _ _ (omega arith) c.loop-index.invariant
