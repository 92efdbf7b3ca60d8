-- What is made so far stands for the elements before the index, and the next one extends it.
-- One that can't be read or made is a cause in the list.
use Rattle.std.proofs.Common.{arith, ap, map, refl}
use Rattle.std.proofs.lemmas.Result.{err_from_is_err_and}
use Rattle.capnp_schema.specs.Meta.{meta_struct}
use Rattle.capnp_records.specs.Record as value
use Rattle.capnp_sets.specs.Steps.Handles.{meta_record_in, values_in}
use Rattle.capnp_sets.specs.Parts.{struct}
use Rattle.capnp_sets.proofs.Elements.{map_more, struct_refused, struct_there}
use Rattle.capnp_sets.proofs.ListsRead.{list_all, list_made_refused, list_more, list_none, list_part_refused}
use Rattle.capnp_sets.proofs.rows.all_read.Goals as goal

pub loop-index-init : goal.loop-index-init
loop-index-init g c = list_none (meta_struct g.T.FromRecord.brand) (struct (g.T.FromRecord.of_record (values_in c.args.context.now.brands))) c.args.elements.now _ (ap (map g.T.FromRecord.seen) c.in_ok-out.ensures.items)

pub returns-in_err-element-clause-refused : goal.returns-in_err-element-clause-refused
returns-in_err-element-clause-refused g c =
    let p = err_from_is_err_and c.from_residual-in_err-element.result c.from_residual-in_err-element.ensures.1 in rw (p.1, p.2)
    (λ _. list_part_refused (meta_struct g.T.FromRecord.brand) (struct (g.T.FromRecord.of_record (values_in c.args.context.now.brands))) c.args.elements.now _ _ _ (omega arith) c.loop-index.invariant
    (struct_refused g.T.FromRecord.brand c.args.elements.now _ _ c.in_err-element.ensures.read))

pub returns-in_err-made-clause-refused : goal.returns-in_err-made-clause-refused
returns-in_err-made-clause-refused g c =
    let p = err_from_is_err_and c.from_residual-in_err-made.result c.from_residual-in_err-made.ensures.1 in rw (p.1, p.2)
    (λ m. list_made_refused (meta_struct g.T.FromRecord.brand) (struct (g.T.FromRecord.of_record (values_in c.args.context.now.brands))) c.args.elements.now _ _ _ (value.Struct (meta_record_in g.T.FromRecord.brand c.in_ok-element.element)) (omega arith) c.loop-index.invariant
    (struct_there g.T.FromRecord.brand c.args.elements.now _ c.in_ok-element.element c.in_ok-element.ensures.read c.in_ok-element.ensures.levels) refl (c.in_err-made.ensures.refused m))

pub loop-index-preserved : goal.loop-index-preserved
loop-index-preserved g c =
    list_more (meta_struct g.T.FromRecord.brand) (struct (g.T.FromRecord.of_record (values_in c.args.context.now.brands))) c.args.elements.now _ _ _ _ (value.Struct (meta_record_in g.T.FromRecord.brand c.in_ok-element.element)) (omega arith) c.loop-index.invariant
    (struct_there g.T.FromRecord.brand c.args.elements.now _ c.in_ok-element.element c.in_ok-element.ensures.read c.in_ok-element.ensures.levels) refl c.in_ok-made.ensures.read (map_more g.T.FromRecord.seen _ _ _ c.in_ok-push.ensures.items)

pub returns-clause-read : goal.returns-clause-read
returns-clause-read g c = list_all (meta_struct g.T.FromRecord.brand) (struct (g.T.FromRecord.of_record (values_in c.args.context.now.brands))) c.args.elements.now _ _ (omega arith) c.loop-index.invariant
