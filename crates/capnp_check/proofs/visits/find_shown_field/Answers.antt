-- The loop keeps that the fields from the first up to the index are hidden: the first that is shown is next, or none is left.
use Rattle.std.proofs.Common.{arith, sym, ◌∙◌}
use Rattle.capnp_schema.specs.FieldLists.{list_schema}
use Rattle.capnp_check.proofs.PartsVisited.{loop_done, loop_found, loop_hidden}
use Rattle.capnp_check.proofs.visits.find_shown_field.Goals as goal

pub returns-then-is_field_shown : goal.returns-then-is_field_shown
returns-then-is_field_shown c =
    loop_found c.args.left c.args.reader c.args.first c.loop-index.index c.loop-index.invariant (list_schema c.in-Ok.fields) (c.in-Ok.ensures ∙ c.get_schema.ensures) c.get-field.result c.get-field.ensures
    (sym c.if-is_field_shown.true ∙ c.is_field_shown.ensures) c.get_index.result c.get_index.ensures c.open_field.result c.open_field.ensures

pub loop-index-preserved : goal.loop-index-preserved
loop-index-preserved c =
    loop_hidden c.args.left c.args.reader c.args.first c.loop-index.index c.loop-index.invariant (list_schema c.in-Ok.fields) (c.in-Ok.ensures ∙ c.get_schema.ensures) c.get-field.result c.get-field.ensures
    (sym c.if-is_field_shown.false ∙ c.is_field_shown.ensures)

pub returns : goal.returns
returns c =
    loop_done c.args.left c.args.reader c.args.first c.loop-index.index c.loop-index.invariant (list_schema c.in-Ok.fields) (c.in-Ok.ensures ∙ c.get_schema.ensures)
    (omega (arith, c.loop-index-test.false, c.from-index-end.ensures, c.len.ensures))
