-- The table has as many places as the union has values.
-- As the node has each member once, placing all of them writes each place, and so the table stands.
use Rattle.std.proofs.Common.{◌≡◌, ◌∙◌, ap, length, subst, sym}
use Rattle.std.proofs.lemmas.List.{length-replicate}
use Rattle.capnp_schema.specs.Schema.{seen_node}
use Rattle.capnp_schema.specs.Tables.{IsMemberTable}
use Rattle.capnp_schema.proofs.MemberTables.{all_placed, all_written, member_table_stands}
use Rattle.capnp_schema.proofs.tables.member_table.Goals as goal

pub returns-clause-table : goal.returns-clause-table
returns-clause-table c =
    let items : length c.in_ok-table.table.items ≡ c.args.node.now.body.discriminant_count = ap (λ xs. length xs) c.in_ok-table.ensures.set ∙ length-replicate c.args.node.now.body.discriminant_count 0 in
    let counted : length c.deref_mut.result.now ≡ c.args.node.now.body.discriminant_count = ap (λ xs. length xs) c.deref_mut.ensures.value ∙ items in
    let new : length c.place_members.new.table ≡ c.args.node.now.body.discriminant_count = c.place_members.ensures.counted ∙ counted in
    subst (IsMemberTable (seen_node c.args.node.now)) (sym (all_written c.in_ok-table.table.len c.place_members.new.table c.in_ok-table.table.items (c.in_ok-table.table.ok.0 ∙ items ∙ sym new) (items ∙ sym new)))
    (member_table_stands (seen_node c.args.node.now) c.place_members.new.table c.no_indices.ensures.few c.requires.each
    (all_placed c.args.node.now c.deref.result.now (length c.deref_mut.result.now) c.place_members.new.table c.deref.ensures.value counted c.place_members.ensures))
