-- The table is filled with the group fields passed so far.
-- A field of a free group fills its place; at a filled place two fields name the group, which breaks rule 8.
use Rattle.std.proofs.Common.{◌<◌, length, sym, arith}
use Rattle.capnp_schema.specs.Entries.{lists_seen}
use Rattle.capnp_schema.proofs.Checking.BrandRefusals.{refused_at_group}
use Rattle.capnp_schema.proofs.Checking.GroupTable.{filled_skip, filled_set, filled_next, table_from_filled, twice_at, free_at}
use Rattle.capnp_schema.proofs.check.groups.parent_table.Goals as goal
use Rattle.capnp_schema.proofs.check.groups.parent_table.Goals.{in-Some+else-is_some, in_default}

pub index-requires : goal.index-requires
index-requires c = let h = c.requires _ _ c.in-Some.group (sym c.in-Some.ensures) in let l = c.loop-field.invariant.same_length in omega arith

pub returns-then-is_some : goal.returns-then-is_some
returns-then-is_some c =
    let h = c.requires _ _ c.in-Some.group (sym c.in-Some.ensures) in
    refused_at_group (lists_seen c.args.lists.now) c.refusal.result c.in-Some.group c.refusal.ensures h.0
    (λ stands. twice_at _ _ _ _ _ _ c.loop-field.invariant (sym c.in-Some.ensures) (let l = c.loop-field.invariant.same_length in omega arith) c.index.ensures (sym c.if-is_some.ensures) (stands h.1).0)

pub index_mut-requires : goal.index_mut-requires
index_mut-requires c = let h = c.requires _ _ c.in-Some.group (sym c.in-Some.ensures) in let l = c.loop-field.invariant.same_length in omega arith

pub loop-field-preserved : goal.loop-field-preserved
loop-field-preserved c = elim c.match-group_target.branch [
  | in-Some+else-is_some w ↦ rw w.table-is (let h = c.requires _ _ w.in-Some.group (sym w.in-Some.ensures) in let l = c.loop-field.invariant.same_length in
      filled_set _ _ _ _ _ c.loop-field.invariant (sym w.in-Some.ensures) (free_at _ _ _ (let lt : w.in-Some.group < length c.loop-field.table.items = omega arith in lt) w.index.ensures (sym w.if-is_some.ensures)))
  | in_default w ↦ rw w.table-is (filled_skip _ _ _ _ c.loop-field.invariant (sym w.in_default.ensures))
]

pub loop-brand-preserved : goal.loop-brand-preserved
loop-brand-preserved c = filled_next _ _ _ _ c.loop-field.invariant (omega arith)

pub returns : goal.returns
returns c = table_from_filled _ _ _ c.loop-brand.invariant (omega arith)
