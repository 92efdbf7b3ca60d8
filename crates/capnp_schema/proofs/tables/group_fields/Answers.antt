-- The table of group fields has what the table of parents has, by numbers of handles.
use Rattle.std.proofs.Common.{◌<◌, None, arith, length}
use Rattle.std.proofs.lemmas.Option.{slice_get-get_or}
use Rattle.capnp_schema.specs.Entries.{lists_seen}
use Rattle.capnp_schema.proofs.GroupFieldTables.{group_fields_are, numbered_all, parent_small}
use Rattle.capnp_schema.proofs.GroupTargets.{targets_are_groups}
use Rattle.capnp_schema.proofs.tables.group_fields.Goals as goal

pub numbered-requires : goal.numbered-requires
numbered-requires c =
    let inside : c.loop-brand.brand < length c.args.parents.now = omega arith in
    parent_small (lists_seen c.args.lists.now) c.requires.accepted c.args.parents.now c.requires.parents c.loop-brand.brand _ (slice_get-get_or c.args.parents.now c.loop-brand.brand None inside)

pub returns-clause-fields : goal.returns-clause-fields
returns-clause-fields c = group_fields_are (lists_seen c.args.lists.now) (targets_are_groups (lists_seen c.args.lists.now) c.requires.accepted.rule1 c.requires.accepted.rule7) c.args.parents.now c.loop-brand.fields.items c.requires.parents
    (numbered_all c.args.parents.now c.loop-brand.fields.items c.loop-brand.brand (omega arith) c.loop-brand.invariant)
