-- A group's place in the plan names its schema.
use Rattle.std.proofs.Common.{ℕ, Some, arith, ap, ◌∙◌}
use Rattle.capnp_schema.proofs.GroupFieldTables.{goes_back}
use Rattle.capnp_schema.proofs.GroupsDown.{group_in, handle_target}
use Rattle.capnp_schema.proofs.schema.fields.Field.get_group.Goals as goal

pub returns-clause-number : goal.returns-clause-number
returns-clause-number c = ap (λ (n : ℕ). Some n) c.struct_schema.ensures.number
    ∙ handle_target c.args.self.now c.plan.result c.plan.ensures.is c.struct_schema.ensures.accepted c.in-Group.brand c.in-Group.is

pub returns-clause-down : goal.returns-clause-down
returns-clause-down c = group_in c.args.self.now c.plan.result c.plan.ensures.is c.struct_schema.ensures.accepted c.in-Group.brand c.in-Group.is c.plan.ensures.group
    c.struct_schema.result c.struct_schema.ensures.set c.struct_schema.ensures.number c.struct_schema.ensures.stands

pub returns-clause-back : goal.returns-clause-back
returns-clause-back c = goes_back c.args.self.now c.struct_schema.ensures.accepted c.in-Group.brand _
    (handle_target c.args.self.now c.plan.result c.plan.ensures.is c.struct_schema.ensures.accepted c.in-Group.brand c.in-Group.is)
    c.struct_schema.ensures.number (omega arith)
