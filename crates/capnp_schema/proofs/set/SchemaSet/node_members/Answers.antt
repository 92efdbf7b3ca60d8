-- The member table kept for the node stands for it, since an accepted set's node has each
-- member once; so the table's entries are its members.
use Rattle.std.proofs.Common.{ℕ, ◌≡◌, ◌∙◌, List, Vec, ap, subst, sym}
use Rattle.std.specs.declared.alloc.Global.{Global}
use Rattle.capnp_schema.specs.Schema.{node_at}
use Rattle.capnp_schema.specs.Entries.{lists_seen}
use Rattle.capnp_schema.specs.Tables.{IsMemberTable, table_at}
use Rattle.capnp_schema.proofs.LookUps.{accepted_seen, tables_seen}
use Rattle.capnp_schema.proofs.MemberTables.{has_each, member_found}
use Rattle.capnp_schema.proofs.set.SchemaSet.node_members.Goals as goal

pub returns : goal.returns
returns c =
    let is : c.table_at.result.now ≡ table_at c.self.inside.tables.members.items c.args.node =
    c.table_at.ensures ∙ ap (λ (ts : List (Vec ℕ Global)). table_at ts c.args.node) c.deref.ensures.value in
    member_found (node_at (lists_seen c.args.self.now) c.args.node) c.table_at.result.now (has_each (lists_seen c.args.self.now) (accepted_seen c.self.view_is c.self.invariant.0) c.args.node)
    (subst (IsMemberTable (node_at (lists_seen c.args.self.now) c.args.node)) (sym is) ((tables_seen c.self.view_is c.self.invariant.1).members c.args.node))
