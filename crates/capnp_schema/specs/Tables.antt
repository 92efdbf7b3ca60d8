-- The tables that a set keeps for its queries.
use Rattle.std.specs.Prelude.{ℕ, ◌≡◌, List, [], length, map, slice_get, Option, Some, None, Vec}
use Rattle.std.specs.declared.alloc.Global.{Global}
use Rattle.capnp_schema.specs.GroupFields.{AreGroupFields}
use Rattle.capnp_schema.specs.Schema.{Schemas, Node, fields_of, node_at, no_enum, no_node, seen_enum, seen_node}
use Rattle.capnp_schema.specs.Query.{member_of, non_union_fields}
use Rattle.capnp_schema.specs.Names.{IsNameTable}
use Rattle.capnp_schema.specs.Plan.{plan_of}
use Rattle.capnp_schema.specs.declared.plan.SlotPlan.{SlotPlan}
use Rattle.capnp_schema.specs.declared.tables.FieldTables.{FieldTables}

-- at each discriminant value the index of its member
pub record IsMemberTable (n : Node) (table : List ℕ) : Type 0 where
  pub same_length : length table ≡ n.discriminant_count
  pub each : (d i : ℕ) → slice_get table d ≡ Some i → member_of n.fields d ≡ Some i

abbrev pub items_of : {A : Type 0} → Option (Vec A Global) → List A
items_of None = []
items_of (Some table) = table.items

-- what stands in table n, nothing past the last table
abbrev pub table_at : {A : Type 0} → List (Vec A Global) → ℕ → List A
table_at tables n = items_of (slice_get tables n)

-- a table by name for each node, and nothing past the last
pub record AreNameTables (set : Schemas) (tables : List (Vec ℕ Global)) : Type 0 where
  pub same_length : length tables ≡ length set.nodes
  pub each : (n : ℕ) → IsNameTable (node_at set n).fields (table_at tables n)

abbrev pub AreMemberTables : Schemas → List (Vec ℕ Global) → Type 0
AreMemberTables set tables = (n : ℕ) → IsMemberTable (node_at set n) (table_at tables n)

abbrev pub AreNonUnionTables : Schemas → List (Vec ℕ Global) → Type 0
AreNonUnionTables set tables = (n : ℕ) → table_at tables n ≡ non_union_fields (node_at set n).fields

abbrev pub ArePlanTables : Schemas → List (Vec SlotPlan Global) → Type 0
ArePlanTables set tables = (b : ℕ) → table_at tables b ≡ map (plan_of set b) (fields_of set b)

-- tables for each node, and plans and the group field for each brand; past the last of these stands an empty table, and past the ends of the
-- lists a node and an enum with nothing in them
pub record AreTables (set : Schemas) (tables : FieldTables) : Type 0 where
  pub by_name : AreNameTables set tables.by_name.items
  pub members : AreMemberTables set tables.members.items
  pub non_union : AreNonUnionTables set tables.non_union.items
  pub plans : ArePlanTables set tables.plans.items
  pub group_fields : AreGroupFields set tables.group_fields.items
  pub empty_node : seen_node tables.empty.node ≡ no_node
  pub empty_enum : seen_enum tables.empty.enumeration ≡ no_enum
