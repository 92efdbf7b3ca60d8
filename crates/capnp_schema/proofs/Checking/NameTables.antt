-- The tables by name of a set's nodes.
use Rattle.std.proofs.Common.{◌≡◌, ℕ, ◌<◌, List, [], Option, Some, None, Vec, ap, arith, get_or, length, refl, slice_get, subst, sym}
use Rattle.std.specs.Option.{unwrap_or}
use Rattle.std.specs.declared.alloc.Global.{Global}
use Rattle.std.proofs.lemmas.Option.{slice_get-get_or}
use Rattle.capnp_device.specs.declared.error.SchemaTable.TheVariants.{Node as InNodes}
use Rattle.capnp_schema.specs.Schema.{Schemas, Node, no_node, node_at}
use Rattle.capnp_schema.specs.Accepted.{HasOwnName, HasSmallCounts, Rule3}
use Rattle.capnp_schema.specs.Broken.{IsBroken, name}
use Rattle.capnp_schema.specs.Names.{IsNameTable}
use Rattle.capnp_schema.specs.Steps.Names.{IsRepeated}
use Rattle.capnp_schema.specs.Tables.{AreNameTables, table_at}
use Rattle.capnp_schema.proofs.NameOrder.{distinct_from_table, repeated_is_not_own}
use Rattle.capnp_schema.proofs.EntryWalk.{entry_breaks}

-- a node that is there
pub node_there : (set : Schemas) (n : ℕ) (d : Node) → n < length set.nodes → node_at set n ≡ get_or set.nodes n d
node_there set n d h = ap (λ (o : Option Node). unwrap_or o no_node) (slice_get-get_or set.nodes n d h)

pub repeated_at : (set : Schemas) (n i : ℕ) → IsRepeated (node_at set n).fields i → IsBroken set 3 InNodes n i
repeated_at set n i r = at_entry (slice_get set.nodes n) refl r
  where
    at_entry : (o : Option Node) → slice_get set.nodes n ≡ o → IsRepeated (unwrap_or o no_node).fields i → IsBroken set 3 InNodes n i
    at_entry None e again = let inside = again.inside in absurd (omega arith)
    at_entry (Some x) e again = name n i (entry_breaks set.nodes (λ (y : Node). HasOwnName y.fields i) n x (sym e) (repeated_is_not_own x.fields i again))

-- the table of what stands past the last node
pub no_names : IsNameTable [] []
no_names = record {
  same_length = refl;
  below = λ k h. absurd (omega arith);
  each = λ i h. absurd (omega arith);
  rises = λ j k h g. absurd (omega arith);
}

-- the counts and the tables are the rule
pub rule3_stands : (set : Schemas) (tables : List (Vec ℕ Global)) → HasSmallCounts set → AreNameTables set tables → Rule3 set
rule3_stands set tables small named = record {
  names = λ k d h i. subst (λ (x : Node). HasOwnName x.fields i) (node_there set k d h) (distinct_from_table (node_at set k).fields (table_at tables k) (named.each k) i);
  counts = small;
}
