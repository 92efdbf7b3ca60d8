-- How many fields there are, where no node has more than 65,535.
use Rattle.std.proofs.Common.{ℕ, ◌<◌, ◌≤◌, List, [], ◌∷◌, arith, length}
use Rattle.capnp_schema.specs.Types.{SchemaType}
use Rattle.capnp_schema.specs.Schema.{Schemas, Node, Field, typed_fields, node_at, brand_at, node_of, fields_of}
use Rattle.capnp_schema.specs.Accepted.{HasSmallCounts, Rule3}
use Rattle.capnp_schema.proofs.EntryWalk.{at_node}

pub few_typed : (fs : List Field) (ts : List SchemaType) → length (typed_fields fs ts) ≤ length fs
few_typed [] ts = omega arith
few_typed (f ∷ fs) [] = omega arith
few_typed (f ∷ fs) (t ∷ ts) = omega (arith, few_typed fs ts)

-- of any node
pub few_fields : (set : Schemas) → HasSmallCounts set → (n : ℕ) → length (node_at set n).fields ≤ 65535
few_fields set few = at_node set (λ (x : Node). length x.fields ≤ 65535) (λ n d h. (few.nodes n d h).fields) (omega arith)

-- of any brand
pub few_fields_of : (set : Schemas) → Rule3 set → (b : ℕ) → length (fields_of set b) ≤ 65535
few_fields_of set rule b = omega (arith, few_typed (node_of set b).fields (brand_at set b).field_types, few_fields set rule.counts (brand_at set b).node)

-- a field's index fits the place in a refusal
pub index_fits : (set : Schemas) (b i : ℕ) → Rule3 set → i < length (fields_of set b) → i < 65536
index_fits set b i rule h = omega (arith, few_fields_of set rule b)
