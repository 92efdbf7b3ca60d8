-- What is found by a look-up that may find nothing is what the rules' look-ups give.
use Rattle.std.proofs.Common.{ℕ, ◌≡◌, slice_get, Option, Some, None, sym, ap}
use Rattle.std.specs.Option.{unwrap_or}
use Rattle.capnp_schema.specs.Schema.{Schemas, Node, Brand, TypedField, no_node, no_brand, no_field, node_of, node_at, fields_of, field_at}
use Rattle.capnp_schema.specs.Steps.Entries.{brand_node, node_of_entry}

-- the node of a brand, where it is found
pub found_node : (set : Schemas) (b : ℕ) (n : Node) → Some n ≡ brand_node set b → node_of set b ≡ n
found_node set b n e = by_brand (slice_get set.brands b) e
  where
    by_brand : (o : Option Brand) → Some n ≡ node_of_entry set o → node_at set (unwrap_or o (no_brand set)).node ≡ n
    by_brand None q = cc
    by_brand (Some x) q = ap (λ o. unwrap_or o no_node) (sym q)

-- a field, where it is found
pub found_field : (set : Schemas) (b i : ℕ) (f : TypedField) → Some f ≡ slice_get (fields_of set b) i → field_at set b i ≡ f
found_field set b i f e = ap (λ o. unwrap_or o no_field) (sym e)
