-- Entries of the lists by their numbers, where they are there.
use Rattle.std.specs.Prelude.{ℕ, slice_get, Option}
use Rattle.capnp_schema.specs.Schema.{Schemas, Brand, seen_schemas}
use Rattle.capnp_schema.specs.declared.lists.Lists.{Lists}

-- what the lists of the code stand for
abbrev pub lists_seen : Lists → Schemas
lists_seen lists = seen_schemas lists.nodes.items lists.brands.items lists.enums.items

abbrev pub brand_entry : Schemas → ℕ → Option Brand
brand_entry set b = slice_get set.brands b
