-- Structs of a set by their display names.
use Rattle.std.specs.Prelude.{ℕ, suc, ◌^◌, List, [], ◌∷◌, ◌&&◌, not, nat_lt, Option, Some, None, bytes_eq, if◌then◌else◌}
use Rattle.capnp_schema.specs.Schema.{Schemas, Brand, node_of}

-- the first of these brands, which are the set's from a number on, that is no group and whose node has the name
abbrev pub brand_among : Schemas → List Brand → ℕ → List ℕ → Option ℕ
brand_among set [] b name = None
brand_among set (x ∷ xs) b name =
    if not (node_of set b).is_group && bytes_eq name (node_of set b).display_name then Some b else brand_among set xs (suc b) name

-- the struct of a name that is no group
abbrev pub brand_named : Schemas → List ℕ → Option ℕ
brand_named set name = brand_among set set.brands 0 name

-- a brand's number where 32 bits hold it, as the numbers in types
abbrev pub numbered_brand : Option ℕ → Option ℕ
numbered_brand None = None
numbered_brand (Some b) = if nat_lt b (2 ^ 32) then Some b else None

-- the same of the struct of a name
abbrev pub brand_asked : Schemas → List ℕ → Option ℕ
brand_asked set name = numbered_brand (brand_named set name)
