-- The names of a set's structs.
use Rattle.std.specs.Prelude.{ℕ, suc, ◌==◌, List, [], ◌∷◌, ◌++◌, Bool, false, cond, Option, Some, None}
use Rattle.capnp_schema.specs.ByName.{brand_asked, numbered_brand}
use Rattle.capnp_schema.specs.Schema.{Schemas, Brand, node_of}

-- whether a number is this one
abbrev pub is_number : Option ℕ → ℕ → Bool
is_number None b = false
is_number (Some x) b = x == b

-- whether the name of a brand's node is that of the brand: groups and further brands of a node have none of their own
abbrev pub has_name : Schemas → ℕ → Bool
has_name set b = is_number (brand_asked set (node_of set b).display_name) b

-- a line for a struct: its name; none for a number past 32 bits, which names nothing
abbrev pub number_line : Schemas → Option ℕ → List ℕ
number_line set None = []
number_line set (Some b) = cond (has_name set b) ((node_of set b).display_name ++ 10 ∷ []) []

abbrev pub struct_line : Schemas → ℕ → List ℕ
struct_line set b = number_line set (numbered_brand (Some b))

-- a line for each of these brands, which are the set's from a number on
abbrev pub struct_lines : Schemas → List Brand → ℕ → List ℕ
struct_lines set [] b = []
struct_lines set (x ∷ xs) b = struct_line set b ++ struct_lines set xs (suc b)

-- the structs of a set that a name finds, one a line
abbrev pub structs_text : Schemas → List ℕ
structs_text set = struct_lines set set.brands 0
