-- Worked rows of the structs that names stand for.
use Rattle.std.specs.Prelude.{ℕ, ◌≡◌, refl, [], ◌∷◌, true, false, Some, None, codes}
use Rattle.capnp_schema.specs.Builtin.{builtin}
use Rattle.capnp_schema.specs.Meta.{meta}
use Rattle.capnp_schema.specs.Schema.{Brand, Schemas}
use Rattle.capnp_schema.specs.ByName.{brand_asked}

-- a struct by its number, and one that stands behind groups
first : brand_asked builtin (codes "Flat") ≡ Some 0
first = refl

behind_groups : brand_asked builtin (codes "Loop") ≡ Some 6
behind_groups = refl

last : brand_asked meta (codes "EnumerantRecord") ≡ Some 9
last = refl

-- a group by its display name, another name, a proper beginning of a name and no name
group : brand_asked builtin (codes "Shapes.circle") ≡ None
group = refl

other : brand_asked builtin (codes "flat") ≡ None
other = refl

beginning : brand_asked builtin (codes "Fla") ≡ None
beginning = refl

empty : brand_asked builtin [] ≡ None
empty = refl

-- the first of two brands of a name, after a group of that name
brand : ℕ → Brand
brand n = record { node = n; field_types = []; annotation_types = record { own = []; children = [] } }

renamed : Schemas
renamed = record {
  nodes =
      record { id = 1; display_name = codes "Twice"; annotations = []; data_word_count = 1; pointer_count = 0; is_group = true; discriminant_count = 0; discriminant_offset = 0; fields = [] }
      ∷ record { id = 2; display_name = codes "Twice"; annotations = []; data_word_count = 1; pointer_count = 0; is_group = false; discriminant_count = 0; discriminant_offset = 0; fields = [] }
      ∷ [];
  brands = brand 0 ∷ brand 1 ∷ brand 1 ∷ [];
  enums = [];
}

twice : brand_asked renamed (codes "Twice") ≡ Some 1
unfolding renamed brand
twice = refl
