-- What changes between two structs though the newer one may follow: fields that came, other names, enumerants that came, and lists
-- that became lists of structs.
use Rattle.std.specs.Prelude.{ℕ, zero, suc, ◌+◌, ◌≡◌, ◌↔◌, ◌&&◌, Bool, true, false, IsTrue, List, [], ◌∷◌, ◌++◌, Option, Some, None, bytes_eq, length, nat_lt, slice_get}
use Rattle.capnp_schema.specs.Types.{SchemaType, EnumType, ListType, StructType}
use Rattle.capnp_schema.specs.Schema.{Enumerant, Schemas, TypedField, enum_at, field_at, fields_of}
use Rattle.capnp_records.specs.Compatible.{can_become_struct, stands_first, type_in_place}
use Rattle.capnp_differences.specs.Closing.{listed_pairs}
use Rattle.capnp_differences.specs.Differences.{IsComparedOf, type_change}
use Rattle.capnp_differences.specs.declared.differences.Cause.{Cause}
use Rattle.capnp_differences.specs.declared.differences.Cause.TheVariants as cause
use Rattle.capnp_differences.specs.declared.noted.Change.{Change}
use Rattle.capnp_differences.specs.declared.noted.Change.TheVariants as change
use Rattle.capnp_differences.specs.declared.noted.EnumPair.{EnumPair}
use Rattle.capnp_differences.specs.declared.noted.Note.{Note}
use Rattle.capnp_differences.specs.declared.differences.Pair.{Pair}

-- ---- names ----

-- nothing where two names are the same
abbrev pub other_name : (same : Bool) → Change → Option Change
other_name true c = None
other_name false c = Some c

-- a field of both has another name
abbrev pub name_change : (older newer : TypedField) → Option Change
name_change f g = other_name (bytes_eq f.field.name g.field.name) change.FieldRenamed

-- ---- enums ----

-- the enums that two types name, inside lists of the same depth, as structs are paired
abbrev pub enum_pair : Schemas → SchemaType → SchemaType → Option EnumPair
enum_pair set (ListType s) (ListType t) = enum_pair set s (type_in_place true set s t)
enum_pair set (EnumType d) (EnumType e) = Some (record { older = d; newer = e })
enum_pair set s t = None

abbrev pub name_or_none : Option Enumerant → List ℕ
name_or_none None = []
name_or_none (Some e) = e.name

-- the name of an enumerant, where the enum has it
abbrev pub enumerant_name : Schemas → (enum ordinal : ℕ) → List ℕ
enumerant_name set d k = name_or_none (slice_get (enum_at set d).enumerants k)

-- it came, unless it was there, and it may have another name
abbrev pub came_or : (was same : Bool) → (came renamed : Change) → Option Change
came_or false same came renamed = Some came
came_or true same came renamed = other_name same renamed

abbrev pub enumerant_change : Schemas → EnumPair → (ordinal : ℕ) → Option Change
enumerant_change set e k =
    came_or (nat_lt k (length (enum_at set e.older).enumerants)) (bytes_eq (enumerant_name set e.older k) (enumerant_name set e.newer k))
    (change.EnumerantCame e k) (change.EnumerantRenamed e k)

-- ---- lists ----

abbrev pub one_level : (asked : Bool) → ℕ
one_level true = 1
one_level false = 0

-- a reader enters each element that became a struct, and so needs one level more
abbrev pub level_asked : Schemas → SchemaType → SchemaType → ℕ
level_asked set s (StructType b h) = one_level (can_become_struct s && stands_first set b)
level_asked set s t = 0

-- of how many of the lists that both types are the elements became structs
abbrev pub more_levels : Schemas → SchemaType → SchemaType → ℕ
more_levels set (ListType s) (ListType t) = level_asked set s t + more_levels set s (type_in_place true set s t)
more_levels set s t = 0

-- noted unless the types differ
abbrev pub lists_change : (types : Option Cause) → (levels : ℕ) → Option Change
lists_change (Some c) levels = None
lists_change None zero = None
lists_change None (suc n) = Some (change.ListsOfStructs (suc n))

-- ---- notes ----

abbrev pub some_note : Pair → (field : ℕ) → Option Change → List Note
some_note p i None = []
some_note p i (Some c) = record { pair = p; field = i; change = c } ∷ []

-- the notes of the first so many
abbrev pub notes_below : (ℕ → List Note) → (count : ℕ) → List Note
notes_below f zero = []
notes_below f (suc n) = notes_below f n ++ f n

-- of each enumerant of the newer enum
abbrev pub enum_notes : Schemas → Pair → (field : ℕ) → Option EnumPair → List Note
enum_notes set p i None = []
enum_notes set p i (Some e) = notes_below (λ k. some_note p i (enumerant_change set e k)) (length (enum_at set e.newer).enumerants)

-- of a field that both structs have: its name, the enumerants of its enum, and its lists
abbrev pub shared_notes : Schemas → Pair → (field : ℕ) → (older newer : TypedField) → List Note
shared_notes set p i f g =
    some_note p i (name_change f g) ++ (enum_notes set p i (enum_pair set f.type g.type)
    ++ some_note p i (lists_change (type_change cause.TypeChanged set f.type g.type) (more_levels set f.type g.type)))

-- or else it came
abbrev pub shared_or_came : Schemas → Pair → (field : ℕ) → (shared : Bool) → List Note
shared_or_came set p i true = shared_notes set p i (field_at set p.older i) (field_at set p.newer i)
shared_or_came set p i false = some_note p i (Some change.FieldCame)

abbrev pub field_notes : Schemas → Pair → (field : ℕ) → List Note
field_notes set p i = shared_or_came set p i (nat_lt i (length (fields_of set p.older)))

-- of a pair of structs: those of each field of the newer one
abbrev pub pair_notes : Schemas → Pair → List Note
pair_notes set p = notes_below (field_notes set p) (length (fields_of set p.newer))

abbrev pub notes_of : Schemas → List Pair → List Note
notes_of set [] = []
notes_of set (p ∷ ps) = pair_notes set p ++ notes_of set ps

-- what is told: the notes of the pairs that are compared, in some order of these, in which none stands twice
pub record AreNotes (set : Schemas) (asked : List Pair) (notes : List Note) : Type 0 where
  pub pairs : List Pair
  pub compared : (a b : ℕ) → (IsTrue (listed_pairs pairs a b) ↔ IsComparedOf set asked a b)
  pub once : (i j : ℕ) (p : Pair) → slice_get pairs i ≡ Some p → slice_get pairs j ≡ Some p → i ≡ j
  pub told : notes ≡ notes_of set pairs
