-- The parts of a record: what a field has, whether it is there, and which member of the union is active.
use Rattle.std.specs.Prelude.{ℕ, zero, suc, Bool, true, false, not, ◌&&◌, ◌==◌, Option, Some, None}
use Rattle.capnp_schema.specs.Schema.{Field, is_member}
use Rattle.capnp_records.specs.Record as value
use Rattle.capnp_records.specs.Record.{Value, Values, NoValues, MoreValues, Union, Record, Parts, NoUnion, Active, Unknown, is_there}

-- ---- values in a row ----

-- the value at an index; past the end, where no accepted set looks, stands a placeholder
abbrev pub nth_value : Values → ℕ → Value
nth_value NoValues i = value.Elsewhere
nth_value (MoreValues v vs) zero = v
nth_value (MoreValues v vs) (suc i) = nth_value vs i

-- a row with another value at an index
abbrev pub with_value : Values → ℕ → Value → Values
with_value NoValues i w = NoValues
with_value (MoreValues v vs) zero w = MoreValues w vs
with_value (MoreValues v vs) (suc i) w = MoreValues v (with_value vs i w)

abbrev pub value_count : Values → ℕ
value_count NoValues = 0
value_count (MoreValues v vs) = suc (value_count vs)

-- ---- the union ----

-- whether the field of an index is the active member
abbrev pub is_active : Union → ℕ → Bool
is_active NoUnion i = false
is_active (Active j v) i = i == j
is_active (Unknown number) i = false

-- what the active member has
abbrev pub active_value : Union → Value
active_value NoUnion = value.Elsewhere
active_value (Active j v) = v
active_value (Unknown number) = value.Elsewhere

-- ---- a field ----

-- what a field has: a non-union field's value, or what stands in the union
abbrev pub part_at : Record → Field → ℕ → Value
part_at (Parts vs u) f i = elim (is_member f) [ true ↦ active_value u | false ↦ nth_value vs i ]

-- the record with another part there; a member's part replaces the whole union, and nothing else changes
abbrev pub with_part : Record → Field → ℕ → Value → Record
with_part (Parts vs u) f i w = elim (is_member f) [ true ↦ Parts vs (Active i w) | false ↦ Parts (with_value vs i w) u ]

-- whether a field is a member that isn't active
abbrev pub is_inactive : Record → Field → ℕ → Bool
is_inactive (Parts vs u) f i = is_member f && not (is_active u i)

-- has: false for a member that isn't active and for a null pointer, and else true
abbrev pub has_of : Record → Field → ℕ → Bool
has_of r f i = not (is_inactive r f i) && is_there (part_at r f i)

-- which: the active member's index; none without a union, and none where the discriminant is no member's
abbrev pub which_of : Record → Option ℕ
which_of (Parts vs NoUnion) = None
which_of (Parts vs (Active i v)) = Some i
which_of (Parts vs (Unknown number)) = None
