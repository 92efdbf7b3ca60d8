-- Fields by their names: the tables that a set keeps for its look-ups.
use Rattle.std.specs.Prelude.{ℕ, ◌≡◌, ◌<◌, List, [], length, slice_get, slice_index, Option, Some, None}
use Rattle.std.specs.Cmp.Lexicographic.{slice_cmp}
use Rattle.std.specs.Ordering.{nat_cmp}
use Rattle.std.specs.declared.cmp.Ordering.TheVariants.{Less}
use Rattle.capnp_schema.specs.Schema.{Field}

abbrev pub name_in : Option Field → List ℕ
name_in None = []
name_in (Some f) = f.name

-- the name of field i, nothing past the end
abbrev pub name_at : List Field → ℕ → List ℕ
name_at fields i = name_in (slice_get fields i)

-- the indices of the fields in rising order of their names, by their bytes
pub record IsNameTable (fields : List Field) (table : List ℕ) : Type 0 where
  pub same_length : length table ≡ length fields
  pub below : (k : ℕ) → k < length table → slice_index table k < length fields
  pub each : (i : ℕ) → i < length fields → (k : ℕ) × (k < length table) × (slice_index table k ≡ i)
  pub rises : (j k : ℕ) → j < k → k < length table → slice_cmp nat_cmp (name_at fields (slice_index table j)) (name_at fields (slice_index table k)) ≡ Less
