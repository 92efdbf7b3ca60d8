-- Fields by their names: the tables that a set keeps for its look-ups: steps of the code.
use Rattle.std.specs.Prelude.{ℕ, ◌≡◌, ◌≢◌, ◌+◌, ◌<◌, List, false, length, slice_index}
use Rattle.std.specs.Cmp.Lexicographic.{slice_cmp}
use Rattle.std.specs.Ordering.{nat_cmp, is_lt}
use Rattle.capnp_schema.specs.Schema.{Field}
use Rattle.capnp_schema.specs.Names.{name_at}

-- the indices of the fields in the order of their names, some of which may be equal
pub record IsNameOrder (fields : List Field) (order : List ℕ) : Type 0 where
  pub same_length : length order ≡ length fields
  pub below : (k : ℕ) → k < length order → slice_index order k < length fields
  pub each : (i : ℕ) → i < length fields → (k : ℕ) × (k < length order) × (slice_index order k ≡ i)
  pub apart : (j k : ℕ) → j < k → k < length order → slice_index order j ≢ slice_index order k
  pub sorted : (k : ℕ) → k + 1 < length order → is_lt (slice_cmp nat_cmp (name_at fields (slice_index order (k + 1))) (name_at fields (slice_index order k))) ≡ false

-- another field has the name of field i
pub record IsRepeated (fields : List Field) (i : ℕ) : Type 0 where
  pub inside : i < length fields
  pub other : ℕ
  pub other_inside : other < length fields
  pub differs : other ≢ i
  pub same_name : name_at fields other ≡ name_at fields i
