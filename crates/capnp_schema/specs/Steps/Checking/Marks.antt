-- Marks for the members of a union, one for each discriminant value.
use Rattle.std.specs.Prelude.{ℕ, ◌≡◌, ◌<◌, Bool, true, false, List, get_or, slice_get, Some, IsTrue}
use Rattle.capnp_schema.specs.Schema.{Field, is_member}

-- marks stand at the values of the members among the first so many fields, and no two of these have one value
pub record Marked (fields : List Field) (i : ℕ) (marks : List Bool) : Type 0 where
  pub within : (k : ℕ) (f : Field) → k < i → slice_get fields k ≡ Some f → IsTrue (is_member f) → get_or marks f.discriminant_value false ≡ true
  pub found : (d : ℕ) → get_or marks d false ≡ true → (k : ℕ) × (f : Field) × (k < i) × (slice_get fields k ≡ Some f) × IsTrue (is_member f) × (f.discriminant_value ≡ d)
  pub once : (j k : ℕ) (f g : Field) → j < i → k < i → slice_get fields j ≡ Some f → slice_get fields k ≡ Some g → IsTrue (is_member f) → f.discriminant_value ≡ g.discriminant_value → j ≡ k
