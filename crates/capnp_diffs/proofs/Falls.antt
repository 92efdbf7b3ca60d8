-- What falls from call to call of the walk: the levels that are left, and through groups their height.
use Rattle.std.proofs.Common.{ℕ, suc, ◌+◌, ◌*◌, ◌<◌, ◌≤◌, ◌≡◌, length, arith, ap, sym}
use Rattle.std.proofs.Math.Nat.{mul-le-mul_right}
use Rattle.capnp_schema.specs.Facts.Groups.{heights_fall}
use Rattle.capnp_schema.specs.Laws.{group_height}
use Rattle.capnp_schema.specs.Schema.{Schemas}
use Rattle.capnp_schema.specs.StructHandles.{IsStruct, number_of, set_of}
use Rattle.capnp_schema.specs.declared.schema.structs.StructSchema.{StructSchema}

unfoldable pub walk_base : Schemas → ℕ → ℕ → ℕ
walk_base set levels height = levels * (16 * suc (length set.brands)) + 16 * height

-- a level lower, whatever the height
pub level_falls : (set : Schemas) (low high height top rank : ℕ) → low + 1 ≡ high → height ≤ length set.brands → rank < 16 → walk_base set low height + rank < walk_base set high top
unfolding walk_base
level_falls set low high height top rank e within small =
    omega (arith, within, small, ap (λ (n : ℕ). n * (16 * suc (length set.brands))) (sym e), step low (16 * suc (length set.brands)))
  where
    step : (n k : ℕ) → (n + 1) * k ≡ n * k + k
    step n k = grind arith

-- at the same level a lower group
pub group_falls : (set : Schemas) (levels low high rank : ℕ) → low < high → rank < 16 → walk_base set levels low + rank < walk_base set levels high
unfolding walk_base
group_falls set levels low high rank lower small = omega (arith, lower, small)

-- at the same level whatever the height
pub base_least : (set : Schemas) (levels height : ℕ) → walk_base set levels 0 ≤ walk_base set levels height
unfolding walk_base
base_least set levels height = omega arith

pub base_grows : (set : Schemas) (low high : ℕ) → low ≤ high → walk_base set low 0 ≤ walk_base set high 0
unfolding walk_base
base_grows set low high le = omega (arith, mul-le-mul_right (16 * suc (length set.brands)) le)

-- and a schema's height is within its set
pub schema_height : (s : StructSchema) → IsStruct s → group_height (set_of s) (number_of s) ≤ length (set_of s).brands
schema_height s stands = (heights_fall (set_of s) stands.accepted (number_of s) stands.number).0

pub schema_falls : (s : StructSchema) (low high rank : ℕ) → IsStruct s → low + 1 ≡ high → rank < 16 → walk_base (set_of s) low (group_height (set_of s) (number_of s)) + rank < walk_base (set_of s) high 0
schema_falls s low high rank stands e small = level_falls (set_of s) low high (group_height (set_of s) (number_of s)) 0 rank e (schema_height s stands) small
