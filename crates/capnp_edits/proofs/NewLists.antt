-- New lists that are past the format.
use Rattle.std.proofs.Common.{◌≡◌, ◌⊎◌, ℕ, ◌+◌, ◌-◌, ◌*◌, ◌≤◌, ap, Bool, true, false, ◌||◌, nat_lt, arith, inl, inr, refl}
use Rattle.std.proofs.lemmas.Bool.{lt-ltb}
use Rattle.capnp_wire.specs.Locate.{words_past_format}
use Rattle.capnp_schema.specs.Plan.{brand_size}
use Rattle.capnp_schema.specs.Schema.{Schemas}
use Rattle.capnp_schema.specs.Types.{StructType}
use Rattle.capnp_records.specs.Operation.{elements_past}

pub many : (n : ℕ) → words_past_format ≤ n → nat_lt (words_past_format - 1) n ≡ true
many n h = lt-ltb (words_past_format - 1) n (omega (arith, h))

or_true : (a b : Bool) → b ≡ true → (a || b) ≡ true
or_true true b h = refl
or_true false b h = h

true_or : (a b : Bool) → a ≡ true → (a || b) ≡ true
true_or a b h = ap (λ x. x || b) h

pub structs_past : (set : Schemas) (b g n : ℕ) → (words_past_format ≤ n) ⊎ (words_past_format ≤ n * ((brand_size set b).data_words + (brand_size set b).pointers)) → elements_past set (StructType b g) n ≡ true
structs_past set b g n (inl h) = or_true _ _ (many n h)
structs_past set b g n (inr h) = true_or _ _ (many _ h)
