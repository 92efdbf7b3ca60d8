-- The name of a field by its index.
use Rattle.std.proofs.Common.{◌≡◌, ◌<◌, ◌≤◌, ℕ, zero, suc, List, [], ◌∷◌, ap, arith, get_or, length, map, refl, string_bytes, sym}
use Rattle.capnp_schema.specs.Schema.{seen_field}
use Rattle.capnp_schema.specs.declared.record.FieldRecord.{FieldRecord}
use Rattle.capnp_versions.specs.Lines.{named_field}

pub none_named : (fs : List FieldRecord) (i : ℕ) → length fs ≤ i → named_field (map seen_field fs) i ≡ []
none_named [] i h = refl
none_named (f ∷ fs) zero h = absurd (omega (arith, h))
none_named (f ∷ fs) (suc i) h = none_named fs i (omega (arith, h))

pub some_named : (fs : List FieldRecord) (i : ℕ) (r : FieldRecord) → i < length fs → r ≡ get_or fs i r → named_field (map seen_field fs) i ≡ 46 ∷ string_bytes r.name
some_named [] i r inside h = absurd (omega (arith, inside))
some_named (f ∷ fs) zero r inside h = ap (λ (x : FieldRecord). 46 ∷ string_bytes x.name) (sym h)
some_named (f ∷ fs) (suc i) r inside h = some_named fs i r (omega (arith, inside)) h
