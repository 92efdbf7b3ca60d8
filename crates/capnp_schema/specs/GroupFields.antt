-- The field whose group a group is, and the way up from it.
use Rattle.std.specs.Prelude.{ℕ, zero, suc, ◌^◌, ◌≡◌, ◌==◌, List, [], ◌∷◌, Bool, true, false, length, nat_lt, cond, slice_get, Option, Some, None}
use Rattle.std.specs.Option.{option_flatten}
use Rattle.capnp_schema.specs.Schema.{Schemas, TypedField, fields_of, kind_target}

-- ---- the group field that names a brand ----

abbrev pub is_brand : Option ℕ → ℕ → Bool
is_brand None g = false
is_brand (Some b) g = b == g

-- whether a field is the group field of brand g
abbrev pub names_brand : ℕ → TypedField → Bool
names_brand g f = is_brand (kind_target f.field.kind f.type) g

abbrev pub index_or : Bool → ℕ → Option ℕ → Option ℕ
index_or true i later = Some i
index_or false i later = later

-- the index, counted from the first on, of the first field that is
unfoldable pub index_naming : ℕ → (first : ℕ) → List TypedField → Option ℕ
index_naming g first [] = None
index_naming g first (f ∷ fs) = index_or (names_brand g f) first (index_naming g (suc first) fs)

abbrev pub place_or : ℕ → Option ℕ → Option (ℕ × ℕ) → Option (ℕ × ℕ)
place_or b None earlier = earlier
place_or b (Some i) earlier = Some (b, i)

-- the brand and the index of the group field of brand g, among the fields of the first n brands
unfoldable pub place_naming : Schemas → ℕ → (n : ℕ) → Option (ℕ × ℕ)
place_naming set g zero = None
place_naming set g (suc n) = place_or n (index_naming g 0 (fields_of set n)) (place_naming set g n)

-- handles have the brands whose numbers take 32 bits
abbrev pub numbered_pair : Option (ℕ × ℕ) → Option (ℕ × ℕ)
numbered_pair None = None
numbered_pair (Some (b, i)) = cond (nat_lt b (2 ^ 32)) (Some (b, i)) None

-- the brand and the index of the group field of brand g
unfoldable pub group_field_of : Schemas → ℕ → Option (ℕ × ℕ)
group_field_of set g = numbered_pair (place_naming set g (length set.brands))

-- a table that has at each brand its group field
abbrev pub AreGroupFields : Schemas → List (Option (ℕ × ℕ)) → Type 0
AreGroupFields set table = (g : ℕ) → option_flatten (slice_get table g) ≡ group_field_of set g
