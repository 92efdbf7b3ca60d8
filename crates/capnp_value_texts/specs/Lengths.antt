-- How far leaves and names go.
use Rattle.std.specs.Prelude.{ℕ, suc, List, [], ◌∷◌, Bool, false, ◌||◌, cond, ◌==◌}
use Rattle.capnp_json_text.specs.Readings.{is_blank}
use Rattle.capnp_value_texts.specs.declared.lengths.Within.{Within}
use Rattle.capnp_value_texts.specs.declared.lengths.Within.TheVariants.{Plain, Quoted, Escaped}

-- what ends what stands outside of quotes: a blank, `,`, `)` and `]`
abbrev pub is_end : ℕ → Bool
is_end b = is_blank b || b == 44 || b == 41 || b == 93

abbrev pub ends_leaf : Within → ℕ → Bool
ends_leaf Plain b = is_end b
ends_leaf Quoted b = false
ends_leaf Escaped b = false

-- a quote ends quotes, and a backslash takes the next byte with it
abbrev pub quoted_step : ℕ → Within
quoted_step b = cond (b == 34) Plain (cond (b == 92) Escaped Quoted)

abbrev pub next_within : Within → ℕ → Within
next_within Plain b = cond (b == 34) Quoted Plain
next_within Quoted b = quoted_step b
next_within Escaped b = Quoted

-- the bytes of a leaf, from one on that stands so
abbrev pub leaf_length : Within → List ℕ → ℕ
leaf_length within [] = 0
leaf_length within (b ∷ bs) = cond (ends_leaf within b) 0 (suc (leaf_length (next_within within b) bs))

-- from outside of quotes
abbrev pub plain_length : List ℕ → ℕ
plain_length bs = leaf_length Plain bs

-- a name goes to its equals sign
abbrev pub ends_name : ℕ → Bool
ends_name b = is_end b || b == 61

abbrev pub name_length : List ℕ → ℕ
name_length [] = 0
name_length (b ∷ bs) = cond (ends_name b) 0 (suc (name_length bs))
