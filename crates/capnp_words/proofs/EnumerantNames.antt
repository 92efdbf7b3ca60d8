-- The names of enumerants, one after another.
use Rattle.std.proofs.Common.{slice_get, ◌≡◌, ℕ, zero, suc, ◌+◌, ◌<◌, max, List, [], ◌∷◌, length, drop, cond, true, false, Ok, refl, map, arith, add-one}
use Rattle.std.specs.Option.{unwrap_or}
use Rattle.capnp_schema.specs.Schema.{Schemas, Enumerant, enum_at}
use Rattle.capnp_schema.specs.Annotated.{enumerant_at, no_enumerant}
use Rattle.capnp_words.specs.Words.{is_word, name_among, shared_length}
use Rattle.capnp_words.specs.Values.{enumerant_words}

first_name : (xs : List Enumerant) (d : Enumerant) (i : ℕ) → i < length xs
    → drop i (map (λ (x : Enumerant). x.name) xs) ≡ (unwrap_or (slice_get xs i) d).name ∷ drop (suc i) (map (λ (x : Enumerant). x.name) xs)
first_name [] d i h = absurd (omega arith)
first_name (x ∷ xs) d zero h = refl
first_name (x ∷ xs) d (suc i) h = first_name xs d i (omega arith)

pub name_next : (set : Schemas) (e i best : ℕ) (bs : List ℕ) → i < length (enum_at set e).enumerants
    → name_among (drop i (enumerant_words set e)) i best bs
    ≡ cond (is_word (enumerant_at set e i).name bs) (Ok i) (name_among (drop (suc i) (enumerant_words set e)) (suc i) (max best (shared_length (enumerant_at set e i).name bs)) bs)
name_next set e i best bs h = rw (first_name (enum_at set e).enumerants no_enumerant i h) refl

pub name_here : (set : Schemas) (e i best : ℕ) (bs : List ℕ) → i < length (enum_at set e).enumerants → is_word (enumerant_at set e i).name bs ≡ true
    → name_among (drop i (enumerant_words set e)) i best bs ≡ Ok i
name_here set e i best bs h is = rw (name_next set e i best bs h, is) refl

pub name_past : (set : Schemas) (e i best : ℕ) (bs : List ℕ) → i < length (enum_at set e).enumerants → is_word (enumerant_at set e i).name bs ≡ false
    → name_among (drop i (enumerant_words set e)) i best bs ≡ name_among (drop (i + 1) (enumerant_words set e)) (i + 1) (max best (shared_length (enumerant_at set e i).name bs)) bs
name_past set e i best bs h is = rw (name_next set e i best bs h, is, add-one) refl
