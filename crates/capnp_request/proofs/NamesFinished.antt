-- A name that is short enough and UTF-8 stands as it is.
use Rattle.std.proofs.Common.{ℕ, ◌<◌, ◌≤◌, ◌≡◌, ◌∙◌, ap, refl, sym, Bool, true, false, List, length, nat_lt, Err}
use Rattle.std.proofs.lemmas.Bool.{le-ltb, lt-ltb}
use Rattle.capnp_device.specs.declared.error.ErrorKind.{ErrorKind}
use Rattle.capnp_device.specs.declared.error.ErrorKind.TheVariants.{OutOfMemory, TooManyTypes}
use Rattle.capnp_request.specs.Conversion.{converted_name}
use Rattle.capnp_request.specs.Names.{finished_name}
use Rattle.capnp_request.specs.Steps.NamesMade.{IsTooLong}
use Rattle.capnp_request.specs.Terms.{Said}

abbrev by_length : Bool → Said (List ℕ) → Said (List ℕ)
by_length true r = Err TooManyTypes
by_length false r = r

finished_by : (xs : List ℕ) → finished_name xs ≡ by_length (nat_lt 1024 (length xs)) (converted_name xs)
finished_by xs = go (nat_lt 1024 (length xs))
  where
    go : (q : Bool) → (elim q as (λ _. Said (List ℕ)) [ true ↦ Err TooManyTypes | false ↦ converted_name xs ]) ≡ by_length q (converted_name xs)
    go true = refl
    go false = refl

pub finished_long : (xs : List ℕ) → 1024 < length xs → finished_name xs ≡ Err TooManyTypes
finished_long xs h = finished_by xs ∙ ap (λ q. by_length q (converted_name xs)) (lt-ltb 1024 (length xs) h)

-- the same of the kind that an appender is refused with
pub finished_too_long : (kind : ErrorKind) (xs : List ℕ) → IsTooLong kind xs → (kind ≡ OutOfMemory → ⊥) → finished_name xs ≡ Err kind
finished_too_long kind xs h is = finished_long xs (h.too_long is).1 ∙ ap (λ (k : ErrorKind). Err k) (sym (h.too_long is).0)

pub finished_short : (xs : List ℕ) → length xs ≤ 1024 → finished_name xs ≡ converted_name xs
finished_short xs h = finished_by xs ∙ ap (λ q. by_length q (converted_name xs)) (le-ltb 1024 (length xs) h)
