-- Rows of values of which the first are read, and what is read behind them.
use Rattle.std.proofs.Common.{ℕ, zero, suc, ◌≡◌, ◌<◌, refl, Ok, Err, arith, ap, sym}
use Rattle.capnp_records.specs.Part.{value_count, with_value}
use Rattle.capnp_records.specs.Record.{MoreValues, NoValues, Value, Values}
use Rattle.capnp_from_json.specs.Errors.{IsErrorOf, Read}
use Rattle.capnp_from_json.specs.Records.{first_of_two}
use Rattle.capnp_from_json.specs.declared.error.Error.{Error}
use Rattle.capnp_from_json.proofs.Refusals.{error_through}

-- so many values of a row, and then others
abbrev pub front : Values → ℕ → Values → Values
front NoValues n ws = ws
front (MoreValues v vs) zero ws = ws
front (MoreValues v vs) (suc n) ws = MoreValues v (front vs n ws)

abbrev pub in_front : Values → ℕ → Read Values → Read Values
in_front vs n (Ok ws) = Ok (front vs n ws)
in_front vs n (Err refusal) = Err refusal

none_first : (vs ws : Values) → front vs 0 ws ≡ ws
none_first NoValues ws = refl
none_first (MoreValues v vs) ws = refl

pub nothing_first : (vs : Values) (r : Read Values) → r ≡ in_front vs 0 r
nothing_first vs (Ok ws) = ap Ok (sym (none_first vs ws))
nothing_first vs (Err refusal) = refl

-- the value behind is put into the row
one_more : (vs : Values) (j : ℕ) (v : Value) (ws : Values) → j < value_count vs → front vs j (MoreValues v ws) ≡ front (with_value vs j v) (suc j) ws
one_more NoValues j v ws h = absurd (omega (arith, h))
one_more (MoreValues w vs) zero v ws h = ap (MoreValues v) (sym (none_first vs ws))
one_more (MoreValues w vs) (suc j) v ws h = ap (MoreValues w) (one_more vs j v ws (omega (arith, h)))

pub front_more : (vs : Values) (j : ℕ) (v : Value) (r : Read Values) → j < value_count vs → in_front vs j (first_of_two (Ok v) r) ≡ in_front (with_value vs j v) (suc j) r
front_more vs j v (Ok ws) h = ap Ok (one_more vs j v ws h)
front_more vs j v (Err refusal) h = refl

-- all of them
pub front_all : (vs : Values) (n : ℕ) → n ≡ value_count vs → front vs n NoValues ≡ vs
front_all NoValues n h = refl
front_all (MoreValues v vs) zero h = absurd (omega (arith, h))
front_all (MoreValues v vs) (suc n) h = ap (MoreValues v) (front_all vs n (omega (arith, h)))

pub front_refused : (vs : Values) (n : ℕ) (r : Read Value) (rest : Read Values) (e : Error) → IsErrorOf r e → IsErrorOf (in_front vs n (first_of_two r rest)) e
front_refused vs n r rest e h = error_through (λ (x : Read Value). in_front vs n (first_of_two x rest)) (λ x. refl) r e h
