-- What is read so far, before what is left.
use Rattle.std.proofs.Common.{◌≡◌, ℕ, List, ◌++◌, Ok, Err, refl, ap, sym, append_assoc}
use Rattle.capnp_words.specs.Reads.{Read, read_as}

pub read_as_joined : (xs ys : List ℕ) (r : Read (List ℕ)) → read_as (λ rest. xs ++ rest) (read_as (λ rest. ys ++ rest) r) ≡ read_as (λ rest. (xs ++ ys) ++ rest) r
read_as_joined xs ys (Ok zs) = ap Ok (sym (append_assoc xs ys zs))
read_as_joined xs ys (Err place) = refl
