-- Whole words need no zeros after them.
use Rattle.std.proofs.Common.{◌≡◌, ℕ, ◌-◌, ◌*◌, List, ◌++◌, length, replicate, ap, ◌∙◌, arith}
use Rattle.std.proofs.lemmas.List.{append-nil}
use Rattle.capnp_wire.specs.Encoding.{padded_bytes}
use Rattle.capnp_wire.specs.Words.{byte_words}

pub padded_whole : (x : List ℕ) (k : ℕ) → length x ≡ 8 * k → padded_bytes x ≡ x
padded_whole x k e = ap (λ n. x ++ replicate n 0) {x = 8 * byte_words (length x) - length x} {y = 0} (omega (arith, e)) ∙ append-nil x
