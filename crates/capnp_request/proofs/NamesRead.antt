-- A name that is UTF-8 stands as it is.
use Rattle.std.proofs.Common.{ℕ, ◌≡◌, refl, Bool, true, false, List, Ok, Err}
use Rattle.std.proofs.lemmas.Str.{IsUtf8-from_is_utf8, is_utf8-from_IsUtf8}
use Rattle.std.specs.Str.{IsUtf8, is_utf8}
use Rattle.capnp_device.specs.declared.error.ErrorKind.TheVariants.{NameNotUtf8}
use Rattle.capnp_request.specs.Conversion.{converted_name}
use Rattle.capnp_request.specs.Terms.{Said}

pub utf8_name : (bytes : List ℕ) → IsUtf8 bytes → converted_name bytes ≡ Ok bytes
utf8_name bytes utf8 = go (is_utf8 bytes) (is_utf8-from_IsUtf8 bytes utf8)
  where
    go : (q : Bool) → q ≡ true → (elim q as (λ _. Said (List ℕ)) [ true ↦ Ok bytes | false ↦ Err NameNotUtf8 ]) ≡ Ok bytes
    go true e = refl
    go false e = cc

pub broken_name : (bytes : List ℕ) → (IsUtf8 bytes → ⊥) → converted_name bytes ≡ Err NameNotUtf8
broken_name bytes broken = go (is_utf8 bytes) refl
  where
    go : (q : Bool) → is_utf8 bytes ≡ q → (elim q as (λ _. Said (List ℕ)) [ true ↦ Ok bytes | false ↦ Err NameNotUtf8 ]) ≡ Err NameNotUtf8
    go true e = absurd (broken (IsUtf8-from_is_utf8 bytes e))
    go false e = refl
