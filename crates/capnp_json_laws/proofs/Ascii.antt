-- What is written is UTF-8.
use Rattle.std.proofs.Common.{◌≡◌, ℕ, zero, suc, ◌<◌, ◌≤◌, ◌==◌, ◌||◌, Bool, true, false, cond, ◌&&◌, nat_lt, List, [], ◌∷◌, ◌++◌, flat_map, length, get_or, IsUtf8, inl, inr, refl, sym, ap₂, subst, arith, append-nil, ltb-true}
use Rattle.std.proofs.lemmas.Bool.{and_parts, cases_lt, cases_eq, ne_eqb, le-ltb}
use Rattle.std.proofs.lemmas.Grind.{flat_map-append}
use Rattle.std.proofs.lemmas.Str.{IsUtf8-append, IsUtf8-nil, IsUtf8-encode, encode_ascii, inside_one}
use lib.Utf8.{scalar, scalars, encode, encodes, low_scalar}
use Rattle.capnp_json_text.specs.Writing.{byte_written, control_written, string_written}

pub ascii_then : (x : ℕ) (xs : List ℕ) → x < 128 → IsUtf8 xs → IsUtf8 (x ∷ xs)
ascii_then x xs small u = IsUtf8-append (x ∷ []) xs (subst IsUtf8 (encode_ascii x small) (IsUtf8-encode x (low_scalar x (omega arith)))) u

abbrev pub are_ascii : List ℕ → Bool
are_ascii [] = true
are_ascii (x ∷ xs) = nat_lt x 128 && are_ascii xs

pub ascii_utf8 : (xs : List ℕ) → are_ascii xs ≡ true → IsUtf8 xs
ascii_utf8 [] e = IsUtf8-nil
ascii_utf8 (x ∷ xs) e = let p = and_parts _ _ e in ascii_then x xs (ltb-true _ _ p.0) (ascii_utf8 xs p.1)

-- what is written of the bytes below n is ASCII
abbrev written_below : ℕ → Bool
written_below zero = true
written_below (suc n) = are_ascii (byte_written n) && written_below n

below_written : (n : ℕ) → written_below n ≡ true → (x : ℕ) → x < n → are_ascii (byte_written x) ≡ true
below_written zero e x h = absurd (omega arith)
below_written (suc n) e x h =
    let p = and_parts _ _ e in
    elim (cases_eq x n) [ inl same ↦ rw same p.0 | inr other ↦ below_written n p.1 x (omega arith) ]

all_ascii : written_below 128 ≡ true
unfolding byte_written
all_ascii = refl

high_by : (b : ℕ) (t u v : Bool) → t ≡ false → u ≡ false → v ≡ false → cond (t || u) (92 ∷ b ∷ []) (cond v (control_written b) (b ∷ [])) ≡ b ∷ []
high_by b true u v e f g = let no : ⊥ = cc in absurd no
high_by b false true v e f g = let no : ⊥ = cc in absurd no
high_by b false false true e f g = let no : ⊥ = cc in absurd no
high_by b false false false e f g = refl

high_plain : (b : ℕ) → 128 ≤ b → byte_written b ≡ b ∷ []
unfolding byte_written
high_plain b h = high_by b (b == 34) (b == 92) (nat_lt b 32) (ne_eqb b 34 (λ e. omega arith)) (ne_eqb b 92 (λ e. omega arith)) (le-ltb b 32 (omega arith))

high_written : (xs : List ℕ) → ((k : ℕ) → k < length xs → 128 ≤ get_or xs k 0) → flat_map byte_written xs ≡ xs
high_written [] h = refl
high_written (x ∷ xs) h =
    let high : 128 ≤ x = h 0 (omega arith) in
    ap₂ (λ (a b : List ℕ). a ++ b) (high_plain x high) (high_written xs (λ k below. h (suc k) (omega arith)))

one_char : (c : ℕ) → scalar c ≡ true → IsUtf8 (flat_map byte_written (encode c))
one_char c ok = elim (cases_lt c 128) [
  | inl small ↦ rw (encode_ascii c small, append-nil) (ascii_utf8 _ (below_written 128 all_ascii c small))
  | inr big ↦
      let high : (k : ℕ) → k < length (encode c) → 128 ≤ get_or (encode c) k 0 = λ k below. elim (cases_lt (get_or (encode c) k 0) 128) [
        | inl low ↦ absurd (omega (arith, inside_one c [] (encode c) k (sym (append-nil _)) below low))
        | inr h ↦ h
      ] in
      subst IsUtf8 (sym (high_written (encode c) high)) (IsUtf8-encode c ok)
]

all_chars : (cs : List ℕ) → scalars cs ≡ true → IsUtf8 (flat_map byte_written (encodes cs))
all_chars [] e = IsUtf8-nil
all_chars (c ∷ cs) e =
    let p = and_parts _ _ e in
    subst IsUtf8 (sym (flat_map-append byte_written (encode c) (encodes cs))) (IsUtf8-append _ _ (one_char c p.0) (all_chars cs p.1))

pub written_utf8 : (bs : List ℕ) → IsUtf8 bs → IsUtf8 (string_written bs)
written_utf8 bs u = ascii_then 34 _ (omega arith) (IsUtf8-append _ _ (subst (λ l. IsUtf8 (flat_map byte_written l)) u.1.1 (all_chars u.0 u.1.0)) (ascii_utf8 (34 ∷ []) refl))
