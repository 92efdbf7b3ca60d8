-- Strings of data, a pair of digits or four characters after another.
use Rattle.std.proofs.Common.{ℕ, ◌+◌, ◌-◌, ◌*◌, ◌<◌, ◌≤◌, ◌≡◌, refl, List, [], ◌∷◌, ◌++◌, Bool, true, false, ◌&&◌, cond, Option, Some, None, length, get_or, take, drop, append_assoc, arith, ap, sym, ◌∙◌}
use Rattle.std.specs.Char.{is_ascii_hexdigit}
use Rattle.capnp_json_text.specs.Contents.{hex_value}
use Rattle.capnp_from_json.specs.Encodings.{base64_decoded, base64_value, before_bytes, hex_decoded, hex_pair, three_bytes}

pub more_bytes : (front xs : List ℕ) (rest : Option (List ℕ)) → before_bytes front (before_bytes xs rest) ≡ before_bytes (front ++ xs) rest
more_bytes front xs None = refl
more_bytes front xs (Some ys) = ap Some (sym (append_assoc front xs ys))

all_left : (xs : List ℕ) (k : ℕ) → k ≡ length xs → take k xs ≡ xs
all_left xs k e = ap (λ m. take m xs) e ∙ all xs
  where
    all : (ys : List ℕ) → take (length ys) ys ≡ ys
    all [] = refl
    all (y ∷ ys) = ap (λ l. y ∷ l) (all ys)

pair_is : (q : Bool) (a b byte : ℕ) (rest : Option (List ℕ)) → cond q (Some (16 * hex_value a + hex_value b)) None ≡ Some byte → hex_pair q a b rest ≡ before_bytes (byte ∷ []) rest
pair_is true a b byte rest e = ap (λ n. before_bytes (n ∷ []) rest) (same e)
  where
    same : {m n : ℕ} → Some m ≡ Some n → m ≡ n
    same e = cc
pair_is false a b byte rest e = absurd (none e)
  where
    none : {n : ℕ} → None ≡ Some n → ⊥
    none e = cc

-- two digits are a byte before what follows
pub next_pair : (bs front out : List ℕ) (n byte : ℕ) (whole : Option (List ℕ)) → 2 ≤ length bs → n ≡ length bs → whole ≡ before_bytes front (hex_decoded bs)
    → cond (is_ascii_hexdigit (get_or bs 0 0) && is_ascii_hexdigit (get_or bs 1 0)) (Some (16 * hex_value (get_or bs 0 0) + hex_value (get_or bs 1 0))) None ≡ Some byte
    → front ++ byte ∷ [] ≡ out → whole ≡ before_bytes out (hex_decoded (take (n - 2) (drop 2 bs)))
next_pair [] front out n byte whole two size w e o = absurd (omega (arith, two))
next_pair (a ∷ []) front out n byte whole two size w e o = absurd (omega (arith, two))
next_pair (a ∷ b ∷ more) front out n byte whole two size w e o =
    w ∙ (ap (before_bytes front) (pair_is (is_ascii_hexdigit a && is_ascii_hexdigit b) a b byte (hex_decoded more) e)
    ∙ (more_bytes front (byte ∷ []) (hex_decoded more)
    ∙ (ap (λ l. before_bytes l (hex_decoded more)) o
    ∙ ap (λ l. before_bytes out (hex_decoded l)) (sym (all_left more (n - 2) (omega (arith, size)))))))

three_more : (p q r s : Option ℕ) (xs front : List ℕ) (rest : Option (List ℕ)) → Some xs ≡ before_bytes front (three_bytes p q r s (Some [])) → before_bytes front (three_bytes p q r s rest) ≡ before_bytes xs rest
three_more (Some p) (Some q) (Some r) (Some s) xs front rest e = more_bytes front _ rest ∙ ap (λ l. before_bytes l rest) (sym (same e))
  where
    same : {ys zs : List ℕ} → Some ys ≡ Some zs → ys ≡ zs
    same e = cc
three_more p q r s xs front rest e = absurd (none e)
  where
    none : {ys : List ℕ} → Some ys ≡ None → ⊥
    none e = cc

-- three bytes are before what follows, where that is not the end
pub next_group : (bs front xs : List ℕ) (n : ℕ) (whole : Option (List ℕ)) (is : Bool) → 4 ≤ length bs → n ≡ length bs → 0 < length (take (n - 4) (drop 4 bs)) → is ≡ true → whole ≡ before_bytes front (base64_decoded bs)
    → cond is (Some xs) None ≡ before_bytes front (three_bytes (base64_value (get_or bs 0 0)) (base64_value (get_or bs 1 0)) (base64_value (get_or bs 2 0)) (base64_value (get_or bs 3 0)) (Some []))
    → whole ≡ before_bytes xs (base64_decoded (take (n - 4) (drop 4 bs)))
next_group [] front xs n whole is many size some holds w e = absurd (omega (arith, many))
next_group (a ∷ []) front xs n whole is many size some holds w e = absurd (omega (arith, many))
next_group (a ∷ b ∷ []) front xs n whole is many size some holds w e = absurd (omega (arith, many))
next_group (a ∷ b ∷ c ∷ []) front xs n whole is many size some holds w e = absurd (omega (arith, many))
next_group (a ∷ b ∷ c ∷ d ∷ []) front xs n whole is many size some holds w e = absurd (omega (arith, some, ap length (all_left [] (n - 4) (omega (arith, size)))))
next_group (a ∷ b ∷ c ∷ d ∷ x ∷ more) front xs n whole is many size some holds w e =
    w ∙ (three_more (base64_value a) (base64_value b) (base64_value c) (base64_value d) xs front (base64_decoded (x ∷ more)) (ap (λ q. cond q (Some xs) None) (sym holds) ∙ e)
    ∙ ap (λ l. before_bytes xs (base64_decoded l)) (sym (all_left (x ∷ more) (n - 4) (omega (arith, size)))))

three_none : (p q r s : Option ℕ) (front : List ℕ) (rest : Option (List ℕ)) → None ≡ before_bytes front (three_bytes p q r s (Some [])) → None ≡ before_bytes front (three_bytes p q r s rest)
three_none (Some p) (Some q) (Some r) (Some s) front rest e = absurd (some e)
  where
    some : {ys : List ℕ} → None ≡ Some ys → ⊥
    some e = cc
three_none p q r s front rest e = refl

-- what is no group is refused
pub no_group : (bs front xs : List ℕ) (n : ℕ) (whole : Option (List ℕ)) (is : Bool) → 4 ≤ length bs → n ≡ length bs → 0 < length (take (n - 4) (drop 4 bs)) → is ≡ false → whole ≡ before_bytes front (base64_decoded bs)
    → cond is (Some xs) None ≡ before_bytes front (three_bytes (base64_value (get_or bs 0 0)) (base64_value (get_or bs 1 0)) (base64_value (get_or bs 2 0)) (base64_value (get_or bs 3 0)) (Some []))
    → None ≡ whole
no_group [] front xs n whole is many size some fails w e = absurd (omega (arith, many))
no_group (a ∷ []) front xs n whole is many size some fails w e = absurd (omega (arith, many))
no_group (a ∷ b ∷ []) front xs n whole is many size some fails w e = absurd (omega (arith, many))
no_group (a ∷ b ∷ c ∷ []) front xs n whole is many size some fails w e = absurd (omega (arith, many))
no_group (a ∷ b ∷ c ∷ d ∷ []) front xs n whole is many size some fails w e = absurd (omega (arith, some, ap length (all_left [] (n - 4) (omega (arith, size)))))
no_group (a ∷ b ∷ c ∷ d ∷ x ∷ more) front xs n whole is many size some fails w e =
    three_none (base64_value a) (base64_value b) (base64_value c) (base64_value d) front (base64_decoded (x ∷ more)) (ap (λ q. cond q (Some xs) None) (sym fails) ∙ e) ∙ sym w
