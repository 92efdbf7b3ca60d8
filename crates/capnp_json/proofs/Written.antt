-- What is written of the bytes of a string.
use Rattle.std.proofs.Common.{ℕ, zero, suc, ◌+◌, ◌<◌, ◌≡◌, refl, List, [], ◌∷◌, ◌++◌, Bool, true, false, not, ◌||◌, ◌==◌, cond, nat_lt, drop, get_or, length, take, Err, ap, add-one, arith, sym, subst, ◌∙◌, flat_map}
use Rattle.std.specs.Str.{IsUtf8, is_utf8}
use Rattle.std.proofs.lemmas.Str.{IsUtf8-from_is_utf8, is_utf8-from_IsUtf8}
use Rattle.capnp_json_text.specs.Writing.{byte_written, control_written, string_written}
use Rattle.capnp_json.specs.Leaves.{text_json}
use Rattle.capnp_json.specs.Pieces.{Out, said}
use Rattle.capnp_json.specs.Steps.Puts.{Gives, IsPut, Leads}
use Rattle.capnp_json.specs.Steps.Strings.{is_plain}
use Rattle.capnp_json.specs.declared.error.JsonError.TheVariants.{TextNotUtf8}
use Rattle.capnp_json.specs.declared.output.Output.{Output}
use Rattle.capnp_json.proofs.Puts.{nothing_put, then_bytes}

plain_written : (b : ℕ) → is_plain b ≡ true → byte_written b ≡ b ∷ []
unfolding byte_written
plain_written b h = go (nat_lt b 32) (b == 34) (b == 92) h
  where
    go : (r p q : Bool) → cond r false (cond p false (not q)) ≡ true → cond (p || q) (92 ∷ b ∷ []) (cond r (control_written b) (b ∷ [])) ≡ b ∷ []
    go false false false e = refl
    go false false true e = cc
    go false true q e = cc
    go true p q e = cc

more_plain : (bs : List ℕ) (i : ℕ) → i < length bs → byte_written (get_or bs i 0) ≡ get_or bs i 0 ∷ [] → take i bs ++ flat_map byte_written (drop i bs) ≡ take (suc i) bs ++ flat_map byte_written (drop (suc i) bs)
more_plain [] i lt e = absurd (omega (arith, lt))
more_plain (b ∷ bs) zero lt e = ap (λ (w : List ℕ). w ++ flat_map byte_written bs) e
more_plain (b ∷ bs) (suc i) lt e = ap (λ (xs : List ℕ). b ∷ xs) (more_plain bs i (omega (arith, lt)) e)

pub plain_next : (bs : List ℕ) (i : ℕ) → i < length bs → true ≡ is_plain (get_or bs i 0) → flat_map byte_written bs ≡ take i bs ++ flat_map byte_written (drop i bs) →
    flat_map byte_written bs ≡ take (i + 1) bs ++ flat_map byte_written (drop (i + 1) bs)
plain_next bs i lt e h = h ∙ (more_plain bs i lt (plain_written (get_or bs i 0) (sym e)) ∙ ap (λ (n : ℕ). take n bs ++ flat_map byte_written (drop n bs)) (sym (add-one i)))

-- the first byte, and those behind it
pub first_written : (bs : List ℕ) → 0 < length bs → flat_map byte_written bs ≡ byte_written (get_or bs 0 0) ++ flat_map byte_written (drop 1 bs)
first_written [] h = absurd (omega (arith, h))
first_written (b ∷ bs) h = refl

-- a part of what is to be written was put, or could not be
pub written_then : (old mid : Output) (xs part left : List ℕ) → flat_map byte_written xs ≡ part ++ flat_map byte_written left → IsPut old (said part) mid → Leads old (said (flat_map byte_written xs)) mid (said (flat_map byte_written left))
written_then old mid xs part left e h r k = subst (λ (z : List ℕ). Gives old (said z) r) (sym e) (then_bytes old mid part (flat_map byte_written left) h r k)

-- ---- texts ----

abbrev text_by : List ℕ → Bool → Out
text_by bs q = cond q (said (string_written bs)) (Err TextNotUtf8)

pub text_leads : (out : Output) (bs : List ℕ) → IsUtf8 bs → Leads out (text_json bs) out (said (string_written bs))
text_leads out bs h r k = subst (λ (q : Bool). Gives out (text_by bs q) r) (sym (is_utf8-from_IsUtf8 bs h)) k

pub no_text : (bs : List ℕ) → (IsUtf8 bs → ⊥) → text_json bs ≡ Err TextNotUtf8
no_text bs h = go (is_utf8 bs) refl
  where
    go : (q : Bool) → is_utf8 bs ≡ q → text_by bs q ≡ Err TextNotUtf8
    go true e = absurd (h (IsUtf8-from_is_utf8 bs e))
    go false e = refl

pub nothing_left : (out : Output) (xs : List ℕ) → length xs < 1 → IsPut out (said (flat_map byte_written xs)) out
nothing_left out [] h = nothing_put out
nothing_left out (x ∷ xs) h = absurd (omega (arith, h))
