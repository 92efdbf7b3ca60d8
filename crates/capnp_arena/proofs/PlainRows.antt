-- Structs without pointers in a row: their bytes lie one after another.
use Rattle.std.proofs.Common.{◌≡◌, ℕ, zero, suc, ◌+◌, ◌*◌, refl, sym, ap, subst, ◌∙◌, arith, List, ◌++◌, take, drop}
use Rattle.std.proofs.Math.Seq.{take-add}
use Rattle.std.proofs.lemmas.List.{append-nil, append_assoc, drop-drop}
use Rattle.capnp_wire.specs.Encoding.{bytes_of, element_row, spelled_number, struct_word}
use Rattle.capnp_wire.specs.Place.{bytes_at, struct_at}
use Rattle.capnp_wire.specs.Tree.{Composite, Structs, Tree, struct_count, structs_from}
use Rattle.capnp_arena.specs.Steps.Copies.{ArePointerless}

-- two parts, one after the other
pub joined : (x : List ℕ) (a d n : ℕ) → bytes_at x a (8 * d) ++ bytes_at x (a + d) n ≡ bytes_at x a (8 * d + n)
joined x a d n =
    ap (λ k. bytes_at x a (8 * d) ++ take n (drop k x)) {x = 8 * (a + d)} {y = 8 * a + 8 * d} (omega arith)
    ∙ ap (λ z. bytes_at x a (8 * d) ++ take n z) (sym (drop-drop (8 * d) (8 * a) x))
    ∙ sym (take-add (8 * d) n (drop (8 * a) x))

module _ (g : ℕ → Tree) (x : List ℕ) (a d : ℕ) where
  plain_from : (i n : ℕ) → ArePointerless (bytes_at x (a + i * (d + 0)) (8 * (n * (d + 0)))) (d + 0) (structs_from (λ j. struct_at g x d 0 (a + j * (d + 0))) i n)
  plain_from i zero = record { own = λ gap. ap (bytes_at x (a + i * (d + 0))) {x = 0} {y = 8 * (0 * (d + 0))} (omega arith); below = refl; words = refl; faults = refl }
  plain_from i (suc n) =
      let rest = plain_from (suc i) n in
      let s : ℕ = a + i * (d + 0) in
      record {
        own = λ gap. ap (λ z. z ++ element_row (d + 0) (gap + 0) (structs_from (λ j. struct_at g x d 0 (a + j * (d + 0))) (suc i) n)) (append-nil (bytes_at x s (8 * d)))
            ∙ ap (λ z. bytes_at x s (8 * d) ++ z) (rest.own (gap + 0))
            ∙ ap (λ k. bytes_at x s (8 * d) ++ bytes_at x k (8 * (n * (d + 0)))) {x = a + suc i * (d + 0)} {y = s + d} (omega arith)
            ∙ joined x s d (8 * (n * (d + 0)))
            ∙ ap (bytes_at x s) {x = 8 * d + 8 * (n * (d + 0))} {y = 8 * (suc n * (d + 0))} (omega arith);
        below = rest.below;
        words = omega (arith, rest.words);
        faults = rest.faults;
      }

  -- whatever the size is called
  pub plain_row : (p n : ℕ) → p ≡ 0 → ArePointerless (bytes_at x a (8 * (n * (d + p)))) (d + p) (structs_from (λ j. struct_at g x d p (a + j * (d + p))) 0 n)
  plain_row p n e =
      subst (λ p. ArePointerless (bytes_at x a (8 * (n * (d + p)))) (d + p) (structs_from (λ j. struct_at g x d p (a + j * (d + p))) 0 n)) (sym e)
      (subst (λ k. ArePointerless (bytes_at x k (8 * (n * (d + 0)))) (d + 0) (structs_from (λ j. struct_at g x d 0 (a + j * (d + 0))) 0 n)) {x = a + 0 * (d + 0)} {y = a} (omega arith) (plain_from 0 n))

-- the list of them is its tag and these bytes
pub plain_list : (d p n : ℕ) (es : Structs) (row old one two : List ℕ) → struct_count es ≡ n → ArePointerless row (d + p) es → one ≡ old ++ spelled_number 8 (struct_word n d p) → two ≡ one ++ row → two ≡ old ++ bytes_of (Composite d p es)
plain_list d p n es row old one two c h f g =
    let tag : List ℕ = spelled_number 8 (struct_word (struct_count es) d p) in
    g
    ∙ ap (λ z. z ++ row) (f ∙ ap (λ k. old ++ spelled_number 8 (struct_word k d p)) (sym c))
    ∙ append_assoc old tag row
    ∙ ap (λ z. old ++ (tag ++ z)) (sym (h.own 0))
    ∙ ap (λ z. old ++ z) (sym (append-nil (tag ++ element_row (d + p) 0 es)))
    ∙ ap (λ z. old ++ ((tag ++ element_row (d + p) 0 es) ++ z)) (sym h.below)
