-- The keys of a list of pairs, where one is added.
use Rattle.std.proofs.Common.{ℕ, ◌≡◌, refl, List, [], ◌∷◌, ◌++◌, Bool, true, false, cond, ◌||◌, ap, sym, ◌∙◌}
use Rattle.std.specs.List.{list_any}
use Rattle.std.specs.HashSet.{HashSet, IsUnchanged, Updates}
use Rattle.capnp_differences.specs.declared.differences.Pair.{Pair}
use Rattle.capnp_differences.specs.Closing.{is_pair, listed_pairs}
use Rattle.capnp_differences.specs.Keys.{AreKeysOf, same_key}

last : (t : Bool) → t || false ≡ cond t true false
last true = refl
last false = refl

over : (u t v : Bool) → u || cond t true v ≡ cond t true (u || v)
over true true v = refl
over true false v = refl
over false true v = refl
over false false v = refl

listed_more : (xs : List Pair) (p : Pair) (a b : ℕ) → listed_pairs (xs ++ (p ∷ [])) a b ≡ cond (is_pair a b p) true (listed_pairs xs a b)
listed_more [] p a b = last (is_pair a b p)
listed_more (x ∷ xs) p a b = ap (λ (t : Bool). is_pair a b x || t) (listed_more xs p a b) ∙ over (is_pair a b x) (is_pair a b p) (listed_pairs xs a b)

module _ {S : Type 0} (xs : List Pair) (old new : HashSet (ℕ × ℕ) S) (h : AreKeysOf xs old) where
  pub keys_more : (p : Pair) → Updates same_key old new (p.older, p.newer) true → AreKeysOf (xs ++ (p ∷ [])) new
  keys_more p u a b = u.0 (a, b) ∙ ap (λ (t : Bool). cond (same_key (p.older, p.newer) (a, b)) true t) (h a b) ∙ sym (listed_more xs p a b)

  pub keys_same : IsUnchanged old new → AreKeysOf xs new
  keys_same e a b = ap (λ (ks : List (ℕ × ℕ)). list_any (same_key (a, b)) ks) e ∙ h a b
