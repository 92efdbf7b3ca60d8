-- The pointers, the tag and the data of a target.
use Rattle.std.proofs.Common.{◌≡◌, ℕ, suc, ◌+◌, ◌*◌, ◌<◌, ◌≤◌, ◌⊎◌, inl, inr, sym, ap, subst, arith, List}
use Rattle.std.proofs.lemmas.Nat.{mul-le}
use Rattle.capnp_wire.specs.Locate.{list_words}
use Rattle.capnp_arena.specs.Shape.{Shape, NoShape, StructIn, ListIn, CompositeIn, IsWordWithin, IsPointerOf, IsTagOf, Points, end_of, word_count}

-- an element lies before the end of its list
pub element_end : (i n m : ℕ) → i < n → i * m + m ≤ n * m
element_end i n m h = let l : suc i * m ≤ n * m = mul-le (suc i) m n m (omega (arith, h)) (omega arith) in omega (arith, l)

pub pointer_within : (s : Shape) (j : ℕ) → IsPointerOf s j → IsWordWithin s j
pointer_within NoShape j h = h
pointer_within (StructIn a d p) j h = (omega (arith, h.0), omega (arith, h.1))
pointer_within (ListIn a size n) j h =
    let e : list_words 6 n ≡ n = omega arith in
    (h.1, subst (λ z. j < a + list_words z n) (sym h.0) (omega (arith, h.2, e)))
pointer_within (CompositeIn tag n d p) j h =
    let l : h.0 * (d + p) + (d + p) ≤ n * (d + p) = element_end h.0 n (d + p) h.1 in
    (omega (arith, h.2), omega (arith, h.3, l))

pub tag_within : (s : Shape) (j : ℕ) → IsTagOf s j → IsWordWithin s j
tag_within NoShape j h = h
tag_within (StructIn a d p) j h = absurd h
tag_within (ListIn a size n) j h = absurd h
tag_within (CompositeIn tag n d p) j h = (omega (arith, h), omega (arith, h))

-- the words of an element that are data are no pointers of another
pub apart : (tag i j d p k : ℕ) → tag + i * (d + p) ≤ k → k < tag + i * (d + p) + d → tag + j * (d + p) + d ≤ k → k < tag + j * (d + p) + d + p → ⊥
apart tag i j d p k a b c e = elim (order i j) [
  | inl l ↦ let m : i * (d + p) + (d + p) ≤ j * (d + p) = element_end i j (d + p) l in omega (arith, a, b, c, e, m)
  | inr r ↦ elim r [
    | inl q ↦ let m : i * (d + p) ≡ j * (d + p) = ap (λ x. x * (d + p)) q in omega (arith, a, b, c, e, m)
    | inr l ↦ let m : j * (d + p) + (d + p) ≤ i * (d + p) = element_end j i (d + p) l in omega (arith, a, b, c, e, m)
  ]
]
  where
    order : (i j : ℕ) → (i < j) ⊎ ((i ≡ j) ⊎ (j < i))
    order i j = grind arith

-- what a target's words lie after
pub after : (bytes : List ℕ) (w : ℕ) (s : Shape) (k : ℕ) → Points bytes w s → IsWordWithin s k → w < k
after bytes w NoShape k h i = absurd i
after bytes w (StructIn a d p) k h i = elim h [ inl z ↦ omega (arith, z.0, z.1, z.2, i.0, i.1) | inr z ↦ omega (arith, z.0, i.0) ]
after bytes w (ListIn a size n) k h i = omega (arith, h.0, i.0)
after bytes w (CompositeIn tag n d p) k h i = omega (arith, h.0, i.0)

-- and before
pub inside : (bytes : List ℕ) (w : ℕ) (s : Shape) (k : ℕ) → Points bytes w s → IsWordWithin s k → k < word_count bytes
inside bytes w NoShape k h i = absurd i
inside bytes w (StructIn a d p) k h i = elim h [ inl z ↦ omega (arith, z.0, z.1, z.2, i.0, i.1) | inr z ↦ omega (arith, z.5, i.1) ]
inside bytes w (ListIn a size n) k h i = omega (arith, h.4, i.1)
inside bytes w (CompositeIn tag n d p) k h i = omega (arith, h.6, i.1)

-- the pointer itself lies inside
pub itself_inside : (bytes : List ℕ) (w : ℕ) (s : Shape) → Points bytes w s → w < word_count bytes
itself_inside bytes w NoShape h = omega (arith, h.0)
itself_inside bytes w (StructIn a d p) h = elim h [ inl z ↦ omega (arith, z.3.0) | inr z ↦ omega (arith, z.6.0) ]
itself_inside bytes w (ListIn a size n) h = omega (arith, h.5.0)
itself_inside bytes w (CompositeIn tag n d p) h = omega (arith, h.7.0)

-- a tag is no pointer
pub tag_no_pointer : (s : Shape) (k : ℕ) → IsTagOf s k → IsPointerOf s k → ⊥
tag_no_pointer NoShape k t i = t
tag_no_pointer (StructIn a d p) k t i = t
tag_no_pointer (ListIn a size n) k t i = t
tag_no_pointer (CompositeIn tag n d p) k t i = omega (arith, t, i.2)

-- its words lie before its end
pub before_end : (s : Shape) (k : ℕ) → IsWordWithin s k → k < end_of s
before_end NoShape k i = absurd i
before_end (StructIn a d p) k i = i.1
before_end (ListIn a size n) k i = i.1
before_end (CompositeIn tag n d p) k i = i.1

-- which lies inside
pub end_inside : (bytes : List ℕ) (w : ℕ) (s : Shape) → Points bytes w s → end_of s ≤ word_count bytes
end_inside bytes w NoShape h = omega arith
end_inside bytes w (StructIn a d p) h = elim h [ inl z ↦ omega (arith, z.0, z.1, z.2, z.3.0) | inr z ↦ z.5 ]
end_inside bytes w (ListIn a size n) h = h.4
end_inside bytes w (CompositeIn tag n d p) h = h.6
