-- A spliced list is read as both lists are, and its elements are theirs.
use Rattle.std.proofs.Common.{◌≡◌, ℕ, zero, suc, ◌+◌, ◌-◌, ◌*◌, ◌<◌, ◌^◌, refl, sym, ap, subst, ◌∙◌, Bool, true, false, cond, nat_lt, ◌==◌, arith, List, [], ◌∷◌, length, take, drop, get_or, replicate, ◌++◌, true≢false}
use Rattle.std.proofs.lemmas.Bool.Decides.{nat_tests}
use Rattle.std.proofs.lemmas.Bool.{lt-ltb, ltb-true}
use Rattle.std.proofs.lemmas.List.{get_or-take}
use Rattle.capnp_wire.specs.Edits.{append_trees, extended_struct, nulls}
use Rattle.capnp_wire.specs.ElementSizes.{size_of_width}
use Rattle.capnp_wire.specs.Elements.{reads_list}
use Rattle.capnp_wire.specs.Facts.Bits.{little_endian_same}
use Rattle.capnp_wire.specs.Facts.Indexed.{nth_tree_from, struct_count_from, tree_count_from}
use Rattle.capnp_wire.specs.Facts.Rows.{nth_struct_start}
use Rattle.capnp_wire.specs.Reading.{cut_pointer, element_bit, element_number, element_pointer, element_struct, list_length}
use Rattle.capnp_wire.specs.Slot.{little_endian, number_at}
use Rattle.capnp_wire.specs.Tree.{Tree, Null, Struct, Voids, Bits, Numbers, Pointers, Composite, FaultLeaf, StructTree, Structs, Trees, NoTrees, MoreTrees, nth_struct, nth_tree, only_tree, structs_from, tree_count, trees_from}
use Rattle.capnp_wire.specs.declared.size.ElementSize.{ElementSize}
use Rattle.capnp_wire.specs.declared.size.ElementSize.TheVariants as size_of
use Rattle.capnp_wire.specs.declared.size.StructSize.{StructSize}
use Rattle.capnp_splices.specs.Facts.Carried.{bit_by, length_of_bytes, number_by, number_small}
use Rattle.capnp_splices.specs.Facts.Inside.{picked_has}
use Rattle.capnp_splices.specs.Splices.{IsSplice, Splice, common_size, bit_of, bits_by, bytes_by, number_of, picked, pointer_of, spliced_count, spliced_as, spliced_list, spliced_numbers, spliced_pointers, spliced_size, spliced_structs, struct_of_size}

-- ---- zeros and nulls behind a struct ----

get_or_zeros : (xs : List ℕ) (n i : ℕ) → get_or (xs ++ replicate n 0) i 0 ≡ get_or xs i 0
get_or_zeros [] zero i = refl
get_or_zeros [] (suc n) zero = refl
get_or_zeros [] (suc n) (suc i) = get_or_zeros [] n i
get_or_zeros (x ∷ xs) n zero = refl
get_or_zeros (x ∷ xs) n (suc i) = get_or_zeros xs n i

number_then_zeros : (v : ℕ) (xs : List ℕ) (n : ℕ) → number_at v 0 (xs ++ replicate n 0) ≡ number_at v 0 xs
number_then_zeros v xs n = little_endian_same v (0 * v) (0 * v) (xs ++ replicate n 0) xs (λ r a. get_or_zeros xs n (0 * v + r))

-- the bytes of a number alone spell it
number_alone : (v : ℕ) (xs : List ℕ) → number_at v 0 (take v xs) ≡ little_endian (take v xs)
number_alone v xs = little_endian_same v (0 * v) 0 (take v xs) xs (λ r a. ap (λ i. get_or (take v xs) i 0) {x = 0 * v + r} {y = r} (omega arith) ∙ (get_or-take v xs r 0 a ∙ ap (λ i. get_or xs i 0) {x = r} {y = 0 + r} (omega arith)))

nth_null : (a n i : ℕ) → nth_tree (trees_from (λ _. Null) a n) i ≡ Null
nth_null a zero i = refl
nth_null a (suc n) zero = refl
nth_null a (suc n) (suc i) = nth_null (suc a) n i

nth_appended : (ts : Trees) (n i : ℕ) → nth_tree (append_trees ts (nulls n)) i ≡ nth_tree ts i
nth_appended NoTrees n i = nth_null 0 n i
nth_appended (MoreTrees t ts) n zero = refl
nth_appended (MoreTrees t ts) n (suc i) = nth_appended ts n i

cut_same : (t : Tree) → cut_pointer 1 t ≡ t
cut_same Null = refl
cut_same t = refl

only_first : (ps : Trees) (i : ℕ) → nth_tree (only_tree ps i) 0 ≡ nth_tree ps i
only_first NoTrees i = refl
only_first (MoreTrees t ts) zero = refl
only_first (MoreTrees t ts) (suc i) = only_first ts i

-- ---- the elements of structs that were made ----

struct_at : (size : StructSize) (s : Splice) (i : ℕ) → i < spliced_count s → element_struct (spliced_structs size s) i ≡ struct_of_size size (picked s i)
struct_at size s i h = nth_struct_start (λ k. struct_of_size size (picked s k)) (spliced_count s) i h

-- ---- numbers ----

-- the lists that are read as numbers of a width
pub data NumberList (v : ℕ) : Tree → Type 0 where
  plain : (bytes : List ℕ) → NumberList v (Numbers v bytes)
  wide : (d p : ℕ) (es : Structs) → 0 < d → NumberList v (Composite d p es)

-- the number of an element is that of its struct
number_of_struct : (v : ℕ) (t : Tree) (size : StructSize) (j : ℕ) → NumberList v t → number_at v 0 (extended_struct size (element_struct t j)).bytes ≡ element_number v t j
number_of_struct v t size j (plain bytes) =
    number_then_zeros v (take v (drop (j * v) bytes)) _ ∙ number_alone v (drop (j * v) bytes)
number_of_struct v t size j (wide d p es h) = number_then_zeros v (nth_struct es j).bytes _

pub record NumbersKept (asked : ElementSize) (v : ℕ) (s : Splice) (t : Tree) : Type 0 where
  pub reads : reads_list asked t ≡ true
  pub length : list_length t ≡ spliced_count s
  pub number : (i : ℕ) → i < spliced_count s → element_number v t i ≡ number_of v (picked s i)

-- numbers alone, and those that became structs
numbers_alone : (asked : ElementSize) (v : ℕ) (s : Splice) → IsSplice s → ((bytes : List ℕ) → reads_list asked (Numbers v bytes) ≡ true) → list_length (spliced_numbers v s) ≡ spliced_count s → NumbersKept asked v s (spliced_numbers v s)
numbers_alone asked v s h reads count = record {
  reads = reads (bytes_by v (λ i. number_of v (picked s i)) 0 (spliced_count s));
  length = count;
  number = λ i b. number_by v (λ k. number_of v (picked s k)) (spliced_count s) i b
      (picked_has (λ e. number_of v e < 256 ^ v) s i h.within b (λ j c. number_small v s.old j h.old) (λ j c. number_small v s.added j h.added));
}

numbers_in_structs : (asked : ElementSize) (v : ℕ) (s : Splice) (size : StructSize) → IsSplice s → NumberList v s.old → NumberList v s.added → ((d p : ℕ) (es : Structs) → 0 < d → reads_list asked (Composite d p es) ≡ true) → 0 < size.data_words
    → NumbersKept asked v s (spliced_structs size s)
numbers_in_structs asked v s size h old added reads some = record {
  reads = reads size.data_words size.pointers (structs_from (λ i. struct_of_size size (picked s i)) 0 (spliced_count s)) some;
  length = struct_count_from (λ i. struct_of_size size (picked s i)) 0 (spliced_count s);
  number = λ i b. ap (λ (x : StructTree). number_at v 0 x.bytes) (struct_at size s i b)
      ∙ picked_has (λ e. number_at v 0 (struct_of_size size e).bytes ≡ number_of v e) s i h.within b (λ j c. number_of_struct v s.old size j old) (λ j c. number_of_struct v s.added size j added);
}

-- structs are made large enough for what has numbers at its start
left_some : (size : StructSize) (d p : ℕ) (es : Structs) (t : Tree) (a r : ℕ) → 0 < d → 0 < (spliced_size size (record { old = Composite d p es; added = t; at = a; removed = r })).data_words
left_some size d p es t a r h = omega (arith, h)

right_some : (size : StructSize) (d p : ℕ) (es : Structs) (t : Tree) (a r : ℕ) → 0 < d → 0 < (spliced_size size (record { old = t; added = Composite d p es; at = a; removed = r })).data_words
right_some size d p es t a r h = omega (arith, h)

module _ (v : ℕ) (z : ElementSize)
    (alike : common_size z (size_of_width v) (size_of_width v) ≡ z)
    (left : common_size z size_of.InlineComposite (size_of_width v) ≡ size_of.InlineComposite)
    (right : common_size z (size_of_width v) size_of.InlineComposite ≡ size_of.InlineComposite)
    (both : common_size z size_of.InlineComposite size_of.InlineComposite ≡ size_of.InlineComposite)
    (numbers : (size : StructSize) (s : Splice) → spliced_as z size s ≡ spliced_numbers v s)
    (count : (s : Splice) → list_length (spliced_numbers v s) ≡ spliced_count s)
    (reads : (bytes : List ℕ) → reads_list z (Numbers v bytes) ≡ true)
    (reads_wide : (d p : ℕ) (es : Structs) → 0 < d → reads_list z (Composite d p es) ≡ true) where
  numbers_kept : (size : StructSize) (t u : Tree) (a r : ℕ) → NumberList v t → NumberList v u → IsSplice (record { old = t; added = u; at = a; removed = r })
      → NumbersKept z v (record { old = t; added = u; at = a; removed = r }) (spliced_list z size (record { old = t; added = u; at = a; removed = r }))
  numbers_kept size t u a r (plain xs) (plain ys) h =
      let s : Splice = record { old = Numbers v xs; added = Numbers v ys; at = a; removed = r } in
      subst (λ k. NumbersKept z v s (spliced_as k size s)) (sym alike)
      (subst (NumbersKept z v s) (sym (numbers size s)) (numbers_alone z v s h reads (count s)))
  numbers_kept size t u a r (wide d p es more) (plain ys) h =
      let s : Splice = record { old = Composite d p es; added = Numbers v ys; at = a; removed = r } in
      subst (λ k. NumbersKept z v s (spliced_as k size s)) (sym left)
      (numbers_in_structs z v s (spliced_size size s) h (wide d p es more) (plain ys) reads_wide (left_some size d p es (Numbers v ys) a r more))
  numbers_kept size t u a r (plain xs) (wide d p es more) h =
      let s : Splice = record { old = Numbers v xs; added = Composite d p es; at = a; removed = r } in
      subst (λ k. NumbersKept z v s (spliced_as k size s)) (sym right)
      (numbers_in_structs z v s (spliced_size size s) h (plain xs) (wide d p es more) reads_wide (right_some size d p es (Numbers v xs) a r more))
  numbers_kept size t u a r (wide d p es more) (wide d' p' fs more') h =
      let s : Splice = record { old = Composite d p es; added = Composite d' p' fs; at = a; removed = r } in
      subst (λ k. NumbersKept z v s (spliced_as k size s)) (sym both)
      (numbers_in_structs z v s (spliced_size size s) h (wide d p es more) (wide d' p' fs more') reads_wide (left_some size d p es (Composite d' p' fs) a r more))

not_read : {A : Type 0} → false ≡ true → A
not_read h = absurd (true≢false (sym h))

some_words : (d : ℕ) → nat_lt 0 d ≡ true → 0 < d
some_words d h = ltb-true 0 d h

number_list : (v w : ℕ) (bytes : List ℕ) → w ≡ v → NumberList v (Numbers w bytes)
number_list v w bytes e = subst (λ k. NumberList v (Numbers k bytes)) (sym e) (plain bytes)

same_width : (w v : ℕ) → (w == v) ≡ true → w ≡ v
same_width w v h = grind (arith, nat_tests)

byte_list : (t : Tree) → reads_list size_of.Byte t ≡ true → NumberList 1 t
byte_list (Numbers w bytes) h = number_list 1 w bytes (same_width w 1 h)
byte_list (Composite d p es) h = wide d p es (some_words d h)
byte_list Null h = not_read h
byte_list (Struct bytes ps) h = not_read h
byte_list (Voids n) h = not_read h
byte_list (Bits bs) h = not_read h
byte_list (Pointers ps) h = not_read h
byte_list (FaultLeaf k) h = not_read h

two_list : (t : Tree) → reads_list size_of.TwoBytes t ≡ true → NumberList 2 t
two_list (Numbers w bytes) h = number_list 2 w bytes (same_width w 2 h)
two_list (Composite d p es) h = wide d p es (some_words d h)
two_list Null h = not_read h
two_list (Struct bytes ps) h = not_read h
two_list (Voids n) h = not_read h
two_list (Bits bs) h = not_read h
two_list (Pointers ps) h = not_read h
two_list (FaultLeaf k) h = not_read h

four_list : (t : Tree) → reads_list size_of.FourBytes t ≡ true → NumberList 4 t
four_list (Numbers w bytes) h = number_list 4 w bytes (same_width w 4 h)
four_list (Composite d p es) h = wide d p es (some_words d h)
four_list Null h = not_read h
four_list (Struct bytes ps) h = not_read h
four_list (Voids n) h = not_read h
four_list (Bits bs) h = not_read h
four_list (Pointers ps) h = not_read h
four_list (FaultLeaf k) h = not_read h

eight_list : (t : Tree) → reads_list size_of.EightBytes t ≡ true → NumberList 8 t
eight_list (Numbers w bytes) h = number_list 8 w bytes (same_width w 8 h)
eight_list (Composite d p es) h = wide d p es (some_words d h)
eight_list Null h = not_read h
eight_list (Struct bytes ps) h = not_read h
eight_list (Voids n) h = not_read h
eight_list (Bits bs) h = not_read h
eight_list (Pointers ps) h = not_read h
eight_list (FaultLeaf k) h = not_read h

pub bytes_kept : (size : StructSize) (s : Splice) → IsSplice s → reads_list size_of.Byte s.old ≡ true → reads_list size_of.Byte s.added ≡ true → NumbersKept size_of.Byte 1 s (spliced_list size_of.Byte size s)
bytes_kept size s h old added =
    numbers_kept 1 size_of.Byte refl refl refl refl (λ _ _. refl) (λ x. omega (arith, length_of_bytes 1 (λ i. number_of 1 (picked x i)) 0 (spliced_count x))) (λ _. refl) (λ d p es some. lt-ltb 0 d some)
    size s.old s.added s.at s.removed (byte_list s.old old) (byte_list s.added added) h

pub twos_kept : (size : StructSize) (s : Splice) → IsSplice s → reads_list size_of.TwoBytes s.old ≡ true → reads_list size_of.TwoBytes s.added ≡ true → NumbersKept size_of.TwoBytes 2 s (spliced_list size_of.TwoBytes size s)
twos_kept size s h old added =
    numbers_kept 2 size_of.TwoBytes refl refl refl refl (λ _ _. refl) (λ x. omega (arith, length_of_bytes 2 (λ i. number_of 2 (picked x i)) 0 (spliced_count x))) (λ _. refl) (λ d p es some. lt-ltb 0 d some)
    size s.old s.added s.at s.removed (two_list s.old old) (two_list s.added added) h

pub fours_kept : (size : StructSize) (s : Splice) → IsSplice s → reads_list size_of.FourBytes s.old ≡ true → reads_list size_of.FourBytes s.added ≡ true → NumbersKept size_of.FourBytes 4 s (spliced_list size_of.FourBytes size s)
fours_kept size s h old added =
    numbers_kept 4 size_of.FourBytes refl refl refl refl (λ _ _. refl) (λ x. omega (arith, length_of_bytes 4 (λ i. number_of 4 (picked x i)) 0 (spliced_count x))) (λ _. refl) (λ d p es some. lt-ltb 0 d some)
    size s.old s.added s.at s.removed (four_list s.old old) (four_list s.added added) h

pub eights_kept : (size : StructSize) (s : Splice) → IsSplice s → reads_list size_of.EightBytes s.old ≡ true → reads_list size_of.EightBytes s.added ≡ true → NumbersKept size_of.EightBytes 8 s (spliced_list size_of.EightBytes size s)
eights_kept size s h old added =
    numbers_kept 8 size_of.EightBytes refl refl refl refl (λ _ _. refl) (λ x. omega (arith, length_of_bytes 8 (λ i. number_of 8 (picked x i)) 0 (spliced_count x))) (λ _. refl) (λ d p es some. lt-ltb 0 d some)
    size s.old s.added s.at s.removed (eight_list s.old old) (eight_list s.added added) h

-- ---- pointers ----

-- the lists that are read as pointers
pub data PointerList : Tree → Type 0 where
  pointers : (ps : Trees) → PointerList (Pointers ps)
  in_structs : (d p : ℕ) (es : Structs) → 0 < p → PointerList (Composite d p es)

pub record PointersKept (s : Splice) (t : Tree) : Type 0 where
  pub reads : reads_list size_of.Pointer t ≡ true
  pub length : list_length t ≡ spliced_count s
  pub pointer : (i : ℕ) → i < spliced_count s → element_pointer t i 1 ≡ pointer_of (picked s i)

pointer_of_struct : (t : Tree) (size : StructSize) (j : ℕ) → PointerList t → cut_pointer 1 (nth_tree (extended_struct size (element_struct t j)).pointers 0) ≡ element_pointer t j 1
pointer_of_struct t size j (pointers ps) =
    cut_same (nth_tree (append_trees (only_tree ps j) (nulls (size.pointers - tree_count (only_tree ps j)))) 0)
    ∙ (nth_appended (only_tree ps j) (size.pointers - tree_count (only_tree ps j)) 0 ∙ only_first ps j)
pointer_of_struct t size j (in_structs d p es h) =
    ap (cut_pointer 1) (nth_appended (nth_struct es j).pointers (size.pointers - tree_count (nth_struct es j).pointers) 0)

pointers_alone : (s : Splice) → PointersKept s (spliced_pointers s)
pointers_alone s = record {
  reads = refl;
  length = tree_count_from (λ i. pointer_of (picked s i)) 0 (spliced_count s);
  pointer = λ i b. nth_tree_from (λ k. pointer_of (picked s k)) 0 (spliced_count s) i b ∙ ap (λ k. pointer_of (picked s k)) {x = 0 + i} {y = i} (omega arith);
}

pointers_in_structs : (s : Splice) (size : StructSize) → IsSplice s → PointerList s.old → PointerList s.added → 0 < size.pointers → PointersKept s (spliced_structs size s)
pointers_in_structs s size h old added some = record {
  reads = lt-ltb 0 size.pointers some;
  length = struct_count_from (λ i. struct_of_size size (picked s i)) 0 (spliced_count s);
  pointer = λ i b. ap (λ (x : StructTree). cut_pointer 1 (nth_tree x.pointers 0)) (struct_at size s i b)
      ∙ picked_has (λ e. cut_pointer 1 (nth_tree (struct_of_size size e).pointers 0) ≡ pointer_of e) s i h.within b (λ j c. pointer_of_struct s.old size j old) (λ j c. pointer_of_struct s.added size j added);
}

kept_pointers : (size : StructSize) (t u : Tree) (a r : ℕ) → PointerList t → PointerList u → IsSplice (record { old = t; added = u; at = a; removed = r })
    → PointersKept (record { old = t; added = u; at = a; removed = r }) (spliced_list size_of.Pointer size (record { old = t; added = u; at = a; removed = r }))
kept_pointers size t u a r (pointers ps) (pointers qs) h = pointers_alone (record { old = Pointers ps; added = Pointers qs; at = a; removed = r })
kept_pointers size t u a r (in_structs d p es more) (pointers qs) h =
    let s : Splice = record { old = Composite d p es; added = Pointers qs; at = a; removed = r } in
    pointers_in_structs s (spliced_size size s) h (in_structs d p es more) (pointers qs) (omega (arith, more))
kept_pointers size t u a r (pointers ps) (in_structs d p es more) h =
    let s : Splice = record { old = Pointers ps; added = Composite d p es; at = a; removed = r } in
    pointers_in_structs s (spliced_size size s) h (pointers ps) (in_structs d p es more) (omega (arith, more))
kept_pointers size t u a r (in_structs d p es more) (in_structs d' p' fs more') h =
    let s : Splice = record { old = Composite d p es; added = Composite d' p' fs; at = a; removed = r } in
    pointers_in_structs s (spliced_size size s) h (in_structs d p es more) (in_structs d' p' fs more') (omega (arith, more))

pointer_list : (t : Tree) → reads_list size_of.Pointer t ≡ true → PointerList t
pointer_list (Pointers ps) h = pointers ps
pointer_list (Composite d p es) h = in_structs d p es (ltb-true 0 p h)
pointer_list Null h = not_read h
pointer_list (Struct bytes ps) h = not_read h
pointer_list (Voids n) h = not_read h
pointer_list (Bits bs) h = not_read h
pointer_list (Numbers w bytes) h = not_read h
pointer_list (FaultLeaf k) h = not_read h

pub pointers_kept : (size : StructSize) (s : Splice) → IsSplice s → reads_list size_of.Pointer s.old ≡ true → reads_list size_of.Pointer s.added ≡ true → PointersKept s (spliced_list size_of.Pointer size s)
pointers_kept size s h old added = kept_pointers size s.old s.added s.at s.removed (pointer_list s.old old) (pointer_list s.added added) h

-- ---- bits ----

pub data BitList : Tree → Type 0 where
  bits : (bs : List Bool) → BitList (Bits bs)

pub record BitsKept (s : Splice) (t : Tree) : Type 0 where
  pub reads : reads_list size_of.Bit t ≡ true
  pub length : list_length t ≡ spliced_count s
  pub bit : (i : ℕ) → i < spliced_count s → element_bit t i ≡ bit_of (picked s i)

bit_list : (t : Tree) → reads_list size_of.Bit t ≡ true → BitList t
bit_list (Bits bs) h = bits bs
bit_list Null h = not_read h
bit_list (Struct bytes ps) h = not_read h
bit_list (Voids n) h = not_read h
bit_list (Numbers w bytes) h = not_read h
bit_list (Pointers ps) h = not_read h
bit_list (Composite d p es) h = not_read h
bit_list (FaultLeaf k) h = not_read h

length_of_bits : (f : ℕ → Bool) (a n : ℕ) → length (bits_by f a n) ≡ n
length_of_bits f a zero = refl
length_of_bits f a (suc n) = ap suc (length_of_bits f (suc a) n)

kept_bits : (size : StructSize) (t u : Tree) (a r : ℕ) → BitList t → BitList u → BitsKept (record { old = t; added = u; at = a; removed = r }) (spliced_list size_of.Bit size (record { old = t; added = u; at = a; removed = r }))
kept_bits size t u a r (bits bs) (bits cs) =
    let s : Splice = record { old = Bits bs; added = Bits cs; at = a; removed = r } in
    record {
      reads = refl;
      length = length_of_bits (λ i. bit_of (picked s i)) 0 (spliced_count s);
      bit = λ i b. bit_by (λ k. bit_of (picked s k)) 0 (spliced_count s) i b ∙ ap (λ k. bit_of (picked s k)) {x = 0 + i} {y = i} (omega arith);
    }

pub bits_kept : (size : StructSize) (s : Splice) → reads_list size_of.Bit s.old ≡ true → reads_list size_of.Bit s.added ≡ true → BitsKept s (spliced_list size_of.Bit size s)
bits_kept size s old added = kept_bits size s.old s.added s.at s.removed (bit_list s.old old) (bit_list s.added added)

-- ---- structs ----

pub record StructsKept (size : StructSize) (s : Splice) (t : Tree) : Type 0 where
  pub reads : reads_list size_of.InlineComposite t ≡ true
  pub length : list_length t ≡ spliced_count s
  pub struct : (i : ℕ) → i < spliced_count s → element_struct t i ≡ struct_of_size (spliced_size size s) (picked s i)

either_way : (b : Bool) (x : ElementSize) → cond b x x ≡ x
either_way true x = refl
either_way false x = refl

pub structs_kept : (size : StructSize) (s : Splice) → StructsKept size s (spliced_list size_of.InlineComposite size s)
structs_kept size s =
    subst (λ k. StructsKept size s (spliced_as k size s)) (sym (either_way _ size_of.InlineComposite)) (record {
      reads = refl;
      length = struct_count_from (λ i. struct_of_size (spliced_size size s) (picked s i)) 0 (spliced_count s);
      struct = struct_at (spliced_size size s) s;
    })

-- ---- nothing ----

pub record VoidsKept (s : Splice) (t : Tree) : Type 0 where
  pub reads : reads_list size_of.Void t ≡ true
  pub length : list_length t ≡ spliced_count s

kept_voids : (b : Bool) (size : StructSize) (s : Splice) → VoidsKept s (spliced_as (cond b size_of.Void size_of.InlineComposite) size s)
kept_voids true size s = record { reads = refl; length = refl }
kept_voids false size s = record { reads = refl; length = struct_count_from (λ i. struct_of_size (spliced_size size s) (picked s i)) 0 (spliced_count s) }

pub voids_kept : (size : StructSize) (s : Splice) → VoidsKept s (spliced_list size_of.Void size s)
voids_kept size s = kept_voids _ size s
