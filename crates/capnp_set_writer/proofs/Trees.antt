-- Results of calls, and rows that are filled one by one.
use Rattle.std.proofs.Common.{All, Result, Ok, Err, IfErr, IfOk, OnOk, map, ◌≡◌, ◌⊎◌, inl, inr, ℕ, zero, suc, ◌+◌, ◌*◌, ◌^◌, ◌<◌, ◌≤◌, refl, ap, sym, subst, ◌∙◌, arith, List, [], ◌∷◌, length, get_or}
use Rattle.std.proofs.lemmas.List.{length-map}
use borrow.Author.Count.{below_more}
use Rattle.capnp_device.specs.declared.error.Error.{Error}
use Rattle.capnp_device.specs.declared.error.ErrorKind.{ErrorKind}
use Rattle.capnp_device.specs.declared.error.ErrorKind.TheVariants.{OutOfMemory, SizePastFormat, UnknownKind}
use Rattle.capnp_wire.specs.Tree.{Composite, MoreStructs, MoreTrees, Null, Pointers, StructTree, Tree, nth_struct, struct_count, structs_from, tree_count, trees_from}
use Rattle.capnp_wire.specs.Edits.{IsRoomRefusal, nulls, with_tree, zero_struct, zero_structs}
use Rattle.capnp_wire.specs.Elements.{HasPointer, HasStruct, with_pointer_element, with_struct, with_struct_element}
use Rattle.capnp_wire.specs.Reading.{element_struct}
use Rattle.capnp_wire.specs.declared.size.StructSize.{StructSize}
use Rattle.capnp_set_writer.specs.Limits.{ListFits}
use Rattle.capnp_set_writer.specs.Trees.{struct_list_tree, structs_of, trees_of, zeros}
use Rattle.capnp_set_writer.specs.Writes.{IsWriteRefusal}
use Rattle.capnp_set_writer.specs.Steps.Writes.{IsPartWriteRefusal, blank, filled_rows, filled_trees}

pub on_ok : {A E : Type 0} {P Q : Type 0} (r : Result A E) → (P → Q) → OnOk r P → OnOk r Q
on_ok (Ok a) f p = f p
on_ok (Err e) f p = p

pub both_ok : {A E : Type 0} {P Q R : Type 0} (r : Result A E) → (P → Q → R) → OnOk r P → OnOk r Q → OnOk r R
both_ok (Ok a) f p q = f p q
both_ok (Err e) f p q = p

pub three_ok : {A E : Type 0} {P Q R S : Type 0} (r : Result A E) → (P → Q → R → S) → OnOk r P → OnOk r Q → OnOk r R → OnOk r S
three_ok (Ok a) f p q s = f p q s
three_ok (Err e) f p q s = p

-- what there is no room for is refused as a part is
pub room_refused : (e : Error) (past : Type 0) → IsRoomRefusal e past → IsWriteRefusal e.kind
room_refused e past h = λ memory size. absurd (memory (h.0 size))

pub if_err : {A E : Type 0} {P Q : E → Type 0} (r : Result A E) → ((e : E) → P e → Q e) → IfErr r P → IfErr r Q
if_err (Ok a) f p = p
if_err (Err e) f p = f e p

-- what refuses a part refuses what it is a part of
pub refused_up : {K K' F F' : Type 0} (kind : ErrorKind) → IsPartWriteRefusal K F kind → (K' → K) → (F' → F) → IsPartWriteRefusal K' F' kind
refused_up kind h f g = (h.0, (λ unknown k. h.1 unknown (f k)), (λ past k. h.2 past (g k)))

pub no_memory : (kind : ErrorKind) → kind ≡ OutOfMemory → kind ≡ UnknownKind → ⊥
no_memory kind a b = cc

pub no_memory_either : (kind : ErrorKind) → kind ≡ OutOfMemory → kind ≡ SizePastFormat → ⊥
no_memory_either kind a b = cc

no_size : (kind : ErrorKind) → kind ≡ SizePastFormat → kind ≡ UnknownKind → ⊥
no_size kind a b = cc

-- what doesn't fit
pub size_refused : {K F : Type 0} (kind : ErrorKind) → kind ≡ SizePastFormat → (F → ⊥) → IsPartWriteRefusal K F kind
size_refused kind e unfit = ((λ memory size. absurd (size e)), (λ unknown k. no_size kind e unknown), (λ past k. unfit k))

-- what there is no room for
pub room_part_refused : {K F : Type 0} (e : Error) (past : Type 0) → IsRoomRefusal e past → (past → F → ⊥) → IsPartWriteRefusal K F e.kind
room_part_refused e past h unfit = (
  room_refused e past h,
  (λ unknown k. no_memory e.kind (h.0 (λ size. no_size e.kind size unknown)) unknown),
  (λ size k. unfit (h.1 size) k),
)

map_at : {A B : Type 0} (f : A → B) (xs : List A) (i : ℕ) (x : A) → get_or (map f xs) i (f x) ≡ f (get_or xs i x)
map_at f [] i x = refl
map_at f (y ∷ xs) zero x = refl
map_at f (y ∷ xs) (suc i) x = map_at f xs i x

-- what there is no memory for is refused as a part is
pub whole_refused : (kind : ErrorKind) → kind ≡ OutOfMemory → IsWriteRefusal kind
whole_refused kind h = λ memory size. absurd (memory h)

-- what is so of each result that is Ok
pub always_ok : {A E P : Type 0} (r : Result A E) → P → OnOk r P
always_ok (Ok a) p = p
always_ok (Err e) p = tt

pub on_if_ok : {A E Q : Type 0} {P : A → Type 0} (r : Result A E) → ((a : A) → P a → Q) → IfOk r P → OnOk r Q
on_if_ok (Ok a) f p = f a p
on_if_ok (Err e) f p = tt

-- one of a row is what each of them is
pub one_of_all : {P S : Type 0} (Q : S → Type 0) (seen : P → S) (parts : List P) (i : ℕ) (part : P) → i < length parts → part ≡ get_or parts i part → All Q (map seen parts) → Q (seen part)
one_of_all Q seen parts i part inside is h =
    subst Q (map_at seen parts i part ∙ ap seen (sym is)) (h i (seen part) (omega (arith, inside, length-map parts seen)))

-- a list of parts, by the count and the size that it was made of
module _ {P S : Type 0} (seen : P → S) (parts : List P) (count : ℕ) (size : StructSize) (d p : ℕ) (is : count ≡ length parts) (a : size.data_words ≡ d) (b : size.pointers ≡ p) where
  same_count : count ≡ length (map seen parts)
  same_count = is ∙ sym (length-map parts seen)

  same_words : count * (size.data_words + size.pointers) ≡ length (map seen parts) * (d + p)
  same_words = ap (λ n. n * (size.data_words + size.pointers)) same_count ∙ (ap (λ n. length (map seen parts) * (n + size.pointers)) a ∙ ap (λ n. length (map seen parts) * (d + n)) b)

  pub parts_fit : {Fits : S → Type 0} → count < 2 ^ 29 → count * (size.data_words + size.pointers) < 2 ^ 29 → All Fits (map seen parts) → ListFits (d + p) Fits (map seen parts)
  parts_fit few small each = record { count = (subst (λ n. n < 2 ^ 29) same_count few, subst (λ n. n < 2 ^ 29) same_words small); each = each }

  pub long_list : {Fits : S → Type 0} → (2 ^ 29 ≤ count) ⊎ (2 ^ 29 ≤ count * (size.data_words + size.pointers)) → ListFits (d + p) Fits (map seen parts) → ⊥
  long_list (inl many) f = omega (arith, subst (λ n. 2 ^ 29 ≤ n) same_count many, f.count.0)
  long_list (inr long) f = omega (arith, subst (λ n. 2 ^ 29 ≤ n) same_words long, f.count.1)

pub if_ok : {A E : Type 0} {P Q : A → Type 0} (r : Result A E) → ((a : A) → P a → Q a) → IfOk r P → IfOk r Q
if_ok (Ok a) f p = f a p
if_ok (Err e) f p = p

-- ---- rows of structs ----

module _ (z : StructTree) where
  pub filled_none : (ss : List StructTree) (first : ℕ) → structs_from (λ _. z) first (length ss) ≡ filled_rows z ss 0
  filled_none [] first = refl
  filled_none (s ∷ ss) first = ap (MoreStructs z.bytes z.pointers) (filled_none ss (suc first))

  pub filled_all : (ss : List StructTree) → filled_rows z ss (length ss) ≡ structs_of ss
  filled_all [] = refl
  filled_all (s ∷ ss) = ap (MoreStructs s.bytes s.pointers) (filled_all ss)

  pub filled_count : (ss : List StructTree) (i : ℕ) → struct_count (filled_rows z ss i) ≡ length ss
  filled_count [] i = refl
  filled_count (s ∷ ss) zero = ap suc (filled_count ss 0)
  filled_count (s ∷ ss) (suc i) = ap suc (filled_count ss i)

  pub filled_next : (ss : List StructTree) (i : ℕ) → i < length ss → nth_struct (filled_rows z ss i) i ≡ z
  filled_next [] i h = absurd (omega arith)
  filled_next (s ∷ ss) zero h = refl
  filled_next (s ∷ ss) (suc i) h = filled_next ss i (omega (arith, h))

  pub filled_more : (ss : List StructTree) (i : ℕ) (d : StructTree) → i < length ss → with_struct (filled_rows z ss i) i (get_or ss i d) ≡ filled_rows z ss (suc i)
  filled_more [] i d h = absurd (omega arith)
  filled_more (s ∷ ss) zero d h = refl
  filled_more (s ∷ ss) (suc i) d h = ap (MoreStructs s.bytes s.pointers) (filled_more ss i d (omega (arith, h)))

-- a new list of structs
pub new_filled : (d p : ℕ) (size : StructSize) (count : ℕ) (ss : List StructTree) (t : Tree) → size.data_words ≡ d → size.pointers ≡ p → count ≡ length ss → t ≡ zero_structs size count → t ≡ Composite d p (filled_rows (blank d p) ss 0)
new_filled d p size count ss t a b n e =
    e ∙ (ap (λ k. Composite size.data_words size.pointers (structs_from (λ _. zero_struct size) 0 k)) n
    ∙ (ap (λ k. Composite k size.pointers (structs_from (λ _. record { bytes = zeros (8 * k); pointers = nulls size.pointers }) 0 (length ss))) a
    ∙ (ap (λ k. Composite d k (structs_from (λ _. record { bytes = zeros (8 * d); pointers = nulls k }) 0 (length ss))) b
    ∙ ap (Composite d p) (filled_none (blank d p) ss 0))))

same_there : {A : Type 0} (xs : List A) (i : ℕ) (d d' : A) → i < length xs → get_or xs i d ≡ get_or xs i d'
same_there [] i d d' h = absurd (omega arith)
same_there (x ∷ xs) zero d d' h = refl
same_there (x ∷ xs) (suc i) d d' h = same_there xs i d d' (omega (arith, h))

module _ {P S : Type 0} (tree_of : S → StructTree) (seen : P → S) (d p : ℕ) (parts : List P) (i : ℕ) (inside : i < length parts) (old : Tree) where
  abbrev trees : List StructTree
  trees = map tree_of (map seen parts)

  enough : i < length trees
  enough = omega (arith, inside, length-map (map seen parts) tree_of, length-map parts seen)

  module _ (filled_so : old ≡ Composite d p (filled_rows (blank d p) trees i)) where
    pub element_there : HasStruct old i
    element_there = subst (λ t. HasStruct t i) (sym filled_so) (omega (arith, enough, filled_count (blank d p) trees i))

    pub element_blank : element_struct old i ≡ blank d p
    element_blank = ap (λ t. element_struct t i) filled_so ∙ filled_next (blank d p) trees i enough

    pub element_filled : (part : P) (new : Tree) → part ≡ get_or parts i part → new ≡ with_struct_element i (tree_of (seen part)) old → new ≡ Composite d p (filled_rows (blank d p) trees (i + 1))
    element_filled part new is e =
        let here : get_or trees i (tree_of (seen part)) ≡ tree_of (seen part) = map_at tree_of (map seen parts) i (seen part) ∙ (ap tree_of (map_at seen parts i part) ∙ ap (λ q. tree_of (seen q)) (sym is)) in
        let one : suc i ≡ i + 1 = omega arith in
        e ∙ (ap (with_struct_element i (tree_of (seen part))) filled_so
        ∙ (ap (λ s. Composite d p (with_struct (filled_rows (blank d p) trees i) i s)) (sym here)
        ∙ (ap (Composite d p) (filled_more (blank d p) trees i (tree_of (seen part)) enough) ∙ ap (λ k. Composite d p (filled_rows (blank d p) trees k)) one)))

-- once the last is filled
pub whole_filled : {P S : Type 0} (tree_of : S → StructTree) (seen : P → S) (d p : ℕ) (parts : List P) (i : ℕ) (t : Tree) → i ≡ length parts → t ≡ Composite d p (filled_rows (blank d p) (map tree_of (map seen parts)) i) → t ≡ struct_list_tree d p (map tree_of (map seen parts))
whole_filled tree_of seen d p parts i t last e =
    let all : i ≡ length (map tree_of (map seen parts)) = omega (arith, last, length-map (map seen parts) tree_of, length-map parts seen) in
    e ∙ (ap (λ k. Composite d p (filled_rows (blank d p) (map tree_of (map seen parts)) k)) all ∙ ap (Composite d p) (filled_all (blank d p) (map tree_of (map seen parts))))

-- one more of a row is kept
pub kept_more : {P S : Type 0} (Kept : S → Type 0) (seen : P → S) (parts : List P) (i : ℕ) (part : P) → i < length parts → part ≡ get_or parts i part → Kept (seen part) →
    ((k : ℕ) → k < i → (d : S) → Kept (get_or (map seen parts) k d)) → (k : ℕ) → k < i + 1 → (d : S) → Kept (get_or (map seen parts) k d)
kept_more {S = S} Kept seen parts i part inside is here below =
    below_more (λ k. (d : S) → Kept (get_or (map seen parts) k d)) i below
    (λ d. subst Kept (sym (same_there (map seen parts) i d (seen part) (omega (arith, inside, length-map parts seen)) ∙ (map_at seen parts i part ∙ ap seen (sym is)))) here)

-- ---- rows of trees ----

pub trees_none : (ts : List Tree) (first : ℕ) → trees_from (λ _. Null) first (length ts) ≡ filled_trees ts 0
trees_none [] first = refl
trees_none (t ∷ ts) first = ap (MoreTrees Null) (trees_none ts (suc first))

pub trees_all : (ts : List Tree) → filled_trees ts (length ts) ≡ trees_of ts
trees_all [] = refl
trees_all (t ∷ ts) = ap (MoreTrees t) (trees_all ts)

pub trees_count : (ts : List Tree) (i : ℕ) → tree_count (filled_trees ts i) ≡ length ts
trees_count [] i = refl
trees_count (t ∷ ts) zero = ap suc (trees_count ts 0)
trees_count (t ∷ ts) (suc i) = ap suc (trees_count ts i)

pub trees_more : (ts : List Tree) (i : ℕ) (d : Tree) → i < length ts → with_tree (filled_trees ts i) i (get_or ts i d) ≡ filled_trees ts (suc i)
trees_more [] i d h = absurd (omega arith)
trees_more (t ∷ ts) zero d h = refl
trees_more (t ∷ ts) (suc i) d h = ap (MoreTrees t) (trees_more ts i d (omega (arith, h)))

-- a new list of pointers
pub new_rows : (count : ℕ) (ts : List Tree) (t : Tree) → count ≡ length ts → t ≡ Pointers (nulls count) → t ≡ Pointers (filled_trees ts 0)
new_rows count ts t n e = e ∙ (ap (λ k. Pointers (nulls k)) n ∙ ap Pointers (trees_none ts 0))

module _ {P S : Type 0} (tree_of : S → Tree) (seen : P → S) (parts : List P) (i : ℕ) (old : Tree) (filled_so : old ≡ Pointers (filled_trees (map tree_of (map seen parts)) i)) where
  abbrev row_trees : List Tree
  row_trees = map tree_of (map seen parts)

  pub row_there : i < length parts → HasPointer old i
  row_there inside = subst (λ t. HasPointer t i) (sym filled_so) (omega (arith, inside, length-map (map seen parts) tree_of, length-map parts seen, trees_count row_trees i))

  pub row_filled : i < length parts → (part : P) (new : Tree) → part ≡ get_or parts i part → new ≡ with_pointer_element i (tree_of (seen part)) old → new ≡ Pointers (filled_trees row_trees (i + 1))
  row_filled inside part new is e =
      let here : get_or row_trees i (tree_of (seen part)) ≡ tree_of (seen part) = map_at tree_of (map seen parts) i (seen part) ∙ (ap tree_of (map_at seen parts i part) ∙ ap (λ q. tree_of (seen q)) (sym is)) in
      let one : suc i ≡ i + 1 = omega arith in
      let enough : i < length row_trees = omega (arith, inside, length-map (map seen parts) tree_of, length-map parts seen) in
      e ∙ (ap (with_pointer_element i (tree_of (seen part))) filled_so
      ∙ (ap (λ t. Pointers (with_tree (filled_trees row_trees i) i t)) (sym here)
      ∙ (ap Pointers (trees_more row_trees i (tree_of (seen part)) enough) ∙ ap (λ k. Pointers (filled_trees row_trees k)) one)))

  pub whole_rows : i ≡ length parts → old ≡ Pointers (trees_of row_trees)
  whole_rows last =
      let all : i ≡ length row_trees = omega (arith, last, length-map (map seen parts) tree_of, length-map parts seen) in
      filled_so ∙ (ap (λ k. Pointers (filled_trees row_trees k)) all ∙ ap Pointers (trees_all row_trees))
