-- A list that is read as elements of a size is read so, by a reader with levels left.
use Rattle.std.proofs.Common.{◌≡◌, ◌==◌, ◌+◌, ◌-◌, ℕ, arith, Bool, true, false, cond, Result, Ok, Err, IfOk, IsOk, ap, refl, sym, ◌∙◌}
use Rattle.std.proofs.lemmas.Bool.{true≢false}
use Rattle.capnp_device.specs.declared.error.Error.{Error}
use Rattle.capnp_device.specs.declared.error.ErrorKind.{ErrorKind}
use Rattle.capnp_device.specs.declared.error.ErrorKind.TheVariants.{TooDeep, WrongElementSize}
use Rattle.capnp_wire.specs.Elements.{or_empty, reads_list}
use Rattle.capnp_wire.specs.Reading.{as_list, element_levels, empty_list, list_if, reads_bits, reads_numbers, reads_pointers, reads_structs, reads_voids}
use Rattle.capnp_wire.specs.Standing.{list_levels, list_of, list_read}
use Rattle.capnp_wire.specs.Tree as tree
use Rattle.capnp_wire.specs.Tree.{Tree}
use Rattle.capnp_wire.specs.declared.list_reader.ListReader.{ListReader}
use Rattle.capnp_wire.specs.declared.size.ElementSize.{ElementSize}

with_left : (levels : ℕ) (reads : Bool) (x : Tree) → (levels == 0) ≡ false → reads ≡ true → list_if reads x levels ≡ Ok x
with_left levels reads x left h =
    ap (λ (q : Bool). cond q (Err TooDeep) (cond reads (Ok x) (Err WrongElementSize))) left ∙ ap (λ (q : Bool). cond q (Ok x) (Err WrongElementSize)) h

pub as_listed : (size : ElementSize) (x : Tree) (levels : ℕ) → (levels == 0) ≡ false → reads_list size x ≡ true → as_list size x levels ≡ Ok x
as_listed size tree.Null levels left h = absurd (true≢false (sym h))
as_listed size (tree.Struct bytes ps) levels left h = absurd (true≢false (sym h))
as_listed size (tree.FaultLeaf k) levels left h = absurd (true≢false (sym h))
as_listed size (tree.Voids n) levels left h = with_left levels (reads_voids size) (tree.Voids n) left h
as_listed size (tree.Bits bs) levels left h = with_left levels (reads_bits size) (tree.Bits bs) left h
as_listed size (tree.Numbers w bytes) levels left h = with_left levels (reads_numbers size w) (tree.Numbers w bytes) left h
as_listed size (tree.Pointers ps) levels left h = with_left levels (reads_pointers size) (tree.Pointers ps) left h
as_listed size (tree.Composite d p es) levels left h = with_left levels (reads_structs size d p) (tree.Composite d p es) left h

-- a null is one of nothing
pub as_inner : (size : ElementSize) (x : Tree) (levels : ℕ) → (levels == 0) ≡ false → reads_list size (or_empty size x) ≡ true → as_list size x levels ≡ Ok (or_empty size x)
as_inner size tree.Null levels left h = ap (λ (q : Bool). cond q (Err TooDeep) (Ok (empty_list size))) left
as_inner size (tree.Struct bytes ps) levels left h = as_listed size (tree.Struct bytes ps) levels left h
as_inner size (tree.Voids n) levels left h = as_listed size (tree.Voids n) levels left h
as_inner size (tree.Bits bs) levels left h = as_listed size (tree.Bits bs) levels left h
as_inner size (tree.Numbers w bytes) levels left h = as_listed size (tree.Numbers w bytes) levels left h
as_inner size (tree.Pointers ps) levels left h = as_listed size (tree.Pointers ps) levels left h
as_inner size (tree.Composite d p es) levels left h = as_listed size (tree.Composite d p es) levels left h
as_inner size (tree.FaultLeaf k) levels left h = as_listed size (tree.FaultLeaf k) levels left h

-- a list with 63 levels leaves some for the lists in it
pub inner_left : (x : Tree) → (element_levels x 63 == 0) ≡ false
inner_left (tree.Composite d p es) = refl
inner_left x = refl

-- ---- what was answered ----

abbrev good : Tree → Result Tree ErrorKind
good x = Ok x

abbrev bad : ErrorKind → Result Tree ErrorKind
bad k = Err k

same_ok : {x y : Tree} → good x ≡ good y → x ≡ y
same_ok e = cc

no_error : {k : ErrorKind} {x : Tree} → bad k ≡ good x → ⊥
no_error e = cc

pub listed_ok : (r : Result ListReader Error) (x : Tree) → list_read r ≡ Ok x → IfOk r (λ l. list_of l ≡ x)
listed_ok (Ok l) x h = same_ok h
listed_ok (Err e) x h = tt {0}

pub is_listed : (r : Result ListReader Error) (x : Tree) → list_read r ≡ Ok x → IsOk r
is_listed (Ok l) x h = refl
is_listed (Err e) x h = absurd (no_error h)

pub read_there : (r : Result ListReader Error) (size : ElementSize) (t x y : Tree) (n levels : ℕ) → list_read r ≡ as_list size t n → t ≡ x → n ≡ levels → as_list size x levels ≡ Ok y → list_read r ≡ Ok y
read_there r size t x y n levels h tree_is levels_are k = h ∙ (ap (λ (z : Tree). as_list size z n) tree_is ∙ (ap (as_list size x) levels_are ∙ k))

pub levels_read : (r : Result ListReader Error) (n m : ℕ) → IfOk r (λ l. list_levels l + 1 ≡ n) → n ≡ m → IfOk r (λ l. list_levels l ≡ m - 1)
levels_read (Ok l) n m h e = omega (arith, h, e)
levels_read (Err e) n m h k = tt {0}
