-- What a call that enters a list answers, by the refusal that is due.
use Rattle.std.proofs.Common.{Option, Some, None, Result, Ok, Err, IfErr, IfOk, IsOk, OnOk, ◌≡◌, refl, sym, ap, ◌∙◌, Bool, true, false}
use Rattle.capnp_wire.specs.Tree.{Tree, Voids, Bits, Numbers, Pointers, Composite}
use Rattle.capnp_wire.specs.Reading.{as_list, list_if, reads_bits, reads_numbers, reads_pointers, reads_structs, reads_voids}
use Rattle.capnp_wire.specs.Edits.{IsDueRefusal}
use Rattle.capnp_wire.specs.Elements.{or_empty}
use Rattle.capnp_wire.specs.Defaults.{error_of, list_refusal}
use Rattle.capnp_arena.specs.Listed.{list_tree_answered, listed_tree}
use Rattle.capnp_arena.specs.declared.list_reads.ListTarget.{ListTarget}
use Rattle.capnp_wire.specs.declared.size.ElementSize.{ElementSize}
use Rattle.capnp_device.specs.declared.error.Error.{Error}
use Rattle.capnp_device.specs.declared.error.ErrorKind.{ErrorKind}

list_read : (reads : Bool) (t x : Tree) → Ok x ≡ list_if reads t 1 → x ≡ t
list_read true t x e = cc
list_read false t x e = cc

-- a list that is entered is as it stands, or the one of nothing
entered : (size : ElementSize) (t x : Tree) → Ok x ≡ as_list size t 1 → x ≡ or_empty size t
entered size (Voids n) x e = list_read (reads_voids size) (Voids n) x e
entered size (Bits bs) x e = list_read (reads_bits size) (Bits bs) x e
entered size (Numbers w bytes) x e = list_read (reads_numbers size w) (Numbers w bytes) x e
entered size (Pointers ps) x e = list_read (reads_pointers size) (Pointers ps) x e
entered size (Composite d p es) x e = list_read (reads_structs size d p) (Composite d p es) x e
entered size t x e = cc

pub entered_reads : (size : ElementSize) (t : Tree) (r : Result ListTarget Error) → list_tree_answered t r ≡ as_list size t 1 → IfOk r (λ l. listed_tree t l ≡ or_empty size t)
entered_reads size t (Ok l) e = entered size t (listed_tree t l) e
entered_reads size t (Err error) e = tt {0}

pub entered_within : (size : ElementSize) (t : Tree) (r : Result ListTarget Error) → list_tree_answered t r ≡ as_list size t 1 → OnOk r (list_refusal size t ≡ None)
entered_within size t (Ok l) e = sym (ap error_of e)
entered_within size t (Err error) e = tt {0}

due_is : (error : Error) (due : Option ErrorKind) → Some error.kind ≡ due → IsDueRefusal error due
due_is error due e = (λ _. sym e, λ kind h. let same : Some error.kind ≡ Some kind = e ∙ h in cc)

pub entered_refused : (size : ElementSize) (t : Tree) (r : Result ListTarget Error) → list_tree_answered t r ≡ as_list size t 1 → IfErr r (λ error. IsDueRefusal error (list_refusal size t))
entered_refused size t (Ok l) e = tt {0}
entered_refused size t (Err error) e = due_is error (list_refusal size t) (ap error_of e)

pub entered_succeeds : (size : ElementSize) (t : Tree) (r : Result ListTarget Error) → list_tree_answered t r ≡ as_list size t 1 → list_refusal size t ≡ None → IsOk r
entered_succeeds size t (Ok l) e h = refl
entered_succeeds size t (Err error) e h =
    let refused : Some error.kind ≡ None = ap error_of e ∙ h in
    cc
