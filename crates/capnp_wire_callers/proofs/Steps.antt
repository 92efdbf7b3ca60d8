-- One step of a path.
use Rattle.std.proofs.Common.{Err, ◌≡◌, ℕ, suc, ◌-◌, ◌<◌, List, length, drop, get_or, sym, ap, ◌∙◌}
use Rattle.std.proofs.Math.Seq.{drop-cons}
use Rattle.capnp_wire.specs.Tree.{Tree, StructTree, nth_tree}
use Rattle.capnp_wire.specs.Reading.{as_struct}
use Rattle.capnp_device.specs.declared.error.ErrorKind.{ErrorKind}
use Rattle.capnp_wire_callers.specs.Path.{path_number, path_text, on_read}

-- a refused step refuses the number at the end of the path
pub number_refused : (p : List ℕ) (i o : ℕ) (t : Tree) (l : ℕ) (k : ErrorKind) → i < length p → Err k ≡ as_struct t l → Err k ≡ path_number (drop i p) o t l
number_refused p i o t l k h e =
    ap (on_read (λ (s : StructTree). path_number (drop (suc i) p) o (nth_tree s.pointers (get_or p i 0)) (l - 1))) e ∙ sym (ap (λ q. path_number q o t l) (drop-cons p i 0 h))

-- and the text
pub text_refused : (p : List ℕ) (i : ℕ) (t : Tree) (l : ℕ) (k : ErrorKind) → i < length p → Err k ≡ as_struct t l → Err k ≡ path_text (drop i p) t l
text_refused p i t l k h e =
    ap (on_read (λ (s : StructTree). path_text (drop (suc i) p) (nth_tree s.pointers (get_or p i 0)) (l - 1))) e ∙ sym (ap (λ q. path_text q t l) (drop-cons p i 0 h))
