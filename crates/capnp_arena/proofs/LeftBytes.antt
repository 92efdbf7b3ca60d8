-- What a list of bytes is once some of them were left otherwise.
use Rattle.std.proofs.Common.{◌≡◌, ℕ, ◌+◌, ◌-◌, ◌*◌, ◌≤◌, sym, ap, subst, ◌∙◌, arith, List, ◌++◌, length, take, drop}
use Rattle.std.proofs.lemmas.List.{append_assoc, drop-drop, drop-take, length-append, length-drop, length-take-le, take-append-drop, with_items_is}
use Rattle.capnp_wire.specs.Facts.Filling.{length_put}
use Rattle.capnp_wire.specs.Steps.Filling.{bytes_with}
use Rattle.capnp_wire.specs.Locate.{list_words}
use Rattle.capnp_wire.specs.Place.{bytes_at}
use Rattle.capnp_wire.specs.Tree.{Numbers}
use Rattle.capnp_arena.specs.Facts.Calls.{planted}
use Rattle.capnp_arena.specs.Forest.{Forest, Planted}
use Rattle.capnp_arena.specs.Leaves.{Leaves}
use Rattle.capnp_arena.specs.Parts.{with_struct_part}
use Rattle.capnp_arena.specs.Segment.{segment}
use Rattle.capnp_arena.specs.Shape.{ListIn, shape_at, word_count}
use Rattle.capnp_arena.specs.declared.arena.Arena.{Arena}
use Rattle.capnp_arena.proofs.Puts.{put_there}
use Rattle.capnp_arena.proofs.Written.{length_part}
use Rattle.capnp_arena.proofs.WrittenLists.{IsListWritten, list_written}

module _ (a : Arena) (start : ℕ) (left : List ℕ) (fits : 8 * start + length left ≤ length (segment a)) where
  long : length (take (8 * start) a.bytes.items ++ (left ++ drop (length left) (drop (8 * start) a.bytes.items))) ≡ a.bytes.len
  long =
      let x : List ℕ = drop (length left) (drop (8 * start) a.bytes.items) in
      let e : length a.bytes.items ≡ a.bytes.len = sym a.bytes.ok.0 in
      omega (arith, fits, e, length-append (take (8 * start) a.bytes.items) (left ++ x), length-append left x, length-take-le (8 * start) a.bytes.items (omega (arith, fits)), length-drop (length left) (drop (8 * start) a.bytes.items), length-drop (8 * start) a.bytes.items)

  pub part_left : segment (with_struct_part a start left) ≡ bytes_with (8 * start) left (segment a)
  part_left =
      with_items_is a.bytes (take (8 * start) a.bytes.items ++ (left ++ drop (length left) (drop (8 * start) a.bytes.items))) long
      ∙ ap (λ x. take (8 * start) a.bytes.items ++ (left ++ x)) (drop-drop (length left) (8 * start) a.bytes.items)

-- the rest of a part stands after what is put at its start
rest_there : (start : ℕ) (left old : List ℕ) (n : ℕ) → length left ≤ n → 8 * start + n ≤ length old
    → bytes_with (8 * start) left old ≡ bytes_with (8 * start) (left ++ drop (length left) (bytes_at old start n)) old
rest_there start left old n l h =
    let e : length left + (n - length left) ≡ n = omega (arith, l) in
    let part : drop (length left) (bytes_at old start n) ≡ take (n - length left) (drop (length left) (drop (8 * start) old)) =
    ap (λ z. drop (length left) (take z (drop (8 * start) old))) (sym e) ∙ drop-take (length left) (n - length left) (drop (8 * start) old) in
    let behind : drop (length left) (drop (8 * start) old) ≡ drop (8 * start + length left) old = drop-drop (length left) (8 * start) old in
    let long : length (left ++ drop (length left) (bytes_at old start n)) ≡ n =
    omega (arith, l, h, length-append left (drop (length left) (bytes_at old start n)), length-drop (length left) (bytes_at old start n), length_part old start n h) in
    ap (λ z. take (8 * start) old ++ (left ++ z))
    (sym (take-append-drop (n - length left) (drop (8 * start + length left) old))
    ∙ ap (λ z. z ++ drop (n - length left) (drop (8 * start + length left) old)) (sym (part ∙ ap (take (n - length left)) behind))
    ∙ ap (λ z. drop (length left) (bytes_at old start n) ++ z) (drop-drop (n - length left) (8 * start + length left) old ∙ ap (λ z. drop z old) {x = 8 * start + length left + (n - length left)} {y = 8 * start + length (left ++ drop (length left) (bytes_at old start n))} (omega (arith, l, long))))
    ∙ ap (λ z. take (8 * start) old ++ z) (sym (append_assoc left (drop (length left) (bytes_at old start n)) (drop (8 * start + length (left ++ drop (length left) (bytes_at old start n))) old)))

module _ (a : Arena) (at start n count : ℕ) (f : Forest (segment a) at) (e : shape_at (segment a) at ≡ ListIn start 2 n) (inside : count ≤ n) where
  room : 8 * start + n ≤ length (segment a)
  room =
      let ends : start + list_words 2 n ≤ word_count (segment a) = (subst (Planted (segment a)) e (planted (segment a) at f)).ends in
      omega (arith, ends)

  pub part_inside : 8 * start + count ≤ length (segment a)
  part_inside = omega (arith, room, inside)

  pub bytes_left : (left : List ℕ) → length left ≡ count → Leaves at (Numbers 1 (left ++ drop count (bytes_at (segment a) start n))) (segment a) (segment (with_struct_part a start left))
  bytes_left left l =
      let xl : length (left ++ drop (length left) (bytes_at (segment a) start n)) ≡ n =
      omega (arith, l, inside, length-append left (drop (length left) (bytes_at (segment a) start n)), length-drop (length left) (bytes_at (segment a) start n), length_part (segment a) start n room) in
      let is : segment (with_struct_part a start left) ≡ bytes_with (8 * start) (left ++ drop (length left) (bytes_at (segment a) start n)) (segment a) =
      part_left a start left (omega (arith, l, part_inside)) ∙ rest_there start left (segment a) n (omega (arith, l, inside)) room in
      let long : length (segment (with_struct_part a start left)) ≡ length (segment a) = ap length is ∙ length_put (8 * start) (left ++ drop (length left) (bytes_at (segment a) start n)) (segment a) (omega (arith, xl, room)) in
      let w : IsListWritten (segment a) (segment (with_struct_part a start left)) at start 2 n =
      list_written (segment a) (segment (with_struct_part a start left)) at start 2 n (left ++ drop (length left) (bytes_at (segment a) start n)) a.whole f e (λ z. omega (arith, z)) (omega (arith, xl)) long is in
      record {
        forest = w.forest;
        tree = w.tree ∙ ap (Numbers 1) (ap (λ z. bytes_at z start n) is
            ∙ put_there start (left ++ drop (length left) (bytes_at (segment a) start n)) (segment a) n (omega (arith, xl, room)) xl
            ∙ ap (λ z. left ++ drop z (bytes_at (segment a) start n)) l);
        changes = w.changes;
        place = w.place ∙ sym e;
      }
