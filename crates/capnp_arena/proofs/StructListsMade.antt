-- A list of structs whose encoding was added at the end.
use Rattle.std.proofs.Common.{◌≡◌, ℕ, suc, ◌+◌, ◌-◌, ◌*◌, ◌≤◌, sym, ap, subst, ◌∙◌, arith, List, ◌++◌, length, take, None}
use Rattle.std.proofs.lemmas.List.{append_assoc, take_at}
use Rattle.capnp_wire.specs.Encoding.{bytes_below, bytes_of, element_row, list_word, pointer_word, spelled_number, struct_word}
use Rattle.capnp_wire.specs.Facts.Bytes.{length_spelled}
use Rattle.capnp_wire.specs.Facts.EncodedSizes.{length_bytes_of}
use Rattle.capnp_wire.specs.Facts.Rows.{struct_count_structs_from}
use Rattle.capnp_wire.specs.Place.{bytes_at}
use Rattle.capnp_wire.specs.Reading.{list_length}
use Rattle.capnp_wire.specs.StructLists.{as_structs}
use Rattle.capnp_wire.specs.Tree.{Composite, Structs, Tree, struct_count}
use Rattle.capnp_wire.specs.WellFormed.{IsWellFormed}
use Rattle.capnp_wire.specs.Words.{first_fault, words_of}
use Rattle.capnp_wire.specs.declared.size.StructSize.{StructSize}
use Rattle.capnp_arena.specs.Forest.{Changes, Forest, tree}
use Rattle.capnp_arena.specs.Steps.Grown.{IsPartList}
use Rattle.capnp_arena.specs.Steps.Made.{IsObjectMade, filled_up}
use Rattle.capnp_arena.specs.Shape.{CompositeIn, IsWordAt, Points, shape_at, word_count}
use Rattle.capnp_arena.specs.declared.grown.PartRow.{PartRow}
use Rattle.capnp_arena.proofs.Extensions.{filled_whole}
use Rattle.capnp_arena.proofs.Made.{made_added, made_length, made_word}
use Rattle.capnp_arena.proofs.NewTrees.{IsNewTree, tree_made}
use Rattle.capnp_arena.proofs.PartLists.{parts_whole}
use Rattle.capnp_arena.specs.Facts.Words.{shape}

pub record IsNewStructs (old new : List ℕ) (at tag count d p : ℕ) (t : Tree) : Type 0 where
  pub forest : Forest new at
  pub place : shape_at new at ≡ CompositeIn tag count d p
  pub tree : tree new at ≡ t
  pub changes : Changes at old new

first_word : (x r b : List ℕ) → length x ≡ 8 → take 8 ((x ++ r) ++ b) ≡ x
first_word x r b e = ap (take 8) (append_assoc x r b) ∙ take_at x (r ++ b) 8 e

pub structs_encoded : (old new added : List ℕ) (at word count d p : ℕ) (es : Structs) → IsWellFormed (Composite d p es) → first_fault (Composite d p es) ≡ None → struct_count es ≡ count → added ≡ bytes_of (Composite d p es)
    → word ≡ list_word (word_count old - suc at) 7 (count * (d + p)) → IsObjectMade old new added at word → IsNewStructs old new at (word_count old) count d p (Composite d p es)
structs_encoded old new added at word count d p es well none k content w made =
    let t : Tree = Composite d p es in
    let same : struct_count es * (d + p) ≡ count * (d + p) = ap (λ n. n * (d + p)) k in
    let e : word ≡ pointer_word (word_count old - suc at) t = w ∙ ap (list_word (word_count old - suc at) 7) (sym same) in
    let m : IsObjectMade old new (bytes_of t) at (pointer_word (word_count old - suc at) t) = subst (λ x. IsObjectMade old new x at (pointer_word (word_count old - suc at) t)) content (subst (IsObjectMade old new added at) e made) in
    let i : IsNewTree old new at t = tree_made old new at t well none m in
    let n : length (bytes_of t) ≡ 8 * words_of t = length_bytes_of t well in
    let size : length new ≡ 8 * (word_count old + word_count added) = made_length old new added at word made in
    let long : word_count old + 1 + count * (d + p) ≤ word_count new = omega (arith, size, ap length content, n, same) in
    let tag : bytes_at new (word_count old) 8 ≡ spelled_number 8 (struct_word count d p) =
    made_added old new added at word made (word_count old) 8 (omega arith)
    ∙ ap (λ x. bytes_at added x 8) {x = word_count old - word_count old} {y = 0} (omega arith)
    ∙ ap (take 8) content
    ∙ first_word (spelled_number 8 (struct_word (struct_count es) d p)) (element_row (d + p) 0 es) (bytes_below t) (length_spelled 8 (struct_word (struct_count es) d p))
    ∙ ap (λ x. spelled_number 8 (struct_word x d p)) k in
    let points : Points new at (CompositeIn (word_count old) count d p) =
    (made.inside, omega (arith, made.few), well.0, well.1, omega (arith, well.2, k), omega (arith, well.3, same), long, subst (IsWordAt new at) w (made_word old new added at word made), (omega (arith, size, ap length content, n), tag)) in
    record { forest = i.forest; place = shape new at (CompositeIn (word_count old) count d p) points; tree = i.tree; changes = i.changes }

pub structs_made : (old new content : List ℕ) (at end words word count : ℕ) (row : PartRow) (size : StructSize) → IsPartList old at row count → IsWellFormed (as_structs size (tree old at)) → content ≡ bytes_of (as_structs size (tree old at)) → end ≡ word_count old → 8 * words ≡ length content
    → word ≡ list_word (end - at - 1) 7 (count * (size.data_words + size.pointers)) → IsObjectMade old new (filled_up words content) at word → IsNewStructs old new at end count size.data_words size.pointers (as_structs size (tree old at))
structs_made old new content at end words word count row size l well is q whole w made =
    let gap : word ≡ list_word (word_count old - suc at) 7 (count * (size.data_words + size.pointers)) =
    w ∙ ap (λ n. list_word n 7 (count * (size.data_words + size.pointers))) {x = end - at - 1} {y = word_count old - suc at} (omega (arith, q)) in
    subst (λ n. IsNewStructs old new at n count size.data_words size.pointers (as_structs size (tree old at))) (sym q)
    (structs_encoded old new (filled_up words content) at word count size.data_words size.pointers _ well (parts_whole old at row count size l)
    (struct_count_structs_from _ 0 (list_length (tree old at)) ∙ l.length) (filled_whole words content whole ∙ is) gap made)
