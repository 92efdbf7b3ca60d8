use Rattle.std.proofs.Common.{arith, suc, ◌/◌, ◌*◌, ◌-◌, ◌≤◌, ◌≡◌, ◌++◌, ◌∙◌, ap, length, List, [], ℕ}
use Rattle.capnp_wire.specs.Encoding.{encoding_of, spelled_number}
use Rattle.capnp_wire.specs.Facts.Bytes.{AreBytes_fits}
use Rattle.capnp_wire.specs.Facts.EncodedSizes.{length_encoding}
use Rattle.capnp_wire.specs.Steps.Filling.{bytes_with}
use Rattle.capnp_wire.specs.WellFormed.{IsWellFormed}
use Rattle.capnp_wire.specs.Words.{words_of}
use Rattle.capnp_arena.specs.Forest.{tree}
use Rattle.capnp_arena.specs.Shape.{word_count}
use Rattle.capnp_arena.proofs.Bounded.{words_fit}
use Rattle.capnp_arena.proofs.Encodings.{tree_held}
use Rattle.capnp_arena.proofs.message.append_made.Goals as goal

-- the table with no words yet, and the encoding
begun : (first second third : List ℕ) (encoding : List ℕ) → first ≡ [] → second ≡ first ++ spelled_number 8 0 → third ≡ second ++ encoding → third ≡ spelled_number 8 0 ++ encoding
begun first second third encoding e f g = g ∙ ap (λ z. z ++ encoding) (f ∙ ap (λ z. z ++ spelled_number 8 0) e)

-- so many words are counted in it
counted : (out encoding : List ℕ) (words : ℕ) → out ≡ spelled_number 8 0 ++ encoding → length encoding ≡ 8 * words → length out / 8 - 1 ≡ words
counted out encoding words e l =
    let n : length out ≡ length (spelled_number 8 0 ++ encoding) = ap length e in
    omega (arith, n, l)

pub append_anew-requires-clause-small : goal.append_anew-requires-clause-small
append_anew-requires-clause-small c = omega (arith, c.requires.few, words_fit c.args.bytes.now 0 c.requires.forest)

pub overflow_cast-words : goal.overflow_cast-words
overflow_cast-words c =
    let t = tree c.args.bytes.now 0 in
    let h : IsWellFormed t = tree_held c.args.bytes.now 0 (AreBytes_fits c.args.bytes.now c.type_inv.bytes) in
    let fit : suc (words_of t) ≤ word_count c.args.bytes.now = words_fit c.args.bytes.now 0 c.requires.forest in
    let e = begun c.args.out.now.items c.append_word.new.out.items c.append_anew.new.out.items (encoding_of t) c.requires.new c.in_ok-append_word.ensures c.in_ok-append_anew.ensures in
    let n : length c.append_anew.new.out.items / 8 - 1 ≡ suc (words_of t) = counted c.append_anew.new.out.items (encoding_of t) (suc (words_of t)) e (length_encoding t h) in
    omega (arith, c.len.ensures, n, fit, c.requires.few)

pub returns-clause-bytes : goal.returns-clause-bytes
returns-clause-bytes c =
    let t = tree c.args.bytes.now 0 in
    let h : IsWellFormed t = tree_held c.args.bytes.now 0 (AreBytes_fits c.args.bytes.now c.type_inv.bytes) in
    let e = begun c.args.out.now.items c.append_word.new.out.items c.append_anew.new.out.items (encoding_of t) c.requires.new c.in_ok-append_word.ensures c.in_ok-append_anew.ensures in
    let n : length c.append_anew.new.out.items / 8 - 1 ≡ suc (words_of t) = counted c.append_anew.new.out.items (encoding_of t) (suc (words_of t)) e (length_encoding t h) in
    let m : c.len.result / 8 - 1 ≡ suc (words_of t) = omega (arith, c.len.ensures, n) in
    c.put_half.ensures.put ∙ ap (bytes_with 4 (spelled_number 4 (c.len.result / 8 - 1))) e ∙ ap (λ k. spelled_number 4 0 ++ (spelled_number 4 k ++ encoding_of t)) m

pub returns-clause-held : goal.returns-clause-held
returns-clause-held c = tree_held c.args.bytes.now 0 (AreBytes_fits c.args.bytes.now c.type_inv.bytes)
