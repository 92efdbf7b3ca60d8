-- How a part of a message's bytes is lent: the message ends with these as they were left.
use Rattle.std.proofs.Common.{ℕ, List, ◌*◌, ◌/◌, ◌<◌, ◌≤◌, ◌≡◌, ◌∙◌, length, subst, sym}
use Rattle.std.specs.Vec.{with_items_from}
use Rattle.capnp_wire.specs.Locate.{words_past_format}
use Rattle.capnp_arena.specs.declared.arena.Arena.{Arena}

-- others written over them take as many
abbrev pub as_long : (a : Arena) (start : ℕ) (left : List ℕ) → length a.bytes.items ≡ length (with_items_from a.bytes (8 * start) left).items
as_long a start left = sym a.bytes.ok.0 ∙ (with_items_from a.bytes (8 * start) left).ok.0

abbrev pub with_struct_part : Arena → ℕ → List ℕ → Arena
with_struct_part a start left = record {
  bytes = with_items_from a.bytes (8 * start) left;
  limit = a.limit;
  whole = subst (λ n. n ≡ 8 * (n / 8)) (as_long a start left) a.whole;
  few = subst (λ n. n / 8 < words_past_format) (as_long a start left) a.few;
  within = subst (λ n. n / 8 ≤ a.limit) (as_long a start left) a.within;
  low = a.low;
  some = a.some;
}
