-- Bytes that are pushed one after another.
use Rattle.std.proofs.Common.{ℕ, suc, ◌+◌, ◌≡◌, ◌∷◌, List, length, drop, slice_set, ap, arith, subst, sym, ◌∙◌}
use Rattle.std.proofs.lemmas.List.{length-set}
use Rattle.capnp_arena.specs.Facts.Places.{at_then}
use Rattle.capnp_arena.specs.Forest.{Changes}
use Rattle.capnp_arena.specs.Segment.{segment}
use Rattle.capnp_builders.specs.Blobs.{IsBuiltText, position, text_behind, text_bytes, text_word}
use Rattle.capnp_builders.specs.Steps.Blobs.{written_bytes}
use Rattle.capnp_builders.specs.declared.text.Builder.{Builder}

-- so many of them have been pushed
pub record ArePushed (old new : Builder) (given : List ℕ) (i : ℕ) : Type 0 where
  pub same : (text_behind new).ghost_name ≡ (text_behind old).ghost_name
  pub at : text_word new ≡ text_word old
  pub pushed : position new ≡ position old + i
  pub size : length (text_bytes new) ≡ length (text_bytes old)
  pub left : written_bytes (text_bytes new) (position new) (drop i given) ≡ written_bytes (text_bytes old) (position old) given
  pub there : IsBuiltText new
  pub changes : Changes (text_word old) (segment (text_behind old).now) (segment (text_behind new).now)

pub one_pushed : (old mid new : Builder) (bytes : List ℕ) (i v : ℕ) → drop i bytes ≡ v ∷ drop (suc i) bytes → ArePushed old mid bytes i → (text_behind new).ghost_name ≡ (text_behind mid).ghost_name → text_word new ≡ text_word mid →
    position new ≡ position mid + 1 → text_bytes new ≡ slice_set (text_bytes mid) (position mid) v → IsBuiltText new → Changes (text_word mid) (segment (text_behind mid).now) (segment (text_behind new).now) → ArePushed old new bytes (suc i)
one_pushed old mid new bytes i v head before same at pos is there changes = record {
  same = same ∙ before.same;
  at = at ∙ before.at;
  pushed = let e = before.pushed in omega (arith, pos, e);
  size = ap length is ∙ (length-set (text_bytes mid) (position mid) v ∙ before.size);
  left =
      ap (λ (b : List ℕ). written_bytes b (position new) (drop (suc i) bytes)) is
      ∙ (ap (λ (k : ℕ). written_bytes (slice_set (text_bytes mid) (position mid) v) k (drop (suc i) bytes)) (let e : position new ≡ suc (position mid) = omega (arith, pos) in e)
      ∙ (sym (ap (written_bytes (text_bytes mid) (position mid)) head)
      ∙ before.left));
  there = there;
  changes = at_then before.changes (subst (λ (w : ℕ). Changes w (segment (text_behind mid).now) (segment (text_behind new).now)) before.at changes);
}
