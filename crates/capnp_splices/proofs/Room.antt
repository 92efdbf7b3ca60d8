-- Why a row is refused for its size, and that one which is not is within the format.
use Rattle.std.proofs.Common.{◌≡◌, ◌≢◌, ℕ, ◌<◌, ◌≤◌, ◌⊎◌, inl, inr, refl, sym, ap, ap₂, ◌∙◌, Bool, true, false, not, nat_lt, ◌&&◌, cond, arith, rules, Some}
use Rattle.std.proofs.lemmas.Bool.{lt-ltb, ltb-true, ltb-false, true≢false}
use Rattle.std.specs.Prelude.{option_map}
use Rattle.capnp_device.specs.declared.error.Error.{Error}
use Rattle.capnp_device.specs.declared.error.ErrorKind.TheVariants.{OutOfMemory, SizePastFormat}
use Rattle.capnp_wire.specs.Edits.{IsRoomRefusal}
use Rattle.capnp_wire.specs.Locate.{words_past_format}
use Rattle.capnp_wire.specs.Reading.{refusal}
use Rattle.capnp_wire.specs.Tree.{Tree}
use Rattle.capnp_wire.specs.Words.{first_fault}
use Rattle.capnp_splices.specs.Splices.{is_past_format, made_refusal}

-- what is past the format is refused for that, and else for a fault
pub made_past : (t : Tree) → is_past_format t ≡ true → made_refusal t ≡ Some SizePastFormat
made_past t e = ap (λ b. cond b (Some SizePastFormat) (option_map refusal (first_fault t))) {x = is_past_format t} {y = true} e

pub made_within : (t : Tree) → is_past_format t ≡ false → made_refusal t ≡ option_map refusal (first_fault t)
made_within t e = ap (λ b. cond b (Some SizePastFormat) (option_map refusal (first_fault t))) {x = is_past_format t} {y = false} e

-- a refusal for room is one for the size exactly where the size is past the format
room : (P : Type 0) (b : Bool) (t : Tree) (e : Error) → is_past_format t ≡ b → (b ≡ true → P) → (b ≡ false → P → ⊥) → IsRoomRefusal e P → e.kind ≢ OutOfMemory → made_refusal t ≡ Some e.kind
room P true t e is past within r other = made_past t is ∙ ap Some (sym (r.2 (past refl)))
room P false t e is past within r other = absurd (other (r.0 (λ h. within refl (r.1 h))))

pub row_refused : (t : Tree) (n : ℕ) (e : Error) → is_past_format t ≡ not (nat_lt n words_past_format) → IsRoomRefusal e (words_past_format ≤ n) → e.kind ≢ OutOfMemory → made_refusal t ≡ Some e.kind
row_refused t n e is r other = go (nat_lt n words_past_format) refl
  where
    go : (b : Bool) → nat_lt n words_past_format ≡ b → made_refusal t ≡ Some e.kind
    go true q = room (words_past_format ≤ n) false t e (is ∙ ap not q) (λ h. absurd (false_true h)) (λ _ p. omega (arith, p, ltb-true n words_past_format q)) r other
      where
        false_true : false ≡ true → ⊥
        false_true h = search rules
    go false q = room (words_past_format ≤ n) true t e (is ∙ ap not q) (λ _. ltb-false n words_past_format q) (λ h. absurd (true_false h)) r other
      where
        true_false : true ≡ false → ⊥
        true_false h = search rules

pub row_within : (t : Tree) (n : ℕ) → is_past_format t ≡ not (nat_lt n words_past_format) → n < words_past_format → is_past_format t ≡ false
row_within t n is h = is ∙ ap not (lt-ltb n words_past_format h)

-- ---- structs ----

pub structs_refused : (t : Tree) (n k : ℕ) (e : Error) → is_past_format t ≡ not (nat_lt n words_past_format && nat_lt k words_past_format) → IsRoomRefusal e ((words_past_format ≤ n) ⊎ (words_past_format ≤ k)) → e.kind ≢ OutOfMemory → made_refusal t ≡ Some e.kind
structs_refused t n k e is r other = go (nat_lt n words_past_format) (nat_lt k words_past_format) refl refl
  where
    go : (a b : Bool) → nat_lt n words_past_format ≡ a → nat_lt k words_past_format ≡ b → made_refusal t ≡ Some e.kind
    go true true p q =
        room ((words_past_format ≤ n) ⊎ (words_past_format ≤ k)) false t e (is ∙ ap₂ (λ x y. not (x && y)) p q) (λ h. absurd (true≢false (sym h)))
        (λ _ past. elim past [ inl x ↦ omega (arith, x, ltb-true n words_past_format p) | inr x ↦ omega (arith, x, ltb-true k words_past_format q) ]) r other
    go true false p q =
        room ((words_past_format ≤ n) ⊎ (words_past_format ≤ k)) true t e (is ∙ ap₂ (λ x y. not (x && y)) p q) (λ _. inr (ltb-false k words_past_format q)) (λ h. absurd (true≢false h)) r other
    go false b p q =
        room ((words_past_format ≤ n) ⊎ (words_past_format ≤ k)) true t e (is ∙ ap (λ x. not (x && nat_lt k words_past_format)) p) (λ _. inl (ltb-false n words_past_format p)) (λ h. absurd (true≢false h)) r other

pub structs_within : (t : Tree) (n k : ℕ) → is_past_format t ≡ not (nat_lt n words_past_format && nat_lt k words_past_format) → n < words_past_format → k < words_past_format → is_past_format t ≡ false
structs_within t n k is h j = is ∙ ap₂ (λ x y. not (x && y)) (lt-ltb n words_past_format h) (lt-ltb k words_past_format j)
