-- Lines that were told one after another.
use Rattle.std.proofs.Common.{ℕ, zero, suc, ◌+◌, ◌≤◌, ◌<◌, List, [], ◌∷◌, ◌++◌, append-nil, append_assoc, drop, get_or, length, ◌≡◌, ◌∙◌, ap, arith, refl, subst, sym}
use Rattle.std.proofs.lemmas.List.{drop_more}
use Rattle.capnp_call.specs.declared.calls.Reply.{Reply}
use Rattle.capnp_patch.specs.Lines.{AreTold, IsReplyTold, told_char, told_chars}

-- the item at an index stands before what is left
step_from : {X : Type 0} (xs : List X) (i : ℕ) (x : X) → i < length xs → x ≡ get_or xs i x → drop i xs ≡ x ∷ drop (i + 1) xs
step_from xs i x inside is = drop_more xs i x inside ∙ ap (λ y. y ∷ drop (i + 1) xs) (sym is)

-- one more line is told, and then those of the replies that are left
pub told_then : (i : ℕ) (words : List (List ℕ)) (replies : List Reply) (word : List ℕ) (r : Reply) (old mid new : List ℕ) →
    i < length replies → word ≡ get_or words i [] → r ≡ get_or replies i r → IsReplyTold (i + 1) word [] r old mid →
    AreTold (i + 1) words (drop (i + 1) replies) mid new → AreTold i words (drop i replies) old new
told_then i words replies word r old mid new inside w_is r_is told rest =
    subst (λ (rs : List Reply). AreTold i words rs old new) (sym (step_from replies i r inside r_is)) (
      mid,
      subst (λ (n : ℕ). IsReplyTold n (get_or words i []) [] r old mid) number (subst (λ (w : List ℕ). IsReplyTold (i + 1) w [] r old mid) w_is told),
      subst (λ (n : ℕ). AreTold n words (drop (i + 1) replies) mid new) number rest,
    )
  where
    number : i + 1 ≡ suc i
    number = omega arith

-- where no reply is left, all are told
pub told_all : (i : ℕ) (words : List (List ℕ)) (replies : List Reply) (old : List ℕ) → replies ≡ [] → AreTold i words replies old old
told_all i words [] old e = refl
told_all i words (r ∷ rs) old e = absurd (no_nil r rs e)
  where
    no_nil : {X : Type 0} (x : X) (xs : List X) → x ∷ xs ≡ [] → ⊥
    no_nil x xs e = cc

pub none_left : {X : Type 0} (xs : List X) (i : ℕ) → length xs ≤ i → drop i xs ≡ []
none_left [] zero h = refl
none_left [] (suc i) h = refl
none_left (x ∷ xs) zero h = absurd (omega (arith, h))
none_left (x ∷ xs) (suc i) h = none_left xs i (omega (arith, h))

-- one character more is told
told_more : (cs : List ℕ) (c : ℕ) → told_chars (cs ++ c ∷ []) ≡ told_chars cs ++ told_char c
told_more [] c = append-nil (told_char c)
told_more (d ∷ cs) c = ap (λ (ws : List ℕ). told_char d ++ ws) (told_more cs c) ∙ sym (append_assoc (told_char d) (told_chars cs) (told_char c))

pub chars_next : (start now next : List ℕ) (cs : List ℕ) (c : ℕ) → now ≡ start ++ told_chars cs → next ≡ now ++ told_char c → next ≡ start ++ told_chars (cs ++ c ∷ [])
chars_next start now next cs c e m =
    m ∙ (ap (λ (ws : List ℕ). ws ++ told_char c) e ∙ (append_assoc start (told_chars cs) (told_char c) ∙ ap (λ (ws : List ℕ). start ++ ws) (sym (told_more cs c))))
