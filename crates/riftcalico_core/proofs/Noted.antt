-- Lines of replies that were told one after another.
use Rattle.std.proofs.Common.{ℕ, zero, suc, Bool, true, false, ◌+◌, ◌≤◌, ◌<◌, List, [], ◌∷◌, drop, get_or, length, slice_get, ◌≡◌, ◌∙◌, ap, arith, refl, subst, sym}
use Rattle.std.proofs.lemmas.List.{drop_more}
use Rattle.capnp_call.specs.declared.calls.Reply.{Reply}
use Rattle.capnp_call.specs.declared.calls.Reply.TheVariants as reply
use Rattle.capnp_records.specs.Call.{Call}
use Rattle.capnp_schema.specs.Schema.{Schemas}
use Rattle.riftcalico_core.specs.Replies.{AreNoted, IsMarkedTold, IsNoted, asks_float, note_of}
use Rattle.riftcalico_core.specs.Room.{reply_told}

-- the item at an index stands before what is left
step_from : {X : Type 0} (xs : List X) (i : ℕ) (x : X) → i < length xs → x ≡ get_or xs i x → drop i xs ≡ x ∷ drop (i + 1) xs
step_from xs i x inside is = drop_more xs i x inside ∙ ap (λ y. y ∷ drop (i + 1) xs) (sym is)

-- of something done there is no line
done_told : (floats : Bool) (n : ℕ) (word note lines : List ℕ) → IsMarkedTold floats n word note reply.Done lines lines
done_told true n word note lines = refl
done_told false n word note lines = refl

module _ (set : Schemas) (b : ℕ) (by_limit : Bool) (words : List (List ℕ)) (calls : List Call) where
  pub done_noted : (i : ℕ) (r : Reply) (lines : List ℕ) → r ≡ reply.Done → IsNoted set b by_limit i words calls r lines lines
  done_noted i r lines done =
      subst (λ (x : Reply). IsNoted set b by_limit i words calls x lines lines) (sym done) (done_told (asks_float set b (slice_get calls i)) (suc i) (get_or words i []) (note_of set b (slice_get calls i) reply.Done) lines)

  -- a line by its parts
  pub noted_by : (i : ℕ) (word note : List ℕ) (floats : Bool) (r : Reply) (old new : List ℕ) →
      word ≡ get_or words i [] → note ≡ note_of set b (slice_get calls i) r → floats ≡ asks_float set b (slice_get calls i) →
      IsMarkedTold floats (i + 1) word note (reply_told by_limit r) old new → IsNoted set b by_limit i words calls r old new
  noted_by i word note floats r old new w_is n_is f_is told =
      subst (λ (n : ℕ). IsMarkedTold (asks_float set b (slice_get calls i)) n (get_or words i []) (note_of set b (slice_get calls i) r) (reply_told by_limit r) old new) number
      (subst (λ (f : Bool). IsMarkedTold f (i + 1) (get_or words i []) (note_of set b (slice_get calls i) r) (reply_told by_limit r) old new) f_is
      (subst (λ (w : List ℕ). IsMarkedTold floats (i + 1) w (note_of set b (slice_get calls i) r) (reply_told by_limit r) old new) w_is
      (subst (λ (z : List ℕ). IsMarkedTold floats (i + 1) word z (reply_told by_limit r) old new) n_is told)))
    where
      number : i + 1 ≡ suc i
      number = omega arith

  -- one more line is told, and then those of the replies that are left
  pub noted_then : (i : ℕ) (replies : List Reply) (r : Reply) (old mid new : List ℕ) → i < length replies → r ≡ get_or replies i r →
      IsNoted set b by_limit i words calls r old mid → AreNoted set b by_limit (i + 1) words calls (drop (i + 1) replies) mid new → AreNoted set b by_limit i words calls (drop i replies) old new
  noted_then i replies r old mid new inside r_is told rest =
      subst (λ (rs : List Reply). AreNoted set b by_limit i words calls rs old new) (sym (step_from replies i r inside r_is))
      (mid, told, subst (λ (n : ℕ). AreNoted set b by_limit n words calls (drop (i + 1) replies) mid new) number rest)
    where
      number : i + 1 ≡ suc i
      number = omega arith

  -- where no reply is left, all are told
  pub noted_all : (i : ℕ) (replies : List Reply) (old : List ℕ) → replies ≡ [] → AreNoted set b by_limit i words calls replies old old
  noted_all i [] old e = refl
  noted_all i (r ∷ rs) old e = absurd (no_nil r rs e)
    where
      no_nil : {X : Type 0} (x : X) (xs : List X) → x ∷ xs ≡ [] → ⊥
      no_nil x xs e = cc

pub none_left : {X : Type 0} (xs : List X) (i : ℕ) → length xs ≤ i → drop i xs ≡ []
none_left [] zero h = refl
none_left [] (suc i) h = refl
none_left (x ∷ xs) zero h = absurd (omega (arith, h))
none_left (x ∷ xs) (suc i) h = none_left xs i (omega (arith, h))
