-- Calls as they are read and as they are made.
use Rattle.std.proofs.Common.{ℕ, zero, suc, ◌+◌, ◌<◌, List, [], ◌∷◌, ◌++◌, append_assoc, arith, drop, get_or, length, map, Option, option_map, slice_get, take, ◌≡◌, ◌∙◌, ap, refl, sym}
use Rattle.std.proofs.lemmas.List.{drop_more, map-append}
use Rattle.std.proofs.lemmas.Option.{slice_get-map}
use Rattle.capnp_records.specs.Call.{Op, PathStep}
use Rattle.capnp_words.specs.Seen.{word_value_seen, word_value_type}
use Rattle.capnp_words.specs.declared.value.PlainValue.{PlainValue}
use Rattle.capnp_words.specs.declared.value.PlainValue.TheVariants as plain
use Rattle.riftcalico_core.specs.Calls.{source_taken, split, with_step}
use Rattle.riftcalico_core.specs.CallsSeen.{word_value_source}

-- a value is given by its type
pub source_is : (v : PlainValue) → source_taken (word_value_type v) (word_value_seen v) ≡ word_value_source v
source_is plain.Void = refl
source_is (plain.Bool b) = refl
source_is (plain.Int8 x) = refl
source_is (plain.Int16 x) = refl
source_is (plain.Int32 x) = refl
source_is (plain.Int64 x) = refl
source_is (plain.UInt8 x) = refl
source_is (plain.UInt16 x) = refl
source_is (plain.UInt32 x) = refl
source_is (plain.UInt64 x) = refl
source_is (plain.Enum e) = refl
source_is (plain.Text bytes) = refl
source_is (plain.«Data» bytes) = refl

-- the last step of a path, and those before it
pub split_last : (op : Op) (steps : List PathStep) (last : PathStep) → split (steps ++ last ∷ []) op ≡ record { path = steps; last = last; op = op }
split_last op [] last = refl
split_last op (s ∷ []) last = refl
split_last op (s ∷ t ∷ ss) last = ap (with_step s) (split_last op (t ∷ ss) last)

-- the same of a call's steps
pub split_seen : {S : Type 0} (seen : S → PathStep) (op : Op) (steps path : List S) (last : S) → steps ≡ path ++ last ∷ [] →
    record { path = map seen path; last = seen last; op = op } ≡ split (map seen steps) op
split_seen {S} seen op steps path last e =
    sym (ap (λ (xs : List S). split (map seen xs) op) e ∙ (ap (λ (xs : List PathStep). split xs op) (map-append seen path (last ∷ [])) ∙ split_last op (map seen path) (seen last)))

-- ---- lists that are walked together ----

-- the item of an index alone, where both lists are seen alike
pub one_given : {A B C : Type 0} (f : A → C) (g : B → C) (xs : List A) (ys : List B) (i : ℕ) (y : B) → map f xs ≡ map g ys → i < length ys → y ≡ get_or ys i y → map f (take 1 (drop i xs)) ≡ g y ∷ []
one_given f g xs [] i y e inside is = absurd (omega (arith, inside))
one_given f g [] (z ∷ ys) i y e inside is = absurd (no_items e)
  where
    no_items : {X : Type 0} {x : X} {rest : List X} → [] ≡ x ∷ rest → ⊥
    no_items h = cc
one_given f g (x ∷ xs) (z ∷ ys) zero y e inside is = ap (λ c. c ∷ []) (ap (λ cs. get_or cs 0 (f x)) e ∙ ap g (sym is))
one_given f g (x ∷ xs) (z ∷ ys) (suc i) y e inside is = one_given f g xs ys i y (ap (drop 1) e) (omega (arith, inside)) is

-- one more item is seen as it is read
pub acted_more : {A B C : Type 0} (f : A → C) (g : B → C) (xs : List A) (ys : List B) (i : ℕ) (x : A) (y : B) → i < length ys → y ≡ get_or ys i y → f x ≡ g y → map f xs ++ map g (drop i ys) ≡ map g ys →
    map f (xs ++ x ∷ []) ++ map g (drop (i + 1) ys) ≡ map g ys
acted_more {A} {B} {C} f g xs ys i x y inside is same e =
    ap (λ (cs : List C). cs ++ map g (drop (i + 1) ys)) (map-append f xs (x ∷ []))
    ∙ (append_assoc (map f xs) (f x ∷ []) (map g (drop (i + 1) ys))
    ∙ (ap (λ (c : C). map f xs ++ c ∷ map g (drop (i + 1) ys)) same
    ∙ (ap (λ (zs : List B). map f xs ++ map g zs) (sym (drop_more ys i y inside ∙ ap (λ (z : B). z ∷ drop (i + 1) ys) (sym is))) ∙ e)))

-- what an index has, seen one way and then another
pub seen_at : {A B C : Type 0} (f : B → C) (g : A → B) (xs : List A) (i : ℕ) (o : Option A) → slice_get xs i ≡ o → slice_get (map f (map g xs)) i ≡ option_map f (option_map g o)
seen_at f g xs i o e = slice_get-map f (map g xs) i ∙ ap (option_map f) (slice_get-map g xs i ∙ ap (option_map g) e)
