-- A message that goes to a sink in two parts.
use Rattle.std.proofs.Common.{arith, ℕ, suc, ◌+◌, ◌/◌, ◌*◌, ◌<◌, ◌≡◌, ◌∙◌, ap, sym, subst, List, ◌++◌, length, take, drop, Option, Some, None, Result, Ok, Err, IfErr, OnErr, OnOk, append_assoc, length-append}
use Rattle.std.proofs.Math.Seq.{take-append-add}
use Rattle.std.proofs.lemmas.List.{take-append-drop, take-append-le}
use Rattle.std.specs.Io.KnownBytes.{Appends}
use Rattle.capnp_wire.specs.Encoding.{encoding_of, message_of, spelled_number}
use Rattle.capnp_wire.specs.Facts.EncodedSizes.{length_encoding}
use Rattle.capnp_wire.specs.Message.{IsCutShort, IsWritten}
use Rattle.capnp_wire.specs.Tree.{Tree}
use Rattle.capnp_wire.specs.WellFormed.{IsWellFormed}
use Rattle.capnp_wire.specs.Words.{words_of}

-- a beginning of some bytes, and not all of them
abbrev pub IsCut : List ℕ → Option (List ℕ) → Option (List ℕ) → Type 0
IsCut bytes a b = (n : ℕ) × (n < length bytes) × Appends a b (take n bytes)

appends_both : (a b c : Option (List ℕ)) (xs ys : List ℕ) → Appends a b xs → Appends b c ys → Appends a c (xs ++ ys)
appends_both None b c xs ys h k = tt {0}
appends_both (Some a) None c xs ys h k = absurd h
appends_both (Some a) (Some b) None xs ys h k = absurd k
appends_both (Some a) (Some b) (Some c) xs ys h k = k ∙ ap (λ z. z ++ ys) h ∙ append_assoc a xs ys

-- a fact that holds anyway
pub on_ok_always : {T E P : Type 0} (r : Result T E) → P → OnOk r P
on_ok_always (Ok x) p = p
on_ok_always (Err e) p = tt {0}

pub on_err_always : {T E P : Type 0} (r : Result T E) → P → OnErr r P
on_err_always (Ok x) p = tt {0}
on_err_always (Err e) p = p

pub if_err_always : {T E P : Type 0} (r : Result T E) → P → IfErr r (λ _. P)
if_err_always (Ok x) p = tt {0}
if_err_always (Err e) p = p

-- one that another gives
pub on_ok_so : {T E P Q : Type 0} (r : Result T E) → (P → Q) → OnOk r P → OnOk r Q
on_ok_so (Ok x) f p = f p
on_ok_so (Err e) f p = p

pub on_err_so : {T E P Q : Type 0} (r : Result T E) → (P → Q) → OnErr r P → OnErr r Q
on_err_so (Ok x) f p = p
on_err_so (Err e) f p = f p

pub if_err_so : {T E P Q : Type 0} (K : E → Type 0) (r : Result T E) → (P → Q) → OnErr r P → IfErr r (λ e. K e → Q)
if_err_so K (Ok x) f p = p
if_err_so K (Err e) f p = λ k. f p

-- bytes that are the message
pub cut_short : (t : Tree) (bytes : List ℕ) (a b : Option (List ℕ)) → bytes ≡ message_of t → IsCut bytes a b → IsCutShort t a b
cut_short t bytes a b e h = subst (λ x. IsCut x a b) e h

-- the table and a beginning of the segment, and the rest of it
pub parts_of : (t : Tree) (bytes front : List ℕ) (n words : ℕ) → IsWellFormed t → bytes ≡ encoding_of t → words ≡ length bytes / 8
    → front ≡ spelled_number 4 0 ++ (spelled_number 4 words ++ take n bytes) → front ++ drop n bytes ≡ message_of t
parts_of t bytes front n words h e w f =
    let l : length bytes ≡ 8 * suc (words_of t) = ap length e ∙ length_encoding t h in
    let m : words ≡ suc (words_of t) = omega (arith, w, l) in
    ap (λ z. z ++ drop n bytes) f
    ∙ append_assoc (spelled_number 4 0) (spelled_number 4 words ++ take n bytes) (drop n bytes)
    ∙ ap (λ z. spelled_number 4 0 ++ z) (append_assoc (spelled_number 4 words) (take n bytes) (drop n bytes))
    ∙ ap (λ z. spelled_number 4 0 ++ (spelled_number 4 words ++ z)) (take-append-drop n bytes ∙ e)
    ∙ ap (λ k. spelled_number 4 0 ++ (spelled_number 4 k ++ encoding_of t)) m

module _ (t : Tree) (front rest : List ℕ) (whole : front ++ rest ≡ message_of t) where
  pub whole_sent : (a b c : Option (List ℕ)) → Appends a b front → Appends b c rest → IsWritten t a c
  whole_sent a b c h k = subst (Appends a c) whole (appends_both a b c front rest h k)

  pub front_cut : (a b : Option (List ℕ)) → IsCut front a b → IsCutShort t a b
  front_cut a b h =
      let l : h.0 < length front = h.1 in
      let m : length front + length rest ≡ length (message_of t) = sym (length-append front rest) ∙ ap length whole in
      (h.0, omega (arith, l, m), subst (Appends a b) (sym (take-append-le h.0 front rest (omega (arith, l))) ∙ ap (take h.0) whole) h.2)

  pub rest_cut : (a b c : Option (List ℕ)) → Appends a b front → IsCut rest b c → IsCutShort t a c
  rest_cut a b c h k =
      let l : k.0 < length rest = k.1 in
      let m : length front + length rest ≡ length (message_of t) = sym (length-append front rest) ∙ ap length whole in
      (length front + k.0, omega (arith, l, m), subst (Appends a c) (sym (take-append-add front rest k.0) ∙ ap (take (length front + k.0)) whole) (appends_both a b c front (take k.0 rest) h k.2))
