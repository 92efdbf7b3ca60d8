-- The bytes of texts, one after another.
use Rattle.std.proofs.Common.{ℕ, ◌≡◌, refl, List, [], ◌∷◌, ◌++◌, Ok, Err, ap, append_assoc, append-nil, sym, ◌∙◌}
use Rattle.std.specs.Str.{IsUtf8}
use Rattle.std.proofs.lemmas.Str.{IsUtf8-nil}
use Rattle.capnp_records.specs.Text.{Byte, DebugForm, IsSpelled, IsText, Out, Pieces, after, known_pieces, said_text}

-- bytes that are known are spelled so
pub known_spelled : (bytes : List ℕ) → IsSpelled (known_pieces bytes) bytes
unfolding IsSpelled
known_spelled [] = refl
known_spelled (b ∷ bytes) = (bytes, known_spelled bytes, refl)

-- and not otherwise
pub spelled_known : (known_bytes bytes : List ℕ) → IsSpelled (known_pieces known_bytes) bytes → bytes ≡ known_bytes
unfolding IsSpelled
spelled_known [] bytes h = h
spelled_known (b ∷ bs) bytes (rest, h, e) = e ∙ ap (λ (xs : List ℕ). b ∷ xs) (spelled_known bs rest h)

-- a debug form is any UTF-8
pub form_spelled : (string form : List ℕ) → IsUtf8 form → IsSpelled (DebugForm string ∷ []) form
unfolding IsSpelled
form_spelled string form h = (form, [], h, refl, sym (append-nil form))

-- each text can be spelled
abbrev pub some_bytes : Pieces → List ℕ
some_bytes [] = []
some_bytes (Byte b ∷ pieces) = b ∷ some_bytes pieces
some_bytes (DebugForm string ∷ pieces) = some_bytes pieces

pub some_spelled : (pieces : Pieces) → IsSpelled pieces (some_bytes pieces)
unfolding IsSpelled
some_spelled [] = refl
some_spelled (Byte b ∷ pieces) = (some_bytes pieces, some_spelled pieces, refl)
some_spelled (DebugForm string ∷ pieces) = ([], some_bytes pieces, IsUtf8-nil, some_spelled pieces, refl)

-- one text and then another
pub both_spelled : (a b : Pieces) (xs ys : List ℕ) → IsSpelled a xs → IsSpelled b ys → IsSpelled (a ++ b) (xs ++ ys)
unfolding IsSpelled
both_spelled [] b xs ys h k = go xs h
  where
    go : (xs : List ℕ) → xs ≡ [] → IsSpelled b (xs ++ ys)
    go [] e = k
    go (x ∷ xs) e = absurd (cons_nil e)
      where
        cons_nil : x ∷ xs ≡ [] → ⊥
        cons_nil e = cc
both_spelled (Byte c ∷ a) b xs ys (rest, h, e) k = (rest ++ ys, both_spelled a b rest ys h k, ap (λ (zs : List ℕ). zs ++ ys) e)
both_spelled (DebugForm string ∷ a) b xs ys (form, rest, u, h, e) k =
    (form, rest ++ ys, u, both_spelled a b rest ys h k, ap (λ (zs : List ℕ). zs ++ ys) e ∙ append_assoc form rest ys)

-- the same of texts
pub both_text : (a b : Out) (xs ys : List ℕ) → IsText a xs → IsText b ys → IsText (after a b) (xs ++ ys)
both_text (Ok a) (Ok b) xs ys h k = both_spelled a b xs ys h k
both_text (Ok a) (Err kind) xs ys h k = absurd k
both_text (Err kind) b xs ys h k = absurd h

-- known bytes, one after another
pub known_both : (a b : List ℕ) → known_pieces (a ++ b) ≡ known_pieces a ++ known_pieces b
known_both [] b = refl
known_both (x ∷ a) b = ap (λ (pieces : Pieces). Byte x ∷ pieces) (known_both a b)

pub said_both : (a b : List ℕ) → after (said_text a) (said_text b) ≡ said_text (a ++ b)
said_both a b = ap Ok (sym (known_both a b))

-- of a text that is said what it is
abbrev bytes_said : Out → List ℕ
bytes_said (Ok pieces) = some_bytes pieces
bytes_said (Err kind) = []

known_again : (bytes : List ℕ) → some_bytes (known_pieces bytes) ≡ bytes
known_again [] = refl
known_again (b ∷ bytes) = ap (λ (xs : List ℕ). b ∷ xs) (known_again bytes)

pub same_said : (a b : List ℕ) → said_text a ≡ said_text b → a ≡ b
same_said a b e = sym (known_again a) ∙ (ap bytes_said e ∙ known_again b)
