-- What is read at the front of bytes. Each reading answers the bytes behind what it read, or those from the first on that
-- can't stand there: none where the bytes end too soon.
use Rattle.std.specs.Prelude.{ℕ, List, [], ◌∷◌, Bool, ◌||◌, cond, ◌==◌, Result, Ok, Err}

abbrev pub Rest : Type 0
Rest = Result (List ℕ) (List ℕ)

-- one reading, and the next behind it
abbrev pub then_read : Rest → (List ℕ → Rest) → Rest
then_read (Ok rest) f = f rest
then_read (Err fault) f = Err fault

-- one byte that passes a test
abbrev pub after_one : (ℕ → Bool) → List ℕ → Rest
after_one test [] = Err []
after_one test (b ∷ bs) = cond (test b) (Ok bs) (Err (b ∷ bs))

-- this byte
abbrev pub after_only : ℕ → List ℕ → Rest
after_only wanted [] = Err []
after_only wanted (b ∷ bs) = cond (b == wanted) (Ok bs) (Err (b ∷ bs))

-- space, tab, line feed, carriage return
abbrev pub is_blank : ℕ → Bool
is_blank b = b == 32 || b == 9 || b == 10 || b == 13

abbrev pub after_blanks : List ℕ → List ℕ
after_blanks [] = []
after_blanks (b ∷ bs) = cond (is_blank b) (after_blanks bs) (b ∷ bs)
