-- Lines that tell of one message of several.
use Rattle.std.specs.Prelude.{ℕ, List, [], ◌∷◌, ◌++◌, Option, Some, None, codes, decimal}
use Rattle.std.specs.Str.Lines.{lines}

-- a line behind the number of its message
abbrev pub numbered_line : (number : ℕ) → (line : List ℕ) → List ℕ
numbered_line number line = codes "message " ++ decimal number ++ codes ": " ++ line ++ 10 ∷ []

-- lines, each behind it
abbrev pub each_numbered : (number : ℕ) → List (List ℕ) → List ℕ
each_numbered number [] = []
each_numbered number (line ∷ more) = numbered_line number line ++ each_numbered number more

abbrev pub numbered_lines : (number : ℕ) → List ℕ → List ℕ
numbered_lines number text = each_numbered number (lines text)

-- where there is one message they are told as they are
abbrev pub told_lines : (message : Option ℕ) → List ℕ → List ℕ
told_lines None text = text
told_lines (Some number) text = numbered_lines number text
