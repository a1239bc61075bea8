-- The words of a line.
use Rattle.std.specs.Prelude.{ℕ, List, ◌==◌}
use Rattle.std.specs.List.{before_first, after_first}

-- the bytes in front of the first blank, or all if there is none
abbrev pub first_word : List ℕ → List ℕ
first_word text = before_first (λ b. b == 32) text

-- the bytes behind the first blank, or none if there is none
abbrev pub other_words : List ℕ → List ℕ
other_words text = after_first (λ b. b == 32) text
