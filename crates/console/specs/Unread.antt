-- What is told of a text that is no hexadecimal one.
use Rattle.std.specs.Prelude.{◌≡◌, ◌-◌, ◌%◌, ◌⊎◌, ℕ, List, Some, length, take, codes, IsOk, IsErr}
use Rattle.anyhow.specs.declared.error.Error.{Error}
use Rattle.anyhow.specs.Error.{HasMessage}
use Rattle.hex.specs.Hex.{decode_of}

-- the bytes in whole pairs
abbrev pub paired : List ℕ → List ℕ
paired text = take (length text - length text % 2) text

-- a pair is wrong, or all are right and a byte is left over, or there was no memory
abbrev pub Unread : List ℕ → Error → Type 0
Unread text e =
    (IsErr (decode_of (paired text)) × HasMessage (Some (codes "no hexadecimal digit")) e)
    ⊎ (IsOk (decode_of (paired text)) × (length text % 2 ≡ 1) × HasMessage (Some (codes "half a byte")) e)
    ⊎ HasMessage (Some (codes "memory allocation failed")) e
