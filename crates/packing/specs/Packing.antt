-- What packing answers, and what it leaves in the buffer.
use Rattle.std.specs.Prelude.{◌≡◌, ℕ, ◌+◌, ◌≤◌, cond, List, ◌++◌, length, take, drop, Ok, Err, Result, nat_lt}
use Rattle.store.specs.Pairs.{Pair, Lawful}
use Rattle.bundle.specs.Layout.{written, opened}
use Rattle.packing.specs.declared.PackRefusal.{PackRefusal}
use Rattle.packing.specs.declared.PackRefusal.TheVariants.{TooLong, TooShort}

-- A bundle over 16,777,216 bytes is refused, and one that is longer than the buffer: then the buffer stays as it was.
-- Any other stands at the buffer's front, and what lay behind it stays.
unfoldable pub packed : List Pair → List ℕ → Result ℕ PackRefusal × List ℕ
packed ps out =
    cond (nat_lt 16777216 (length (written ps))) (Err TooLong, out)
    (cond (nat_lt (length out) (length (written ps))) (Err TooShort, out)
    (Ok (length (written ps)), written ps ++ drop (length (written ps)) out))

-- What is written opens as the same pairs.
abbrev pub OpensAgain : Type 0
OpensAgain = (ps : List Pair) → Lawful ps → length (written ps) ≤ 16777216 → opened (written ps) ≡ ps

-- Where packing answers a length, that many bytes at the buffer's front open as the pairs.
abbrev pub OpensPacked : Type 0
OpensPacked = (ps : List Pair) (out : List ℕ) (n : ℕ) → Lawful ps → (packed ps out).0 ≡ Ok n → opened (take n (packed ps out).1) ≡ ps

-- Writing by parts.

-- the buffer with the bytes bs at a place, over what stood there
unfoldable pub over : List ℕ → ℕ → List ℕ → List ℕ
over out place bs = take place out ++ (bs ++ drop (place + length bs) out)
