-- Classes of bytes, and where a byte stands.
use Rattle.std.specs.Prelude.{ℕ, suc, ◌+◌, Bool, true, false, cond, not, ◌&&◌, ◌||◌, List, [], ◌∷◌, drop, ◌==◌, nat_le}

-- white space: space, tab, line feed, carriage return
abbrev pub white : ℕ → Bool
white b = b == 32 || b == 9 || b == 10 || b == 13

abbrev pub digit : ℕ → Bool
digit b = nat_le 48 b && nat_le b 57

abbrev pub hex : ℕ → Bool
hex b = digit b || (nat_le 65 b && nat_le b 70) || (nat_le 97 b && nat_le b 102)

-- what may follow a backslash, but for the u: " \ / b f n r t
abbrev pub escaped : ℕ → Bool
escaped b = b == 34 || b == 92 || b == 47 || b == 98 || b == 102 || b == 110 || b == 114 || b == 116

-- a byte that stands for itself in a string: no control byte, quote or backslash
abbrev pub unescaped : ℕ → Bool
unescaped b = nat_le 32 b && not (b == 34) && not (b == 92)

-- e or E, and + or -
abbrev pub mark : ℕ → Bool
mark b = b == 101 || b == 69

abbrev pub sign : ℕ → Bool
sign b = b == 43 || b == 45

-- how many bytes of white space a list begins with
abbrev pub whites : List ℕ → ℕ
whites [] = 0
whites (b ∷ bs) = cond (white b) (suc (whites bs)) 0

-- the first place from i on that has no white space
unfoldable pub gap : List ℕ → ℕ → ℕ
gap s i = i + whites (drop i s)

abbrev pub equal : List ℕ → List ℕ → Bool
equal [] [] = true
equal [] (y ∷ ys) = false
equal (x ∷ xs) [] = false
equal (x ∷ xs) (y ∷ ys) = x == y && equal xs ys

-- What a name or a string says, of the bytes between its quotes: those bytes. Every comparison of names and strings goes
-- through it.
abbrev pub contents : List ℕ → List ℕ
contents n = n

abbrev pub same : List ℕ → List ℕ → Bool
same a b = equal (contents a) (contents b)
