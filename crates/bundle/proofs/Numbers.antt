-- Numbers in bytes, the high byte first.
use Rattle.std.proofs.Common.{◌≡◌, ℕ, ◌+◌, ◌*◌, ◌/◌, ◌%◌, ◌<◌, List, [], ◌∷◌, ◌++◌, take, refl, arith}
use Rattle.bundle.specs.Layout.{in_two, in_four, two, four}

pub four_back : (n : ℕ) (t : List ℕ) → four (in_four n ++ t) ≡ n
four_back n t = omega arith

-- the first four bytes decide
pub four_taken : (t xs : List ℕ) → xs ≡ take 4 t → four xs ≡ four t
four_taken [] xs e = rw e refl
four_taken (a ∷ []) xs e = rw e refl
four_taken (a ∷ b ∷ []) xs e = rw e refl
four_taken (a ∷ b ∷ c ∷ []) xs e = rw e refl
four_taken (a ∷ b ∷ c ∷ d ∷ t) xs e = rw e refl

pub in_two_back : (a b : ℕ) (t : List ℕ) → b < 256 → in_two (two (a ∷ b ∷ t)) ≡ a ∷ b ∷ []
in_two_back a b t k =
    let high : (a * 256 + b) / 256 ≡ a = omega arith in
    let low : (a * 256 + b) % 256 ≡ b = omega arith in
    cc

pub in_four_back : (a b c d : ℕ) (t : List ℕ) → b < 256 → c < 256 → d < 256 → in_four (four (a ∷ b ∷ c ∷ d ∷ t)) ≡ a ∷ b ∷ c ∷ d ∷ []
in_four_back a b c d t h k l =
    let n = a * 16777216 + b * 65536 + c * 256 + d in
    let p : n / 16777216 ≡ a = omega arith in
    let q : n / 65536 % 256 ≡ b = omega arith in
    let r : n / 256 % 256 ≡ c = omega arith in
    let s : n % 256 ≡ d = omega arith in
    cc
