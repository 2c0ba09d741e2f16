-- The white space from a place on.
use Rattle.std.proofs.Common.{◌≡◌, ℕ, suc, ◌+◌, ◌<◌, ◌≤◌, Bool, true, false, cond, List, [], ◌∷◌, length, get_or, drop, ap, ◌∙◌, arith, length-drop}
use Rattle.std.proofs.lemmas.List.{drop_more, drop_all}
use Rattle.std.proofs.lemmas.Bool.{cond-true, cond-false}
use Rattle.syntax.specs.Bytes.{white, whites, gap}

whites_within : (l : List ℕ) → whites l ≤ length l
whites_within [] = omega arith
whites_within (b ∷ l) = split (white b) (whites_within l)
  where
    split : (t : Bool) → whites l ≤ length l → cond t (suc (whites l)) 0 ≤ length (b ∷ l)
    split true h = omega arith
    split false h = omega arith

pub gap_from : (s : List ℕ) (i : ℕ) → i ≤ gap s i
unfolding gap
gap_from s i = omega arith

pub gap_within : (s : List ℕ) (i : ℕ) → i ≤ length s → gap s i ≤ length s
unfolding gap
gap_within s i h = omega (arith, whites_within (drop i s), length-drop i s)

pub gap_white : (s : List ℕ) (i : ℕ) → i < length s → white (get_or s i 0) ≡ true → gap s i ≡ gap s (i + 1)
unfolding gap
gap_white s i h w = ap (λ l. i + whites l) (drop_more s i 0 h) ∙ ap (λ n. i + n) (cond-true (white (get_or s i 0)) (suc (whites (drop (i + 1) s))) 0 w) ∙ (let n = whites (drop (i + 1) s) in let e : i + suc n ≡ i + 1 + n = omega arith in e)

pub gap_solid : (s : List ℕ) (i : ℕ) → i < length s → white (get_or s i 0) ≡ false → gap s i ≡ i
unfolding gap
gap_solid s i h w = ap (λ l. i + whites l) (drop_more s i 0 h) ∙ ap (λ n. i + n) (cond-false (white (get_or s i 0)) (suc (whites (drop (i + 1) s))) 0 w) ∙ (let e : i + 0 ≡ i = omega arith in e)

pub gap_end : (s : List ℕ) (i : ℕ) → length s ≤ i → gap s i ≡ i
unfolding gap
gap_end s i h = ap (λ l. i + whites l) (drop_all i s h) ∙ (let e : i + 0 ≡ i = omega arith in e)
