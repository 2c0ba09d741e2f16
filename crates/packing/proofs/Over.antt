-- Bytes written over a part of a list.
use Rattle.std.proofs.Common.{◌≡◌, ℕ, ◌+◌, ◌-◌, ◌≤◌, List, [], ◌++◌, length, take, drop, sym, refl, ap, ◌∙◌, append_assoc, add-zero, zero-add, arith, length-append, take-append-drop}
use borrow.Rule.Slice.PartMut.{put_mid}
use Rattle.std.proofs.lemmas.List.{length-take-le, take_at, drop_at, drop-drop}
use Rattle.packing.specs.Packing.{over}

-- what a write to the part from p on leaves
pub put_over : (out : List ℕ) (p : ℕ) (bs ys : List ℕ) → ys ≡ bs → put_mid p (p + length bs - p) out ys ≡ over out p bs
unfolding over
put_over out p bs ys e =
    let long : p + length bs - p ≡ length bs = omega arith in
    ap (λ (k : ℕ). take p out ++ (ys ++ drop k (drop p out))) long
    ∙ ap (λ (v : List ℕ). take p out ++ (v ++ drop (length bs) (drop p out))) e
    ∙ ap (λ (v : List ℕ). take p out ++ (bs ++ v)) (drop-drop (length bs) p out)

-- nothing is written
pub over_none : (out : List ℕ) (p : ℕ) → over out p [] ≡ out
unfolding over
over_none out p = ap (λ (k : ℕ). take p out ++ drop k out) (add-zero p) ∙ take-append-drop p out

-- at the front
pub over_front : (out bs : List ℕ) → over out 0 bs ≡ bs ++ drop (length bs) out
unfolding over
over_front out bs = ap (λ (k : ℕ). bs ++ drop k out) (zero-add (length bs))

-- Written one behind the other is written in one.
module _ (out : List ℕ) (p : ℕ) (s : List ℕ) (room : p ≤ length out) where
  parted : over out p s ≡ (take p out ++ s) ++ drop (p + length s) out
  unfolding over
  parted = sym (append_assoc (take p out) s (drop (p + length s) out))

  long : length (take p out ++ s) ≡ p + length s
  long = length-append (take p out) s ∙ ap (λ (k : ℕ). k + length s) (length-take-le p out room)

  before : take (p + length s) (over out p s) ≡ take p out ++ s
  before = ap (take (p + length s)) parted ∙ take_at (take p out ++ s) (drop (p + length s) out) (p + length s) long

  behind : drop (p + length s) (over out p s) ≡ drop (p + length s) out
  behind = ap (drop (p + length s)) parted ∙ drop_at (take p out ++ s) (drop (p + length s) out) (p + length s) long

  farther : (n : ℕ) → drop (p + length s + n) (over out p s) ≡ drop (p + length s + n) out
  farther n =
      sym (drop-drop n (p + length s) (over out p s)) ∙ ap (drop n) behind ∙ drop-drop n (p + length s) out

  pub over_over : (t : List ℕ) → over (over out p s) (p + length s) t ≡ over out p (s ++ t)
  unfolding over
  over_over t =
      let sum : p + length s + length t ≡ p + length (s ++ t) = omega (arith, length-append s t) in
      ap (λ (v : List ℕ). v ++ (t ++ drop (p + length s + length t) (over out p s))) before
      ∙ ap (λ (v : List ℕ). (take p out ++ s) ++ (t ++ v)) (farther (length t) ∙ ap (λ (k : ℕ). drop k out) sum)
      ∙ append_assoc (take p out) s (t ++ drop (p + length (s ++ t)) out)
      ∙ ap (λ (v : List ℕ). take p out ++ v) (sym (append_assoc s t (drop (p + length (s ++ t)) out)))

-- A second write that begins where the first ended.
pub then_over : (out b d : List ℕ) (p q : ℕ) (s t : List ℕ) → p ≤ length out → b ≡ over out p s → q ≡ p + length s → d ≡ over b q t → d ≡ over out p (s ++ t)
then_over out b d p q s t room first end second =
    second ∙ ap (λ (v : List ℕ). over v q t) first ∙ ap (λ (k : ℕ). over (over out p s) k t) end ∙ over_over out p s room t

-- the first of what is left to write, and the rest behind it
pub over_step : (out b rest : List ℕ) (p q : ℕ) (first s : List ℕ) → s ≡ first ++ rest → p ≤ length out → b ≡ over out p first → q ≡ p + length first
    → over b q rest ≡ over out p s
over_step out b rest p q first s e room one end = then_over out b (over b q rest) p q first rest room one end refl ∙ ap (over out p) (sym e)
