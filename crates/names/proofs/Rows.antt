-- Laws of names: their bytes, what `same` says of these, and which rows stand in a list.
use Rattle.std.proofs.Common.{◌≡◌, ℕ, zero, suc, ◌+◌, ◌<◌, ◌≤◌, true, ◌⊎◌, List, [], ◌∷◌, ◌++◌, length, get_or, Some, None, Option, option_map, Decides, refl, ap, inl, inr, arith, rules}
use Rattle.std.specs.List.{between, ContainsAt}
use Rattle.std.proofs.lemmas.Bool.{le-leb, lt-ltb, and_from, cond-true}
use Rattle.std.proofs.lemmas.Slice.Eq.{compares_Decides}
use Rattle.std.proofs.ByRecursion.{all-has, all_has_itself, All-append, All-weaker}
use Rattle.syntax.specs.Bytes.{same}
use Rattle.names.specs.declared.span.Span.{Span}
use Rattle.names.specs.Repeats.{bytes_of, FirstRepeat}

pub bytes_inside : (s : List ℕ) (n : Span) → n.start < n.end → n.end ≤ length s → bytes_of s n ≡ between (n.start + 1) n.end s
unfolding bytes_of
bytes_inside s n l h = cond-true _ _ _ (and_from _ _ (lt-ltb _ _ l) (le-leb _ _ h))

-- same is equality
same_Decides : (a b : List ℕ) → Decides (same a b) (a ≡ b)
same_Decides = compares_Decides same (search rules)

pub same_eq : (a b : List ℕ) → same a b ≡ true → a ≡ b
same_eq a b = (same_Decides a b).0

pub same_refl : (a : List ℕ) → same a a ≡ true
same_refl a = (same_Decides a a).1 refl

-- in one part of a list or the other
pub has_append_cases : {X : Type 0} (xs ys : List X) (x : X) → ContainsAt (xs ++ ys) x → ContainsAt xs x ⊎ ContainsAt ys x
has_append_cases {X} xs ys x h =
    let P : X → Type 0 = λ y. ContainsAt xs y ⊎ ContainsAt ys y in
    all-has P (xs ++ ys) x (All-append P xs ys (All-weaker (ContainsAt xs) P (λ y m. inl m) xs (all_has_itself xs)) (All-weaker (ContainsAt ys) P (λ y m. inr m) ys (all_has_itself ys))) h

pub has_none : {X : Type 0} (x : X) → ContainsAt [] x → ⊥
has_none x h = omega (arith, h.1)

has_at : {X : Type 0} (y : X) (ys : List X) (x : X) (k : ℕ) → k < suc (length ys) → ((d : X) → get_or (y ∷ ys) k d ≡ x) → (y ≡ x) ⊎ ContainsAt ys x
has_at y ys x zero l e = inl (e x)
has_at y ys x (suc k) l e = inr (k, omega arith, e)

pub has_cons_cases : {X : Type 0} (y : X) (ys : List X) (x : X) → ContainsAt (y ∷ ys) x → (y ≡ x) ⊎ ContainsAt ys x
has_cons_cases y ys x h = has_at y ys x h.0 h.1 h.2

pub has_first : {X : Type 0} (y : X) (ys : List X) → ContainsAt (y ∷ ys) y
has_first y ys = (0, omega arith, λ d. refl)

pub has_rest : {X : Type 0} (y : X) (ys : List X) (x : X) → ContainsAt ys x → ContainsAt (y ∷ ys) x
has_rest y ys x h = (suc h.0, omega (arith, h.1), h.2)

-- two first repeats end at one place
pub first_one : (s : List ℕ) (ns : List Span) (o r : Option Span) → FirstRepeat s ns o → FirstRepeat s ns r → option_map (λ n. n.end) o ≡ option_map (λ n. n.end) r
first_one s ns None None h k = refl
first_one s ns None (Some n) h k = absurd (h n k.0)
first_one s ns (Some m) None h k = absurd (k m h.0)
first_one s ns (Some m) (Some n) h k = ap Some (omega (arith, h.1 n k.0, k.1 m h.0))
