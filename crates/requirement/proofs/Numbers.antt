-- Whole numbers, counts and versions: what reads as one, and what the rules call one.
use Rattle.std.proofs.Common.{◌≡◌, ℕ, ◌≤◌, Bool, true, false, cond, ◌&&◌, eqb, ltb, leb, ◌↔◌, List, [], ◌∷◌, length, ℤ, pos, negsuc, is_some, Some, None, Decides, Option, sym, refl, ap, ◌∙◌, subst, arith}
use Rattle.std.specs.Option.{option_map}
use Rattle.std.specs.List.{AllByRecursion}
use Rattle.std.proofs.lemmas.Bool.{both_ways, le-leb, leb-true, eqb-true, ne_eqb}
use Rattle.std.proofs.lemmas.Bool.Decides.{Decides-and, Decides-like, Decides-ltb}
use Rattle.std.proofs.ByRecursion.{Decides-by_and}
use Rattle.syntax.specs.Bytes.{digit}
use Rattle.syntax.specs.Value.{Value}
use Rattle.syntax.specs.Value as v
use Rattle.syntax.specs.Walking.{all_digits, decimal, natural, negative, whole}
use Rattle.syntax.specs.Contents.{whole_number}
use Rattle.requirement.specs.Words.{◌of◌, greatest, bounded, not_negative, count, scalar, Number}
use Rattle.requirement.specs.Law.{Digits, Whole, plain, minus, ACount, counts, AScalar, ANumber, is_number}
use Rattle.requirement.specs.Law as law

-- options that are something
pub some_decides : {A : Type 0} (o : Option A) → Decides (is_some o) ((a : A) × (o ≡ Some a))
some_decides (Some a) = (λ _. (a, refl), λ _. refl)
some_decides None = (λ e. absurd (both_ways false refl e), λ q. ap is_some q.1)

pub some_when : {A : Type 0} (b : Bool) (a x : A) → (cond b (Some a) None ≡ Some x) ↔ ((b ≡ true) × (a ≡ x))
some_when true a x = (λ e. (refl, cc), λ q. ap Some q.1)
some_when false a x = (λ e. absurd (both_ways false refl (ap is_some e)), λ q. absurd (both_ways false refl q.0))

pub some_mapped : {A B : Type 0} (f : A → B) (o : Option A) (y : B) → (option_map f o ≡ Some y) ↔ ((x : A) × (o ≡ Some x) × (f x ≡ y))
some_mapped f (Some a) y = (λ e. (a, refl, cc), λ q. let e = q.1 in let g = q.2 in let h : a ≡ q.0 = cc in ap (λ x. Some (f x)) h ∙ ap Some g)
some_mapped f None y = (λ e. absurd (both_ways false refl (ap is_some e)), λ q. absurd (both_ways false refl (ap is_some q.1)))

pub some_of : {A B : Type 0} (f : A → Option B) (o : Option A) (y : B) → (f of o ≡ Some y) ↔ ((x : A) × (o ≡ Some x) × (f x ≡ Some y))
some_of f (Some a) y = (λ e. (a, refl, e), λ q. let e = q.1 in let h : a ≡ q.0 = cc in ap f h ∙ q.2)
some_of f None y = (λ e. absurd (both_ways false refl (ap is_some e)), λ q. absurd (both_ways false refl (ap is_some q.1)))

-- digits
all_digits_decides : (s : List ℕ) → Decides (all_digits s) (AllByRecursion (λ b. (48 ≤ b) × (b ≤ 57)) s)
all_digits_decides = Decides-by_and digit (λ b. (48 ≤ b) × (b ≤ 57)) all_digits (λ b. Decides-and (leb 48 b) (leb b 57) (leb-true 48 b, le-leb 48 b) (leb-true b 57, le-leb b 57)) refl (λ _ _. refl)

abbrev eighteen : List ℕ → Bool
eighteen s = all_digits s && (ltb 0 (length s) && leb (length s) 18)

digits_decide : (s : List ℕ) → Decides (eighteen s) (Digits 18 s)
digits_decide s =
    let k = length s in
    Decides-like (eighteen s) (λ q. record { some = q.1.0; few = q.1.1; all = q.0 }) (λ d. (d.all, (d.some, d.few)))
    (Decides-and (all_digits s) (ltb 0 k && leb k 18) (all_digits_decides s) (Decides-and (ltb 0 k) (leb k 18) (Decides-ltb 0 k) (leb-true k 18, le-leb k 18)))

pub natural_says : (s : List ℕ) (n : ℕ) → (natural s ≡ Some n) ↔ (Digits 18 s × (decimal 0 s ≡ n))
natural_says s n =
    let e = some_when (eighteen s) (decimal 0 s) n in
    (λ f. let q = e.0 f in ((digits_decide s).0 q.0, q.1), λ q. e.1 ((digits_decide s).1 q.0, q.1))

-- whole numbers
mapped_natural : (f : ℕ → ℤ) (s : List ℕ) (z : ℤ) → option_map f (natural s) ≡ Some z → Digits 18 s × (f (decimal 0 s) ≡ z)
mapped_natural f s z e =
    let q = (some_mapped f (natural s) z).0 e in
    let d = (natural_says s q.0).0 q.1 in
    (d.0, ap f d.1 ∙ q.2)

natural_mapped : (f : ℕ → ℤ) (s : List ℕ) → Digits 18 s → option_map f (natural s) ≡ Some (f (decimal 0 s))
natural_mapped f s d = ap (option_map f) ((natural_says s (decimal 0 s)).1 (d, refl))

reads_whole : (s : List ℕ) (z : ℤ) → whole s ≡ Some z → Whole s z
reads_whole [] z e = absurd (both_ways false refl (ap is_some e))
reads_whole (b ∷ s) z e = go (eqb b 45) refl e
  where
    go : (t : Bool) → eqb b 45 ≡ t → cond t (option_map negative (natural s)) (option_map pos (natural (b ∷ s))) ≡ Some z → Whole (b ∷ s) z
    go true is f =
        let q = mapped_natural negative s z f in
        subst (Whole (b ∷ s)) q.1 (subst (λ x. Whole (x ∷ s) (negative (decimal 0 s))) (sym (eqb-true b 45 is)) (minus q.0))
    go false is f = let q = mapped_natural pos (b ∷ s) z f in subst (Whole (b ∷ s)) q.1 (plain q.0)

plain_reads : (s : List ℕ) → Digits 18 s → whole s ≡ Some (pos (decimal 0 s))
plain_reads [] d = absurd (omega (arith, d.some))
plain_reads (b ∷ s) d = rw (ne_eqb b 45 (λ e. omega (arith, d.all.0.0))) (natural_mapped pos (b ∷ s) d)

whole_reads : (s : List ℕ) (z : ℤ) → Whole s z → whole s ≡ Some z
whole_reads s z (plain d) = plain_reads s d
whole_reads s z (minus {s = t} d) = natural_mapped negative t d

pub whole_says : (s : List ℕ) (z : ℤ) → (whole s ≡ Some z) ↔ Whole s z
whole_says s z = (reads_whole s z, whole_reads s z)

some_whole : (s : List ℕ) → Decides (is_some (whole s)) ((z : ℤ) × Whole s z)
some_whole s = Decides-like (is_some (whole s)) (λ q. (q.0, reads_whole s q.0 q.1)) (λ q. (q.0, whole_reads s q.0 q.1)) (some_decides (whole s))

is_some_mapped : {A B : Type 0} (f : A → B) (o : Option A) → is_some (option_map f o) ≡ is_some o
is_some_mapped f (Some a) = refl
is_some_mapped f None = refl

never : {P : Type 0} → (P → ⊥) → Decides false P
never no' = (λ e. absurd (both_ways false refl e), λ p. absurd (no' p))

-- values by themselves
pub number_decides : (x : Value) → Decides (is_some (whole_number x)) (ANumber x)
number_decides (v.literal i j w) = never (elim [ ])
number_decides (v.number i j s) = Decides-like (is_some (whole s)) (λ q. is_number q.1) (elim [ is_number {z = z} h ↦ (z, h) ]) (some_whole s)
number_decides (v.string i j s) = never (elim [ ])
number_decides (v.array i j vs) = never (elim [ ])
number_decides (v.object i j ms) = never (elim [ ])

pub scalar_decides : (x : Value) → Decides (is_some (scalar x)) (AScalar x)
scalar_decides (v.literal i j w) = (λ _. law.literal, λ _. refl)
scalar_decides (v.number i j s) = rw (is_some_mapped Number (whole s)) (Decides-like (is_some (whole s)) (λ q. law.number q.1) (elim [ law.number {z = z} h ↦ (z, h) ]) (some_whole s))
scalar_decides (v.string i j s) = (λ _. law.string, λ _. refl)
scalar_decides (v.array i j vs) = never (elim [ ])
scalar_decides (v.object i j ms) = never (elim [ ])

pub bounded_says : (m n : ℕ) → (bounded m ≡ Some n) ↔ ((m ≤ greatest) × (m ≡ n))
bounded_says m n =
    let e = some_when (leb m greatest) m n in
    (λ f. let q = e.0 f in (leb-true m greatest q.0, q.1), λ q. e.1 (le-leb m greatest q.0, q.1))

not_negative_is : (z : ℤ) (n : ℕ) → not_negative z ≡ Some n → z ≡ pos n
not_negative_is (pos m) n e = cc
not_negative_is (negsuc m) n e = absurd (both_ways false refl (ap is_some e))

counted : (i j : ℕ) (s : List ℕ) (n : ℕ) → count (v.number i j s) ≡ Some n → ACount (v.number i j s)
counted i j s n e =
    let q = (some_of bounded (not_negative of (whole s)) n).0 e in
    let m = q.0 in
    let r = (some_of not_negative (whole s) m).0 q.1 in
    counts (subst (Whole s) (not_negative_is r.0 m r.2) (reads_whole s r.0 r.1)) ((bounded_says m n).0 q.2).0

count_of : (s : List ℕ) (n : ℕ) → Whole s (pos n) → n ≤ greatest → (bounded of (not_negative of (whole s))) ≡ Some n
count_of s n w h = ap (λ o. bounded of (not_negative of o)) (whole_reads s (pos n) w) ∙ (bounded_says n n).1 (h, refl)

pub count_decides : (x : Value) → Decides (is_some (count x)) (ACount x)
count_decides (v.literal i j w) = never (elim [ ])
count_decides (v.number i j s) =
    let o = count (v.number i j s) in
    (λ e. let q = (some_decides o).0 e in counted i j s q.0 q.1, elim [ counts {n = n} w h ↦ ap is_some (count_of s n w h) ])
count_decides (v.string i j s) = never (elim [ ])
count_decides (v.array i j vs) = never (elim [ ])
count_decides (v.object i j ms) = never (elim [ ])
