-- The paths above a path.
use Rattle.std.proofs.Common.{◌≡◌, ◌≢◌, ℕ, zero, suc, ◌+◌, ◌-◌, ◌<◌, ◌≤◌, Some, None, sym, ap, add-zero, zero-le, ◌&&◌, eqb, ltb, List, [], ◌∷◌, length, get_or, take, refl, ◌∙◌, subst, ⊎_elim, arith, length-take-le, get_or-take, take-take}
use Rattle.std.specs.List.{ContainsAt, AllByRecursion}
use Rattle.std.proofs.ByRecursion.{all-has, has_append_right, All-get_or, All-weaker}
use Rattle.std.proofs.lemmas.Bool.{ltb-true, eqb-true, lt-ltb, eq-eqb, ne_eqb, and_parts, and_from, and_right, cond_both, cond-true, cond-false, cases_eq}
use Rattle.store.specs.Paths.{cuts_below, cuts, Above, Falling, CutsLaw, LastSlash}

-- where the byte is a slash past the first byte, there is a cut
pub cut_at : (p : List ℕ) (i : ℕ) → 0 < i → get_or p i 0 ≡ 47 → cuts_below p (suc i) ≡ take i p ∷ cuts_below p i
cut_at p i past slash = cond-true _ _ _ (and_from _ _ (lt-ltb 0 i past) (eq-eqb _ _ slash))

-- where it is not, there is none
pub no_cut_at : (p : List ℕ) (i : ℕ) → (get_or p i 0 ≡ 47 → ⊥) → cuts_below p (suc i) ≡ cuts_below p i
no_cut_at p i other = cond-false _ _ _ (and_right _ _ (ne_eqb _ _ other))

-- places inside a front have the same cuts in the front as in the whole
pub cuts_of_front : (p : List ℕ) (n m : ℕ) → m ≤ n → cuts_below (take n p) m ≡ cuts_below p m
cuts_of_front p n zero h = refl
cuts_of_front p n (suc i) h =
    let less : i < n = h in
    let le : i ≤ n = omega arith in
    rw (get_or-take n p i 0 less, take-take i n p le, cuts_of_front p n i le)

-- the cuts of the front before the place n are the cuts below n
pub cuts_of_take : (p : List ℕ) (n : ℕ) → n ≤ length p → cuts (take n p) ≡ cuts_below p n
unfolding cuts
cuts_of_take p n h = rw (length-take-le n p h) (cuts_of_front p n n (omega arith))

-- what holds with a new cut at i, and without one, holds of the cuts below the next place
pub by_cut : (p : List ℕ) (i : ℕ) (P : List (List ℕ) → Type 0)
    → (0 < i → get_or p i 0 ≡ 47 → P (take i p ∷ cuts_below p i)) → P (cuts_below p i) → P (cuts_below p (suc i))
by_cut p i P cut none =
    cond_both (ltb 0 i && eqb (get_or p i 0) 47) (take i p ∷ cuts_below p i) (cuts_below p i) P
    (λ t. let b = and_parts _ _ t in cut (ltb-true 0 i b.0) (eqb-true _ _ b.1))
    (λ _. none)

-- each cut is the front before a slash
pub cuts_above : (p : List ℕ) (n : ℕ) → n ≤ length p → AllByRecursion (Above p) (cuts_below p n)
cuts_above p zero h = tt
cuts_above p (suc i) h =
    let rest = cuts_above p i (omega arith) in
    by_cut p i (AllByRecursion (Above p)) (λ l e. (record { place = i; past = l; inside = h; slash = e; front = refl }, rest)) rest

-- one more in front of a list loses nothing
has_more : (x c : List ℕ) (cs : List (List ℕ)) → ContainsAt cs c → ContainsAt (x ∷ cs) c
has_more x c cs h = has_append_right (x ∷ []) cs c h

-- the front before a slash is the first of the cuts below the next place
head_cut : (p : List ℕ) (i : ℕ) → 0 < i → get_or p i 0 ≡ 47 → ContainsAt (cuts_below p (suc i)) (take i p)
head_cut p i past slash = rw (cut_at p i past slash) (0, omega arith, λ d. refl)

-- each front before a slash is a cut
pub above_cuts : (p : List ℕ) (n i : ℕ) → i < n → 0 < i → get_or p i 0 ≡ 47 → ContainsAt (cuts_below p n) (take i p)
above_cuts p zero i h past slash = absurd (omega arith)
above_cuts p (suc m) i h past slash =
    let Here : ℕ → Type 0 = λ k. ContainsAt (cuts_below p (suc k)) (take i p) in
    let later : ContainsAt (cuts_below p m) (take i p) → Here m = λ rest. by_cut p m (λ cs. ContainsAt cs (take i p)) (λ _ _. has_more (take m p) (take i p) _ rest) rest in
    ⊎_elim (λ e. subst Here e (head_cut p i past slash)) (λ other. later (above_cuts p m i (omega arith) past slash)) (cases_eq i m)

-- a cut below the place n is shorter than n
pub cuts_short : (p : List ℕ) (n : ℕ) → n ≤ length p → AllByRecursion (λ c. length c < n) (cuts_below p n)
cuts_short p zero h = tt
cuts_short p (suc i) h =
    let Short : ℕ → List ℕ → Type 0 = λ n c. length c < n in
    let rest = All-weaker (Short i) (Short (suc i)) (λ c l. omega arith) (cuts_below p i) (cuts_short p i (omega arith)) in
    by_cut p i (AllByRecursion (Short (suc i))) (λ _ _. (rw (length-take-le i p (omega arith)) (omega arith), rest)) rest

-- a list falls where its first is longer than the others, and these fall
pub falling_more : (c : List ℕ) (cs : List (List ℕ)) → AllByRecursion (λ d. length d < length c) cs → Falling cs → Falling (c ∷ cs)
falling_more c cs a f zero zero h = absurd (omega arith)
falling_more c cs a f zero (suc j) h = All-get_or (λ d. length d < length c) cs j [] (omega arith) a
falling_more c cs a f (suc i) zero h = absurd (omega arith)
falling_more c cs a f (suc i) (suc j) h = f i j (omega arith, omega arith)

-- the cuts stand in falling length
pub cuts_falling : (p : List ℕ) (n : ℕ) → n ≤ length p → Falling (cuts_below p n)
cuts_falling p zero h = λ i j l. absurd (omega arith)
cuts_falling p (suc m) h =
    let le : m ≤ length p = omega arith in
    let rest = cuts_falling p m le in
    by_cut p m Falling
    (λ _ _. falling_more (take m p) (cuts_below p m) (rw (length-take-le m p le) (cuts_short p m le)) rest)
    rest

-- the cuts of p are the paths above p, in falling length
pub cuts_law : (p : List ℕ) → CutsLaw p
unfolding cuts
cuts_law p = (
  λ c h. all-has (Above p) (cuts p) c (cuts_above p (length p) (omega arith)) h,
  λ c a. rw a.front (above_cuts p (length p) a.place a.inside a.past a.slash),
  cuts_falling p (length p) (omega arith),
)

-- where no slash stands from the place i on, the cuts are those below i
cuts_lower : (p : List ℕ) (i k : ℕ) → ((j : ℕ) → i ≤ j → j < i + k → get_or p j 0 ≢ 47) → cuts_below p (i + k) ≡ cuts_below p i
cuts_lower p i zero none = ap (cuts_below p) (add-zero i)
cuts_lower p i (suc k) none =
    let sum : i + suc k ≡ suc (i + k) = omega arith in
    ap (cuts_below p) sum ∙ no_cut_at p (i + k) (none (i + k) (omega arith) (omega arith)) ∙ cuts_lower p i k (λ j l m. none j l (omega arith))

cuts_from : (p : List ℕ) (i : ℕ) → i ≤ length p → ((j : ℕ) → i ≤ j → j < length p → get_or p j 0 ≢ 47) → cuts p ≡ cuts_below p i
unfolding cuts
cuts_from p i h none =
    let sum : length p ≡ i + (length p - i) = omega arith in
    ap (cuts_below p) sum ∙ cuts_lower p i (length p - i) (λ j l m. none j l (omega arith))

-- the front before the last slash is the nearest path above p
pub cuts_nearest : (p : List ℕ) (i : ℕ) → LastSlash p (Some i) → 0 < i → cuts p ≡ take i p ∷ cuts (take i p)
cuts_nearest p i h past =
    cuts_from p (suc i) h.0 (λ j l. h.2 j l) ∙ cut_at p i past h.1 ∙ ap (λ cs. take i p ∷ cs) (sym (cuts_of_take p i (omega (arith, h.0))))

-- no path stands above p, where no slash stands past the first byte
pub cuts_none : (p : List ℕ) → LastSlash p None → cuts p ≡ []
cuts_none p h = cuts_from p 0 zero-le (λ j l. h j)

pub cuts_first : (p : List ℕ) → LastSlash p (Some 0) → cuts p ≡ []
cuts_first p h = cuts_from p 1 (omega (arith, h.0)) (λ j l. h.2 j (omega arith))
